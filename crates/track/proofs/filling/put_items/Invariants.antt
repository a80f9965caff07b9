-- `put_items` meets its contract: a block's four places a turn. Assumes nothing.
use mathlib.Core.List.{List}
use Prim.Native.Nat.{ℕ}
use Rattle.items.proofs.Turns.{Filled}
use Rattle.block.specs.Block.{data_part_in}
use Rattle.track.specs.Blocks.{block_at}
use Rattle.track.proofs.filling.put_items.Given as goal

-- What stands at the places of each block.
abbrev pub stands : List ℕ → ℕ → List ℕ
stands track block = data_part_in (block_at track block)

abbrev pub invariant-loop-block : goal.invariant-loop-block
invariant-loop-block l = Filled (stands l.track) 32 16 l.initial.items l.items l.block
