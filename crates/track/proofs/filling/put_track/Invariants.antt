-- `put_track` meets its contract: a block a turn. Assumes nothing.
use mathlib.Core.List.{List}
use Prim.Native.Nat.{ℕ}
use Rattle.items.proofs.Turns.{Filled}
use Rattle.block.specs.Block.{block_of}
use Rattle.track.specs.Blocks.{pack_in, places_in}
use Rattle.track.proofs.filling.put_track.Given as goal

-- Each block of the track.
abbrev pub made : (area : ℕ) (packs items : List ℕ) → ℕ → List ℕ
made area packs items block = block_of area (pack_in packs block) block (places_in items block)

abbrev pub invariant-loop-block : goal.invariant-loop-block
invariant-loop-block l = Filled (made l.area l.packs l.fn.items) 35 16 l.initial.track l.track l.block
