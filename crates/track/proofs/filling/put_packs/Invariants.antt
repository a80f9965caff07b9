-- `put_packs` meets its contract: an even block's Pack ID a turn. Assumes nothing.
use mathlib.Core.List.{List, [], ◌∷◌}
use Prim.Native.Nat.{ℕ, ◌*◌}
use Rattle.header.specs.Header.{pack_of}
use Rattle.items.proofs.Turns.{Filled}
use Rattle.block.specs.Block.{sw2_in}
use Rattle.track.specs.Blocks.{block_at}
use Rattle.track.proofs.filling.put_packs.Given as goal

-- The Pack ID of each even block.
abbrev pub held : List ℕ → ℕ → List ℕ
held track k = pack_of (sw2_in (block_at track (2 * k))) ∷ []

abbrev pub invariant-loop-k : goal.invariant-loop-k
invariant-loop-k l = Filled (held l.track) 1 8 l.initial.packs l.packs l.k
