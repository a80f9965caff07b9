-- `put_packs` meets its contract: an even block's Pack ID a turn. Assumes nothing.
use mathlib.Core.Path.{◌≡◌, refl}
use mathlib.Core.List.{List}
use Prim.Native.Nat.{ℕ, ◌+◌, ◌*◌}
use native.Mathlib.Omega.{arith}
use borrow.Author.Rules.{rules}
use lib.ListN.{get_or, set, length-set}
use Rattle.numbers.specs.Store.{put}
use Rattle.header.specs.Header.{pack_of}
use Rattle.items.proofs.Turns.{filled_turn, filled_done}
use Rattle.track.specs.Blocks.{packs_of}
use Rattle.track.proofs.BlockLaws.{sw2_at}
use Rattle.track.proofs.filling.put_packs.Invariants.{held}
use Rattle.track.proofs.filling.put_packs.Goals as goal

stored : (k pack : ℕ) (track now : List ℕ) → pack ≡ pack_of (get_or track (35 * (2 * k) + 1) 0) → set now k pack ≡ put now (1 * k) (held track k)
unfolding put
stored k pack track now e =
    let one : 1 * k ≡ k = omega arith in
    rw (one, sw2_at track (2 * k), ← e)

pub loop-k-preserved : goal.loop-k-preserved
loop-k-preserved c =
    filled_turn (held _) 1 8 _ _ _ c.loop-k.k c.loop-k-test.true refl (simp length-set) (stored c.loop-k.k _ c.args.track.now _ c.pack_of.ensures) c.loop-k.invariant

pub returns : goal.returns
unfolding packs_of
returns c = filled_done (held _) 1 8 (λ k less. refl) _ _ c.loop-k.k (search rules) (search rules) c.loop-k.invariant
