-- `put_track` meets its contract: a block a turn. Assumes nothing.
use mathlib.Core.Path.{ap, ◌∙◌}
use Prim.Native.Nat.{ℕ, ◌*◌}
use borrow.Author.Rules.{rules}
use Rattle.items.proofs.Turns.{filled_part, filled_done}
use Rattle.track.specs.Blocks.{track_of}
use Rattle.track.proofs.BlockLaws.{places_read, blocks_wide}
use Rattle.track.proofs.filling.put_track.Invariants.{made}
use Rattle.track.proofs.filling.put_track.Goals as goal

pub loop-block-preserved : goal.loop-block-preserved
loop-block-preserved c =
    let less = c.loop-block-test.true in
    filled_part (made _ _ _) 35 16 _ _ _ c.loop-block.block _ _ less (ap (λ (k : ℕ). 35 * k) c.from-k.ensures) (search rules)
    (c.put_block.ensures ∙ rw (c.pack_in-pack.ensures, c.as_chunks.ensures.front, places_read c.args.items.now c.loop-block.block c.from-k.result (search rules) less c.from-k.ensures))
    (blocks_wide _ _ c.args.items.now (search rules) _ less) (search rules) c.loop-block.invariant

pub returns : goal.returns
unfolding track_of
returns c =
    filled_done (made _ _ _) 35 16 (blocks_wide _ _ c.args.items.now (search rules)) _ _ c.loop-block.block (search rules) (search rules) c.loop-block.invariant
