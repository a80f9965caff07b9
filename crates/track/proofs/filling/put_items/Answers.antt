-- `put_items` meets its contract: a block's four places a turn. Assumes nothing.
use mathlib.Core.Path.{refl, ◌∙◌}
use Prim.Native.Nat.{◌<◌}
use borrow.Author.Rules.{rules}
use Rattle.items.proofs.Turns.{filled_part, filled_done}
use Rattle.track.specs.Blocks.{items_of}
use Rattle.track.proofs.BlockLaws.{length_data_part_at, data_part_read}
use Rattle.track.proofs.filling.put_items.Invariants.{stands}
use Rattle.track.proofs.filling.put_items.Goals as goal

pub loop-block-preserved : goal.loop-block-preserved
loop-block-preserved c =
    let less : c.loop-block.block < 16 = search rules in
    filled_part (stands _) 32 16 _ _ _ c.loop-block.block _ _ less refl (search rules)
    (c.copy_from_slice.ensures.after ∙ rw c.as_chunks.ensures.front (data_part_read c.args.track.now (search rules) c.loop-block.block less))
    (length_data_part_at c.args.track.now (search rules) _ less) (search rules) c.loop-block.invariant

pub returns : goal.returns
unfolding items_of
returns c =
    filled_done _ 32 16 (length_data_part_at c.args.track.now (search rules)) _ _ c.loop-block.block (search rules) (search rules) c.loop-block.invariant
