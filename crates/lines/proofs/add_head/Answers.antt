-- `add_head` meets its contract: one thing after the other. Assumes nothing.
use Rattle.words.proofs.AddedLaws.{added_then}
use Rattle.lines.specs.Text.{group_line}
use Rattle.lines.proofs.add_head.Goals as goal

pub returns : goal.returns
unfolding group_line
returns c = added_then _ _ _ _ _ _ _ c.add_labelled.ensures (added_then _ _ _ _ _ _ _ c.add_labelled-2.ensures c.add_byte.ensures)
