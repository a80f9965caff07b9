-- `add_refusal` meets its contract: one thing after the other. Assumes nothing.
use Rattle.words.proofs.AddedLaws.{added_then}
use Rattle.lines.specs.Text.{refusal_line}
use Rattle.lines.proofs.add_refusal.Goals as goal

pub returns : goal.returns
unfolding refusal_line
returns c = added_then _ _ _ _ _ _ _ c.add_labelled.ensures (added_then _ _ _ _ _ _ _ c.add_labelled-2.ensures c.add_byte.ensures)
