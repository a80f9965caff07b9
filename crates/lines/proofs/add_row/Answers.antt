-- `add_row` meets its contract: one thing after the other. Assumes nothing.
use Rattle.words.proofs.AddedLaws.{added_then}
use Rattle.lines.specs.Text.{row_line}
use Rattle.lines.proofs.add_row.Goals as goal

pub returns : goal.returns
unfolding row_line
returns c = added_then _ _ _ _ _ _ _ c.add_kind.ensures (added_then _ _ _ _ _ _ _ c.add_field.ensures (added_then _ _ _ _ _ _ _ c.add_field-2.ensures c.add_byte.ensures))
