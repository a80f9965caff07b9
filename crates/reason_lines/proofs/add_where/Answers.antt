-- `add_where` meets its contract: one thing after the other. Assumes nothing.
use Rattle.std.proofs.Common.{◌+◌, length, refl, arith}
use Rattle.words.proofs.AddedLaws.{added_then, added_as}
use Rattle.reason_lines.specs.Lines.{where_line}
use Rattle.reason_lines.proofs.add_where.Goals as goal

pub returns : goal.returns
unfolding where_line
returns c =
    rw (← c.wrong.ensures.words)
    (added_as (16 + (16 + (2 + (length c.wrong.result.now + 1)))) _ _ _ _ _ refl (omega (arith, c.wrong.ensures.few))
    (added_then _ _ _ _ _ _ _ c.add_labelled.ensures (added_then _ _ _ _ _ _ _ c.add_byte_of.ensures
    (added_then _ _ _ _ _ _ _ c.add.ensures (added_then _ _ _ _ _ _ _ c.add-2.ensures c.add_byte.ensures)))))
