-- `add_end` meets its contract: one thing after the other. Assumes nothing.
use Rattle.std.proofs.Common.{◌+◌, length, refl, arith}
use Rattle.words.proofs.AddedLaws.{added_then, added_as}
use Rattle.lines.specs.Text.{end_line}
use Rattle.lines.proofs.add_end.Goals as goal

pub returns : goal.returns
unfolding end_line
returns c =
    rw (← c.ending.ensures.words)
    (added_as (length c.ending.result.now + 12) _ _ _ _ _ refl (omega (arith, c.ending.ensures.few))
    (added_then _ _ _ _ _ _ _ c.add.ensures (added_then _ _ _ _ _ _ _ c.add_field.ensures c.add_byte.ensures)))
