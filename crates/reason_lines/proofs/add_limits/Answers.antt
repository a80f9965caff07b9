-- `add_limits` meets its contract where a number is allowed: one thing after the other. Assumes nothing.
use borrow.Author.Tests.{le-leb}
use Rattle.words.proofs.AddedLaws.{added_then}
use Rattle.reason_lines.specs.Lines.{limits}
use Rattle.reason_lines.proofs.add_limits.Goals as goal

pub returns-then-why : goal.returns-then-why
unfolding limits
returns-then-why c =
    rw (le-leb _ _ c.if-why.true)
    (added_then _ _ _ _ _ _ _ c.add.ensures (added_then _ _ _ _ _ _ _ c.add_long.ensures
    (added_then _ _ _ _ _ _ _ c.add-then-why.ensures c.add_long-then-why.ensures)))
