-- `reached_by` meets its contract: the count, or nothing of it. Assumes nothing.
use borrow.Author.Tests.{eq-eqb, ne_eqb}
use mathlib.Core.Bool.{true, false}
use Rattle.entry.proofs.Scans.{b7_reaches}
use Rattle.entry.proofs.rules.reached_by.Goals as goal

pub returns-then-flag-eq1 : goal.returns-then-flag-eq1
returns-then-flag-eq1 c = b7_reaches _ _ _ true c.requires.meant (eq-eqb _ _ c.if-flag-eq1.true)

pub returns-else-flag-eq1 : goal.returns-else-flag-eq1
returns-else-flag-eq1 c = b7_reaches _ _ _ false c.requires.meant (ne_eqb _ _ c.if-flag-eq1.false)
