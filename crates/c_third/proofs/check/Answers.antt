-- `check` meets its contract: what checking answers is told. Assumes nothing.
use borrow.Author.Rules.{rules}
use borrow.Author.Tests.{eq-eqb}
use Rattle.c_third.proofs.Laws.{checked}
use Rattle.c_third.proofs.check.Goals as goal

pub returns : goal.returns
returns c = checked _ _ _ (eq-eqb _ _ c.if-answer-ne-ANSWER_LENGTH.false) c.check.ensures (search rules) c.tell.ensures
