-- `find` meets its contract: the answer's length, or what the search answers. Assumes nothing.
use borrow.Author.Tests.{eq-eqb}
use Rattle.c_blocks.proofs.Laws.{found}
use Rattle.c_blocks.proofs.find.Goals as goal

pub returns : goal.returns
returns c = found _ _ _ _ (eq-eqb _ _ c.if-answer-ne-ANSWER_LENGTH.false) c.find-found.ensures c.find_told.ensures c.tell.ensures
