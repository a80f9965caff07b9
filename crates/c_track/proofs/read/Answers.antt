-- `read` meets its contract: the answer's length, or what reading answers. Assumes nothing.
use mathlib.Core.Path.{refl}
use borrow.Author.Tests.{eq-eqb, ne_eqb}
use Rattle.slices.proofs.Calls.{stopped}
use Rattle.c_track.specs.Calls.{dds_subdata_read}
use Rattle.c_track.proofs.Laws.{read}
use Rattle.c_track.proofs.read.Goals as goal

pub returns-then-answer-ne-ANSWER_LENGTH : goal.returns-then-answer-ne-ANSWER_LENGTH
unfolding dds_subdata_read
returns-then-answer-ne-ANSWER_LENGTH c = rw c.number.ensures (stopped _ _ _ _ (ne_eqb _ _ c.if-answer-ne-ANSWER_LENGTH.true))

pub returns : goal.returns
returns c = read _ _ _ _ _ _ _ (eq-eqb _ _ c.if-answer-ne-ANSWER_LENGTH.false) c.read-done.ensures refl c.tell.ensures
