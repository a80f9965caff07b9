-- `done_to_all` meets its contract: the columns below c are done, the rest are as they were. Assumes nothing.
use Rattle.restoring.proofs.Places.{Upto}
use Rattle.restoring.proofs.done_to_all.Given as goal

abbrev pub invariant-loop-c : goal.invariant-loop-c
invariant-loop-c g l = Upto (g.S.Step.does l.fn.step) l.n l.c l.fn.rows l.rows
