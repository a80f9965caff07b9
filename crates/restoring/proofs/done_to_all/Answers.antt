-- `done_to_all` meets its contract. Assumes nothing.
use Rattle.restoring.proofs.Places.{upto_none, upto_next, upto_all}
use Rattle.restoring.proofs.done_to_all.Goals as goal

pub loop-c-init : goal.loop-c-init
loop-c-init g c = upto_none _ _ _

pub loop-c-preserved : goal.loop-c-preserved
loop-c-preserved g c = upto_next _ _ _ _ _ _ c.loop-c-test.true c.loop-c.invariant c.take.ensures

pub returns : goal.returns
returns g c = upto_all _ _ _ _ _ c.requires.size c.loop-c-test.false c.loop-c.invariant
