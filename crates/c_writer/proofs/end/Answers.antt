-- `end` meets its contract: what the slices refuse, or what the call answers. Assumes nothing.
use Rattle.states.specs.States.{b4_set}
use Rattle.writer.specs.Calls.{call, an_end}
use Rattle.c_writer.specs.Calls.{dds_end}
use Rattle.c_writer.proofs.Laws as laws
use Rattle.c_writer.proofs.end.Goals as goal

pub returns-then-refused : goal.returns-then-refused
unfolding dds_end
returns-then-refused c = laws.not_called _ _ _ _ c.refused.ensures _ c.if-refused.true

pub returns : goal.returns
unfolding dds_end call
returns c =
    let a = c.args in
    laws.call_done _ _ _ _ c.refused.ensures (an_end (b4_set a.warn)) _ _ c.if-refused.false c.writer_of-writer.ensures c.end-done.ensures (c.finish.ensures.state_after c.writer_of-writer.result) (c.finish.ensures.tells c.writer_of-writer.result)
