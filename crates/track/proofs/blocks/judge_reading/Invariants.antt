-- `judge_reading` meets its contract: the faults block by block. Assumes nothing.
use Rattle.track.proofs.Judged.{Judging, fault_of}
use Rattle.track.proofs.blocks.judge_reading.Given as goal

abbrev pub invariant-loop-number : goal.invariant-loop-number
invariant-loop-number l = Judging (fault_of l.area l.track) l.number-counter
