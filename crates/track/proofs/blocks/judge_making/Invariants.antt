-- `judge_making` meets its contract: the Area ID, and the Pack IDs block by block. Assumes nothing.
use Rattle.track.specs.Answer.{pack_fault}
use Rattle.track.proofs.Judged.{Judging}
use Rattle.track.proofs.blocks.judge_making.Given as goal

abbrev pub invariant-loop-block : goal.invariant-loop-block
invariant-loop-block l = Judging (pack_fault l.packs) l.block
