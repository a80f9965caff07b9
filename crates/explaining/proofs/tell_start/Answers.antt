-- `tell_start` meets its contract: by the start's own answer. Assumes nothing.
use Rattle.std.proofs.Common.{ap}
use Rattle.answer.specs.Numbers.{refusal_number}
use Rattle.reader.specs.ReaderStart.{start_of}
use Rattle.telling.proofs.TellingLaws.{tells_as, tells_nothing}
use Rattle.explaining.proofs.StepLaws.{start_step_lem}
use Rattle.explaining.proofs.tell_start.Goals as goal

pub returns-in-Ok : goal.returns-in-Ok
returns-in-Ok c = tells_nothing _ (start_step_lem _ _ _ _ _ c.pair_at-first.ensures c.start.ensures (ap (start_of refusal_number) c.in-Ok.is))

pub returns-in-Err : goal.returns-in-Err
returns-in-Err c =
    tells_as (start_step_lem _ _ _ _ _ c.pair_at-first.ensures c.start.ensures (ap (start_of refusal_number) c.in-Err.is)) c.tell_start_refused.ensures
