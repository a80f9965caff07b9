-- `tell_read` meets its contract: by the read's own answer. Assumes nothing.
use Rattle.std.proofs.Common.{refl, sym, ap, ◌∙◌, arith}
use Rattle.reader.specs.ReadAnswer.{answer_of}
use Rattle.telling.proofs.TellingLaws.{tells, tells_nothing, answer_is}
use Rattle.explaining.proofs.StepLaws.{read_step_lem, refused_explained}
use Rattle.explaining.proofs.tell_read.Goals as goal

pub returns-in-Ok-Accepted : goal.returns-in-Ok-Accepted
returns-in-Ok-Accepted c =
    let on = answer_is c.args.reader c.in-Ok-Accepted.is c.in-Ok-Accepted.field-0-is in
    rw c.in-Ok-Accepted.next-is (tells_nothing _ (read_step_lem _ _ _ _ _ _ _ _ c.judge.ensures on refl))

pub returns-in-Ok-Repeated : goal.returns-in-Ok-Repeated
returns-in-Ok-Repeated c =
    tells_nothing _ (read_step_lem _ _ _ _ _ _ _ _ c.judge.ensures (answer_is c.args.reader c.in-Ok-Repeated.is c.in-Ok-Repeated.field-0-is) refl)

pub returns-in_ok-x-in-Err : goal.returns-in_ok-x-in-Err
returns-in_ok-x-in-Err c =
    let off = ap (answer_of c.args.reader) c.in-Err.is in
    tells {most = 205} (read_step_lem _ _ _ _ _ _ _ _ c.judge.ensures off c.in_ok-x-in-Err.ensures) (omega arith) (rw (← c.number.ensures) c.add_refused.ensures) refl

pub returns-in_err-x-in-Err : goal.returns-in_err-x-in-Err
returns-in_err-x-in-Err c =
    let off = ap (answer_of c.args.reader) c.in-Err.is in
    absurd (refused_explained _ _ _ _ _ _ (sym off ∙ c.judge.ensures) c.in_err-x-in-Err.ensures)
