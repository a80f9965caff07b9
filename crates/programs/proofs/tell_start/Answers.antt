-- `tell_start` meets its contract: by the start's own answer. Assumes nothing.
use Rattle.std.proofs.Common.{sym, ap, ◌∙◌}
use Rattle.answer.specs.Numbers.{refusal_number}
use Rattle.reader.specs.ReaderStart.{start_of}
use Rattle.telling.proofs.TellingLaws.{tells_as, tells_nothing}
use Rattle.programs.proofs.StepLaws.{start_accepted, start_refused}
use Rattle.programs.proofs.tell_start.Goals as goal

pub returns-in-Ok : goal.returns-in-Ok
returns-in-Ok g c =
    tells_nothing _
    (rw (sym c.pair_at-first.ensures) (start_accepted g.P.Program.program _ _ _ (sym c.start.ensures ∙ ap (start_of refusal_number) c.in-Ok.is)))

pub returns-in-Err : goal.returns-in-Err
returns-in-Err g c =
    tells_as (rw (sym c.pair_at-first.ensures) (start_refused g.P.Program.program _ _ _ (sym c.start.ensures ∙ ap (start_of refusal_number) c.in-Err.is)))
    c.tell_start_refused.ensures
