-- `Reader::read` meets its contract: the judgement, and the rows where it accepts. Assumes nothing.
use mathlib.Core.Path.{sym, ap, ◌∙◌}
use Rattle.std.specs.Prelude.{Ok}
use Rattle.reader.specs.declared.Read.{Read}
use Rattle.reader.specs.ReadAnswer.{answer_of}
use Rattle.reader.specs.Answer.{group_rows}
use Rattle.reader.proofs.Accepted.{accepted, cut, data_within_lem}
use Rattle.reader.proofs.Reader.read.Goals as goal

pub fill-requires-clause-cut : goal.fill-requires-clause-cut
fill-requires-clause-cut c =
    cut (accepted _ _ _ _ _ _ (sym c.in_ok-read.ensures ∙ ap (λ (r : Read). answer_of c.args.self (Ok r)) c.in-Accepted.is)).ready

pub fill-requires-clause-within : goal.fill-requires-clause-within
fill-requires-clause-within c =
    data_within_lem _ _ _ _ _ _ (sym c.in_ok-read.ensures ∙ ap (λ (r : Read). answer_of c.args.self (Ok r)) c.in-Accepted.is)

pub fill-requires-clause-entries_in_bounds : goal.fill-requires-clause-entries_in_bounds
fill-requires-clause-entries_in_bounds c =
    (accepted _ _ _ _ _ _ (sym c.in_ok-read.ensures ∙ ap (λ (r : Read). answer_of c.args.self (Ok r)) c.in-Accepted.is)).ready.rows

pub returns-in-Accepted : goal.returns-in-Accepted
unfolding group_rows
returns-in-Accepted c = record { answer = c.in_ok-read.ensures; rows_left = rw c.in-Accepted.is c.fill.ensures }
