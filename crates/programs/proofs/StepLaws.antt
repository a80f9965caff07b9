-- The steps of a program, whichever it is: a start by its own answer, and a group whose image is cut short or whole.
-- Assumes nothing.
use Rattle.std.proofs.Common.{ℕ, ◌+◌, ◌≡◌, refl, ap, List, [], true, false, Some}
use Rattle.reader.specs.declared.Reader.{Reader}
use Rattle.reader.specs.ReaderStart.{ReaderStart}
use Rattle.reader.specs.ReaderStart as start
use Rattle.reader.specs.Answer.{reader_start_call}
use Rattle.sections.specs.declared.Pair.{Pair}
use Rattle.telling.specs.Telling.{bad_step, step_of_start, start_step, group_step}
use Rattle.explaining.specs.Steps.{started_step, explain_start, explain_group}
use Rattle.programs.specs.Steps.{Program, Lister, Explainer, start_of, group_of, refused_start_of, read_of}

pub start_accepted : (p : Program) (size : ℕ) (first : Pair) (s : Reader) → reader_start_call size first.number ≡ start.Started s
    → start_of p size first ≡ record { text = []; then = Some s }
unfolding start_step explain_start
start_accepted Lister size first s e = ap step_of_start e
start_accepted Explainer size first s e = ap (λ (a : ReaderStart). started_step a first.number) e

pub start_refused : (p : Program) (size : ℕ) (first : Pair) (refusal : ℕ) → reader_start_call size first.number ≡ start.Refused refusal
    → start_of p size first ≡ refused_start_of p refusal first.number
unfolding start_step explain_start
start_refused Lister size first refusal e = ap step_of_start e
start_refused Explainer size first refusal e = ap (λ (a : ReaderStart). started_step a first.number) e

pub group_short : (p : Program) (i : ℕ) (s : Reader) (image : List ℕ) (pair : Pair) → group_of p i s false image pair ≡ bad_step
unfolding group_step explain_group
group_short Lister i s image pair = refl
group_short Explainer i s image pair = refl

pub group_whole : (p : Program) (i : ℕ) (s : Reader) (image : List ℕ) (pair : Pair) → group_of p i s true image pair ≡ read_of p (i + 1) s image pair
unfolding group_step explain_group
group_whole Lister i s image pair = refl
group_whole Explainer i s image pair = refl
