-- Document 01, "Bench program", and change request 2026-07, the explaining tool beside it: which steps each program takes.
-- Assumes nothing.
use Rattle.std.specs.Prelude.{ℕ, ◌+◌, List, Bool}
use Rattle.reader.specs.declared.Reader.{Reader}
use Rattle.sections.specs.declared.Pair.{Pair}
use Rattle.lines.specs.Text.{refusal_line}
use Rattle.telling.specs.Telling.{Step, last, start_step, read_step, group_step}
use Rattle.reason_lines.specs.Lines.{refused_lines}
use Rattle.explaining.specs.Steps.{explain_start, start_explained, explain_read, explain_group}

-- The two programs.
pub data Program : Type 0 where
  Lister : Program
  Explainer : Program

abbrev pub start_of : Program → (size : ℕ) → Pair → Step
start_of Lister size first = start_step size first
start_of Explainer size first = explain_start size first

-- The group of pair i, counted from 0: it is the file's (i + 1)-th.
abbrev pub group_of : Program → (i : ℕ) → Reader → Bool → List ℕ → Pair → Step
group_of Lister i s whole image pair = group_step s whole image pair
group_of Explainer i s whole image pair = explain_group (i + 1) s whole image pair

-- Serves contracts: a start that is refused, and the i-th group of the file, whose image is whole.
abbrev pub refused_start_of : Program → (refusal first : ℕ) → Step
refused_start_of Lister refusal first = last (refusal_line refusal 0)
refused_start_of Explainer refusal first = last (refused_lines 1 (start_explained refusal first))

abbrev pub read_of : Program → (i : ℕ) → Reader → List ℕ → Pair → Step
read_of Lister i s image pair = read_step s image pair.number pair.entries
read_of Explainer i s image pair = explain_read i s image pair.number pair.entries
