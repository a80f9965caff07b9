-- Change request 2026-07, the explaining tool: what is printed at each step of a run, and how the run goes on after it. The steps are the
-- lister's, and so are the lines that end a run without a refusal; nothing is printed of a group that is accepted, nor of a repeat.
-- Assumes nothing.
use Rattle.std.specs.Prelude.{ℕ, ◌*◌, List, [], Bool, cond, Some}
use Rattle.group.specs.Sizes.{last_number}
use Rattle.reader.specs.declared.Reader.{Reader}
use Rattle.reader.specs.ReaderStart.{ReaderStart}
use Rattle.reader.specs.ReaderStart as start
use Rattle.reader.specs.ReadAnswer.{ReadAnswer}
use Rattle.reader.specs.ReadAnswer as answer
use Rattle.reader.specs.Answer.{reader_start_call, read_call}
use Rattle.reasons.specs.Reasons.{reason}
use Rattle.explain.specs.Explanation.{Explanation}
use Rattle.explain.specs.Explanation.{explanation, explained}
use Rattle.sections.specs.declared.Pair.{Pair}
use Rattle.telling.specs.Telling.{Step, last, bad_step, row_numbers}
use Rattle.reason_lines.specs.Lines.{refused_lines}

-- "The first pair's number starts the run." A start is refused with 3 alone, since L is in range: the first number is 1 to 65,535.
abbrev pub start_explained : (refusal first : ℕ) → Explanation
start_explained refusal first = explanation refusal 0 0 (reason first 1 last_number 0)

abbrev pub started_step : ReaderStart → (first : ℕ) → Step
started_step (start.Started s) first = record { text = []; then = Some s }
started_step (start.Refused refusal) first = last (refused_lines 1 (start_explained refusal first))

unfoldable pub explain_start : (size : ℕ) → Pair → Step
explain_start size first = started_step (reader_start_call size first.number) first.number

-- A read, explained where it is refused.
abbrev pub reading_step : ReadAnswer → (i : ℕ) → Explanation → Step
reading_step (answer.Accepted t) i x = record { text = []; then = Some t }
reading_step (answer.Repeated s) i x = record { text = []; then = Some s }
reading_step (answer.Refused s refusal place) i x = last (refused_lines i x)

-- The bytes of the lister's room for rows.
abbrev pub row_bytes : ℕ
row_bytes = 4 * row_numbers

unfoldable pub explain_read : (i : ℕ) → Reader → List ℕ → (number entries : ℕ) → Step
explain_read i s image number entries = reading_step (read_call s image number entries row_numbers) i (explained s image number entries row_bytes)

-- The i-th group of the file, where the input had all of its image or not.
unfoldable pub explain_group : (i : ℕ) → Reader → Bool → List ℕ → Pair → Step
explain_group i s whole image pair = cond whole (explain_read i s image pair.number pair.entries) bad_step
