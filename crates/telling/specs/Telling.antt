-- Document 01, "Bench program", with change request 2026-05: what is printed at each step of a run, and how the run goes on after
-- it.
-- Assumes nothing.
use Rattle.std.specs.Prelude.{ℕ, ◌+◌, ◌*◌, ◌≡◌, List, [], Bool, cond, Option, Some, None}
use Rattle.std.specs.Borrow.{Bor}
use Rattle.words.specs.Added.{Lent, Added}
use Rattle.lines.specs.Text.{group_lines, repeat_line, refusal_line, end_line, bad_line}
use Rattle.reader.specs.declared.Reader.{Reader}
use Rattle.reader.specs.ReaderStart.{ReaderStart}
use Rattle.reader.specs.ReaderStart as start
use Rattle.reader.specs.ReadAnswer.{ReadAnswer}
use Rattle.reader.specs.ReadAnswer as answer
use Rattle.reader.specs.Answer.{reader_start_call, read_call, group_rows}
use Rattle.sections.specs.declared.Pair.{Pair}

-- A step of a run: its text, and how the run goes on once that is printed: with this state, or not at all.
pub record Step : Type 0 where
  pub text : List ℕ
  pub then : Option Reader

-- What prints and stops.
abbrev pub last : List ℕ → Step
last text = record { text = text; then = None }

-- "A section out of range, short input or extra bytes print `bad run file` at that moment and stop"
unfoldable pub bad_step : Step
bad_step = last bad_line

-- "The first pair's number starts the run": nothing is printed of a start that is accepted.
abbrev pub step_of_start : ReaderStart → Step
step_of_start (start.Started s) = record { text = []; then = Some s }
step_of_start (start.Refused refusal) = last (refusal_line refusal 0)

unfoldable pub start_step : ℕ → Pair → Step
start_step size first = step_of_start (reader_start_call size first.number)

-- "Per accepted group it prints a line `group`, number, `entries`, count, then per row name, offset, count." 2026-05: "The lister
-- prints `repeat` and the number", and the run goes on with the state as given. "A refusal prints `refused R at K` and stops."
abbrev pub step_of_read : ReadAnswer → (number entries : ℕ) (rows : List ℕ) → Step
step_of_read (answer.Accepted t) number entries rows = record { text = group_lines number entries rows; then = Some t }
step_of_read (answer.Repeated s) number entries rows = record { text = repeat_line number; then = Some s }
step_of_read (answer.Refused s refusal place) number entries rows = last (refusal_line refusal place)

-- The most entries that a group of 4,096 bytes has beside its information table, and the room for their rows.
abbrev pub most_entries : ℕ
most_entries = 1016

abbrev pub row_numbers : ℕ
row_numbers = 3 * most_entries

unfoldable pub read_step : Reader → List ℕ → (number entries : ℕ) → Step
read_step s image number entries =
    step_of_read (read_call s image number entries row_numbers) number entries (group_rows s image entries)

-- "images are read one group at a time": the group of a pair, where the input had all of its image or not.
unfoldable pub group_step : Reader → Bool → List ℕ → Pair → Step
group_step s whole image pair = cond whole (read_step s image pair.number pair.entries) bad_step

-- The bytes of an image that is whole; of one that is cut short, none.
abbrev pub image_of : Option (Bor (List ℕ)) → List ℕ
image_of (Some bytes) = bytes.now
image_of None = []

-- "extra bytes are looked for after the last group's lines and before `end`"
unfoldable pub end_step : Reader → Bool → Step
end_step s extra = cond extra bad_step (last (end_line s.phase s.sum))

-- The room for a step's text: the lines of a group with the most entries.
abbrev pub longest_text : ℕ
longest_text = 36 + 32 * most_entries

-- A step is told: its text was added to the end of `old`, and how the run goes on is answered.
pub record Tells (step : Step) (old new : Lent) (then : Option Reader) : Type 0 where
  pub added : Added longest_text old step.text new
  pub goes : then ≡ step.then
