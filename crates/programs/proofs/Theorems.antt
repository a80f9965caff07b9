-- What the explainer prints beside what the lister prints: its first line is the lister's last.
-- Assumes nothing.
use Prim.Native.Nat.{ℕ, zero, suc, ◌+◌, ◌*◌}
use mathlib.Core.Path.{◌≡◌, refl, sym, ap, ◌∙◌}
use mathlib.Core.Bool.{Bool, true, false}
use mathlib.Core.List.{List, [], ◌++◌, append_assoc, append-nil}
use lib.Dec.{leb}
use lib.ListN.{length, take, drop}
use Rattle.reader.specs.declared.Reader.{Reader}
use Rattle.reader.specs.ReaderStart.{ReaderStart}
use Rattle.reader.specs.ReaderStart as start
use Rattle.reader.specs.ReadAnswer.{ReadAnswer}
use Rattle.reader.specs.ReadAnswer as answer
use Rattle.reader.specs.Answer.{reader_start_call, read_call, group_rows, told}
use Rattle.lines.specs.Text.{group_lines, repeat_line, refusal_line, end_line, bad_line}
use Rattle.explain.specs.Explanation.{Explanation}
use Rattle.explain.specs.Explanation.{explained}
use Rattle.explain.specs.Truth.{SameTold}
use Rattle.explain.proofs.Theorems.{explained_same}
use Rattle.sections.specs.declared.Pair.{Pair}
use Rattle.sections.specs.declared.Sections.{Sections}
use Rattle.sections.specs.declared.Sections.TheVariants.{Next, Bad, Whole}
use Rattle.sections.specs.Sections.{sections_of, pair_at}
use Rattle.telling.specs.Telling.{bad_step, step_of_start, start_step, step_of_read, row_numbers, read_step, group_step, end_step}
use Rattle.reason_lines.specs.Lines.{refused_lines}
use Rattle.explaining.specs.Steps.{start_explained, started_step, explain_start, reading_step, row_bytes, explain_read, explain_group}
use Rattle.programs.specs.Steps.{Lister, Explainer}
use Rattle.programs.specs.Printed.{and_then, groups_printed, sections_printed, printed}
use Rattle.programs.specs.SameLine.{LastLine, SameLine}
use Rattle.programs.specs.SameLine.LastLine.{bad, ended, refused}

-- A line alone, and behind others.
alone : (line : List ℕ) → LastLine line [] → SameLine line line
alone line k = record { before = []; line = line; behind = []; kind = k; lists = refl; explains = sym (append-nil line) }

later : (more : List ℕ) {listed explained : List ℕ} → SameLine listed explained → SameLine (more ++ listed) explained
later more s =
    record {
      before = more ++ s.before;
      line = s.line;
      behind = s.behind;
      kind = s.kind;
      lists = ap (λ (l : List ℕ). more ++ l) s.lists ∙ sym (append_assoc more s.before s.line);
      explains = s.explains;
    }

-- A refusal, by what the lister and the explanation say of it.
both_refuse : (i refusal place : ℕ) (x : Explanation) → (x.refusal ≡ refusal) × (x.place ≡ place) → SameLine (refusal_line refusal place ++ []) (refused_lines i x ++ [])
unfolding refused_lines
both_refuse i refusal place x e =
    rw (append-nil, ← e.0, ← e.1) (record { before = []; line = refusal_line x.refusal x.place; behind = _; kind = refused i x; lists = refl; explains = append-nil (refused_lines i x) })

-- The end: extra bytes, or none.
ends_same : (s : Reader) (extra : Bool) → SameLine (end_step s extra).text (end_step s extra).text
unfolding end_step bad_step
ends_same s true = alone bad_line bad
ends_same s false = alone (end_line s.phase s.sum) (ended s.phase s.sum)

-- A read, whichever its answer is.
module _ (i n : ℕ) (rows : List ℕ) (number : ℕ) (x : Explanation) (listed explained : Reader → List ℕ) (rest : (t : Reader) → SameLine (listed t) (explained t)) where
  reads_same : (a : ReadAnswer) → SameTold (told a) x → SameLine (and_then (step_of_read a number n rows) listed) (and_then (reading_step a i x) explained)
  reads_same (answer.Accepted t) e = later (group_lines number n rows) (rest t)
  reads_same (answer.Repeated s) e = later (repeat_line number) (rest s)
  reads_same (answer.Refused s refusal place) e = both_refuse i refusal place x e

-- The group of a pair, whole or cut short.
module _ (i : ℕ) (s : Reader) (image : List ℕ) (pair : Pair) (listed explained : Reader → List ℕ) (rest : (t : Reader) → SameLine (listed t) (explained t)) where
  group_same : (whole : Bool) → SameLine (and_then (group_step s whole image pair) listed) (and_then (explain_group i s whole image pair) explained)
  unfolding group_step explain_group read_step explain_read bad_step
  group_same true =
      reads_same i pair.entries (group_rows s image pair.entries) pair.number _ listed explained rest (read_call s image pair.number pair.entries row_numbers)
      (explained_same s image pair.number pair.entries row_bytes)
  group_same false = rw (append-nil bad_line) (alone bad_line bad)

groups_same : (left i size : ℕ) (input images : List ℕ) (s : Reader) → SameLine (groups_printed Lister left i size input images s) (groups_printed Explainer left i size input images s)
unfolding groups_printed
groups_same zero i size input images s = ends_same s (leb 1 (length images))
groups_same (suc left) i size input images s =
    group_same (i + 1) s (take size images) (pair_at input i) _ _ (λ t. groups_same left (i + 1) size input (drop size images) t) (leb size (length images))

start_same : (first : ℕ) (a : ReaderStart) (listed explained : Reader → List ℕ) → ((t : Reader) → SameLine (listed t) (explained t))
    → SameLine (and_then (step_of_start a) listed) (and_then (started_step a first) explained)
start_same first (start.Started s) listed explained rest = rest s
start_same first (start.Refused refusal) listed explained rest = both_refuse 1 refusal 0 (start_explained refusal first) (refl, refl)

sections_same : (input : List ℕ) (r : Sections) → SameLine (sections_printed Lister input r) (sections_printed Explainer input r)
unfolding start_step explain_start bad_step
sections_same input (Next to) = alone bad_line bad
sections_same input Bad = alone bad_line bad
sections_same input (Whole size groups) =
    start_same (pair_at input 0).number (reader_start_call size (pair_at input 0).number) _ _ (λ s. groups_same groups 0 size input (drop (16 + 4 * groups) input) s)

-- "a tool beside the lister": of any input the explainer's first line is the lister's last, and after a refusal the reason stands in two
-- lines more.
pub same_line : (input : List ℕ) → SameLine (printed Lister input) (printed Explainer input)
unfolding printed
same_line input = sections_same input (sections_of input)
