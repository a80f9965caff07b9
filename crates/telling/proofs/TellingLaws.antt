-- Laws of what is told: a step under another account of it, which step each answer of a read is, and the lines of the rows that it
-- leaves. Assumes nothing.
use Rattle.std.specs.Prelude.{Option, Some, Result, Ok}
use Prim.Native.Nat.{ℕ, ◌*◌, ◌≤◌}
use mathlib.Core.Path.{◌≡◌, refl, sym, ap, ◌∙◌, subst}
use mathlib.Core.Bool.{Bool, true, false}
use mathlib.Core.List.{List, []}
use native.Mathlib.Omega.{arith}
use lib.ListN.{length, take}
use Rattle.numbers.specs.Store.{put}
use Rattle.numbers.proofs.Stores.{put_stands}
use Rattle.reader.proofs.GroupRows.{length_group_rows}
use Rattle.answer.specs.declared.Refused.{Refused}
use Rattle.answer.specs.declared.refusals.Refusal.{Refusal}
use Rattle.reader.specs.declared.Reader.{Reader}
use Rattle.reader.specs.declared.Read.{Read}
use Rattle.reader.specs.ReadAnswer.{ReadAnswer, answer_of}
use Rattle.reader.specs.ReadAnswer as answer
use Rattle.reader.specs.ReaderStart.{ReaderStart}
use Rattle.sections.specs.declared.Pair.{Pair}
use Rattle.reader.specs.Answer.{reader_start_call, read_call, group_rows, rows_left, as_numbers, Reads}
use Rattle.reader.proofs.Accepted.{accepted}
use Rattle.words.specs.Added.{Lent, Added}
use Rattle.words.proofs.AddedLaws.{added_none, added_as}
use Rattle.lines.specs.Text.{row_lines, group_lines, repeat_line, refusal_line}
use Rattle.lines.proofs.RowLaws.{rows_first}
use Rattle.telling.specs.Telling.{Step, last, bad_step, step_of_start, start_step, step_of_read, most_entries, row_numbers, read_step, group_step, longest_text, Tells}

-- A text that was added, and how the run goes on, are a step told; by whatever other account that step is the same.
pub tells : {most : ℕ} {old new : Lent} {step other : Step} {then : Option Reader}
    → other ≡ step → most ≤ longest_text → Added most old step.text new → then ≡ step.then → Tells other old new then
tells {most} {old} {new} {step} {other} {then} e h a g =
    subst (λ (s : Step). Tells s old new then) (sym e) (record { added = added_as most longest_text old new step.text step.text refl h a; goes = g })

pub tells_as : {old new : Lent} {step other : Step} {then : Option Reader} → other ≡ step → Tells step old new then → Tells other old new then
tells_as {old} {new} {step} {other} {then} e t = subst (λ (s : Step). Tells s old new then) (sym e) t

-- A step of which nothing is told.
pub tells_nothing : (old : Lent) {other : Step} {then : Option Reader} → other ≡ record { text = []; then = then } → Tells other old old then
tells_nothing old {other} {then} e = tells {most = 0} e (omega arith) (added_none 0 old) refl

-- The lines of a group are made of its own rows, whatever stood in the room for them.
lines_left : (s : Reader) (group : List ℕ) (number n : ℕ) (old : List ℕ) → 3 * n ≤ length old
    → group_lines number n (put old 0 (group_rows s group n)) ≡ group_lines number n (group_rows s group n)
unfolding group_lines
lines_left s group number n old h =
    let new = group_rows s group n in
    let long = length_group_rows s group n in
    let own : take (3 * n) (put old 0 new) ≡ new = ap (λ (k : ℕ). take k (put old 0 new)) (sym long) ∙ put_stands old 0 new (omega (arith, long)) in
    let same : row_lines n (put old 0 new) ≡ row_lines n new = sym (rows_first n (3 * n) (put old 0 new) (omega arith)) ∙ ap (λ (r : List ℕ). row_lines n r) own in
    rw same

-- What a read answers whose result is not an error.
pub answer_is : (s : Reader) {result : Result Read (Refused Refusal)} {read known : Read} → result ≡ Ok read → read ≡ known
    → answer_of s result ≡ answer_of s (Ok known)
answer_is s e f = ap (answer_of s) e ∙ ap (λ (r : Read). answer_of s (Ok r)) f

-- A read, by its own answer and the rows that it leaves.
module _ (s : Reader) (group : List ℕ) (number n : ℕ) (old rows : List ℕ) (a : ReadAnswer) (room : length old ≡ row_numbers)
    (reads : Reads as_numbers s group number n (length old) old a rows) where
  answered : (b : ReadAnswer) → a ≡ b → read_call s group number n row_numbers ≡ b
  answered b e = ap (λ (k : ℕ). read_call s group number n k) (sym room) ∙ sym reads.answer ∙ e

  pub few_entries : (t : Reader) → a ≡ answer.Accepted t → n ≤ most_entries
  few_entries t e = let p = accepted s t group number n row_numbers (answered (answer.Accepted t) e) in omega (arith, p.ready.rows)

  pub read_on : (t : Reader) → a ≡ answer.Accepted t
      → read_step s group number n ≡ record { text = group_lines number n rows; then = Some t }
  unfolding read_step
  read_on t e =
      let left : rows ≡ put old 0 (group_rows s group n) = reads.rows_left ∙ ap (λ (b : ReadAnswer). rows_left b (group_rows s group n) old) e in
      let own : group_lines number n rows ≡ group_lines number n (group_rows s group n) = ap (λ (r : List ℕ). group_lines number n r) left ∙ lines_left s group number n old (omega (arith, room, few_entries t e)) in
      ap (λ (b : ReadAnswer). step_of_read b number n (group_rows s group n)) (answered (answer.Accepted t) e) ∙ ap (λ (l : List ℕ). record { text = l; then = Some t }) (sym own)

  pub read_again : (t : Reader) → a ≡ answer.Repeated t → read_step s group number n ≡ record { text = repeat_line number; then = Some t }
  unfolding read_step
  read_again t e = ap (λ (b : ReadAnswer). step_of_read b number n (group_rows s group n)) (answered (answer.Repeated t) e)

  pub read_off : (t : Reader) (refusal place : ℕ) → a ≡ answer.Refused t refusal place → read_step s group number n ≡ last (refusal_line refusal place)
  unfolding read_step
  read_off t refusal place e = ap (λ (b : ReadAnswer). step_of_read b number n (group_rows s group n)) (answered (answer.Refused t refusal place) e)

-- A start, by its own answer.
pub start_step_lem : (size : ℕ) (pair first : Pair) (a b : ReaderStart) → pair ≡ first → a ≡ reader_start_call size pair.number → a ≡ b → start_step size first ≡ step_of_start b
unfolding start_step
start_step_lem size pair first a b p e f = ap (λ (q : Pair). step_of_start (reader_start_call size q.number)) (sym p) ∙ ap step_of_start (sym e ∙ f)

-- A group whose image is cut short, and one that is read.
pub group_short : (s : Reader) (whole : Bool) (image : List ℕ) (pair : Pair) → whole ≡ false → group_step s whole image pair ≡ bad_step
unfolding group_step
group_short s whole image pair e = rw e

pub group_whole : (s : Reader) (whole : Bool) (image : List ℕ) (pair own : Pair) → whole ≡ true → own ≡ pair
    → group_step s whole image pair ≡ read_step s image own.number own.entries
unfolding group_step
group_whole s whole image pair own e p = rw (e, p)
