-- Change request 2026-08: what each call answers, and what it leaves in the buffer, for every input.
-- Assumes nothing.
use Rattle.answer.specs.declared.refusals.ThirdRefusal.{ThirdRefusal}
use Rattle.std.specs.Prelude.{◌≡◌, Bool, cond, not, ◌&&◌, List, ℕ, ◌*◌, eqb, leb, ltb, length, Result, Ok, Err}
use Rattle.answer.specs.Answer.{Told}
use Rattle.answer.specs.Answer as answer
use Rattle.answer.specs.Answer.{if_accepted}
use Rattle.answer.specs.Numbers.{third_number}
use Rattle.answer.specs.declared.Refused as declared
use Rattle.column.specs.Column.{row_count, last_row, Column, lawful, restored_one, restored_two, mended, mendable}
use Rattle.restoring.specs.Rows.{each_column, first_failing}

-- What the calls answer. The outcome is 1 where a check finds a column that breaks a rule, and 0 otherwise; the place is the column of
-- refusal 43, and 0 otherwise.
pub data ThirdAnswer : Type 0 where
  Accepted : (outcome : ℕ) → ThirdAnswer
  Refused : (refusal place : ℕ) → ThirdAnswer

-- The answer by a result of the code: of a call that has no more to say than that it is accepted, and of a check, which says whether
-- every column keeps both rules.
abbrev pub done_answer : {A : Type 0} → Result A (declared.Refused ThirdRefusal) → ThirdAnswer
done_answer (Ok x) = Accepted 0
done_answer (Err e) = Refused (third_number e.refusal) e.place

abbrev pub checked_answer : Result Bool (declared.Refused ThirdRefusal) → ThirdAnswer
checked_answer (Ok kept) = Accepted (cond kept 0 1)
checked_answer (Err e) = Refused (third_number e.refusal) e.place

-- "44 of data and 2 of check bytes": the rows of check bytes are this one and the last.
abbrev pub first_check_row : ℕ
first_check_row = 44

-- Unless "40 row length 0 or total length not 46 rows".
unfoldable pub length_kept : ℕ → ℕ → Bool
length_kept total n = leb 1 n && eqb total (row_count * n)

-- Unless "41 a row above 45".
abbrev pub row_kept : ℕ → Bool
row_kept i = leb i last_row

-- The refusals that need no column, "in that order"; 0 for none. Making, checking and mending have the first alone.
unfoldable pub length_refusal : ℕ → ℕ → ℕ
length_refusal total n = cond (not (length_kept total n)) 40 0

unfoldable pub one_refusal : (total n i : ℕ) → ℕ
one_refusal total n i = cond (not (length_kept total n)) 40 (cond (not (row_kept i)) 41 0)

-- "42 the same row twice"
unfoldable pub two_refusal : (total n i j : ℕ) → ℕ
two_refusal total n i j =
    cond (not (length_kept total n)) 40
    (cond (not (row_kept i)) 41 (cond (not (row_kept j)) 41 (cond (eqb i j) 42 0)))

-- What a call answers: such a refusal, or the rest.
abbrev pub answer_of : ℕ → ThirdAnswer → ThirdAnswer
answer_of refusal rest = cond (eqb refusal 0) rest (Refused refusal 0)

abbrev pub make_call : ℕ → ℕ → ThirdAnswer
make_call total n = answer_of (length_refusal total n) (Accepted 0)

abbrev pub one_call : (total n i : ℕ) → ThirdAnswer
one_call total n i = answer_of (one_refusal total n i) (Accepted 0)

abbrev pub two_call : (total n i j : ℕ) → ThirdAnswer
two_call total n i j = answer_of (two_refusal total n i j) (Accepted 0)

-- "43 a column that no single change mends": its place is the first such column.
abbrev pub mend_call : List ℕ → ℕ → ThirdAnswer
mend_call rows n =
    let c = first_failing mendable rows n 0 n in
    answer_of (length_refusal (length rows) n) (cond (ltb c n) (Refused 43 c) (Accepted 0))

-- Checking: outcome 0 where every column keeps both rules, 1 where one does not.
abbrev pub check_call : List ℕ → ℕ → ThirdAnswer
check_call rows n =
    answer_of (length_refusal (length rows) n) (cond (ltb (first_failing lawful rows n 0 n) n) (Accepted 1) (Accepted 0))

-- What the firmware is told of each case.
abbrev pub told : ThirdAnswer → Told
told (Accepted outcome) = answer.Accepted outcome 0 0 0
told (Refused refusal place) = answer.RefusedAt refusal place

-- A call that does f to every column: what it answers, and what it leaves in place of `old`. Where it is refused "the whole buffer
-- then stays".
pub record Does (called : ThirdAnswer) (f : Column → Column) (n : ℕ) (old : List ℕ) (a : ThirdAnswer) (rows : List ℕ) : Type 0 where
  pub answer : a ≡ called
  pub rows_left : rows ≡ if_accepted (told a) (each_column f n old) old

-- "make the two check rows": they are restored from the rows of data.
abbrev pub Makes : (n : ℕ) (old : List ℕ) (a : ThirdAnswer) (rows : List ℕ) → Type 0
Makes n old a rows = Does (make_call (length old) n) (restored_two first_check_row last_row) n old a rows

-- "check": the rows are read alone.
abbrev pub Checks : (n : ℕ) (rows : List ℕ) (a : ThirdAnswer) → Type 0
Checks n rows a = a ≡ check_call rows n

-- "restore any one or two named rows from the others"
abbrev pub RestoresOne : (n i : ℕ) (old : List ℕ) (a : ThirdAnswer) (rows : List ℕ) → Type 0
RestoresOne n i old a rows = Does (one_call (length old) n i) (restored_one i) n old a rows

abbrev pub RestoresTwo : (n i j : ℕ) (old : List ℕ) (a : ThirdAnswer) (rows : List ℕ) → Type 0
RestoresTwo n i j old a rows = Does (two_call (length old) n i j) (restored_two i j) n old a rows

-- "with none named, mend one wrong byte a column"
abbrev pub Mends : (n : ℕ) (old : List ℕ) (a : ThirdAnswer) (rows : List ℕ) → Type 0
Mends n old a rows = Does (mend_call old n) mended n old a rows
