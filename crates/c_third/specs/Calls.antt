-- Change request 2026-08: what the five calls of the third code return and what they leave in every slice that they may write, for
-- every input. Each is the crate third's own call. n is the row length.
-- Assumes nothing.
use Rattle.std.specs.Prelude.{ℕ, List, [], ◌∷◌, length}
use Rattle.third.specs.Answer.{ThirdAnswer}
use Rattle.column.specs.Column.{last_row, Column, restored_one, restored_two, mended}
use Rattle.restoring.specs.Rows.{each_column}
use Rattle.third.specs.Answer.{first_check_row, make_call, one_call, two_call, mend_call, check_call, told}
use Rattle.slices.specs.Call.{Left, answer_kept, called}

-- All but checking may write the rows: where such a call is accepted, f is done to every column.
unfoldable pub third_call : ThirdAnswer → (Column → Column) → ℕ → (rows answer : List ℕ) → Left
third_call a f n rows answer = called (answer_kept answer) (told a) (each_column f n rows ∷ []) (rows ∷ []) answer

abbrev pub dds_third_make : ℕ → (rows answer : List ℕ) → Left
dds_third_make n rows answer = third_call (make_call (length rows) n) (restored_two first_check_row last_row) n rows answer

abbrev pub dds_third_restore_one : (n row : ℕ) (rows answer : List ℕ) → Left
dds_third_restore_one n row rows answer = third_call (one_call (length rows) n row) (restored_one row) n rows answer

abbrev pub dds_third_restore_two : (n first second : ℕ) (rows answer : List ℕ) → Left
dds_third_restore_two n first second rows answer =
    third_call (two_call (length rows) n first second) (restored_two first second) n rows answer

abbrev pub dds_third_mend : ℕ → (rows answer : List ℕ) → Left
dds_third_mend n rows answer = third_call (mend_call rows n) mended n rows answer

-- Checking writes the answer alone.
unfoldable pub dds_third_check : ℕ → (rows answer : List ℕ) → Left
dds_third_check n rows answer = called (answer_kept answer) (told (check_call rows n)) [] [] answer
