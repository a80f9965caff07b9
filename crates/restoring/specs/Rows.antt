-- Change request 2026-08: the buffer of the third code, column by column: what is done to every one, and which is the first that
-- a test fails.
-- Assumes nothing.
use Rattle.std.specs.Prelude.{◌≡◌, Bool, cond, List, ℕ, zero, suc, ◌*◌, ◌/◌, ◌%◌, ◌<◌, Option, Some, None}
use Rattle.numbers.specs.Numbers.{listed}
use Rattle.column.specs.Column.{row_count, Column, column}

-- The buffer with f done to every column.
unfoldable pub each_column : (Column → Column) → ℕ → List ℕ → List ℕ
each_column f n rows = listed (λ (place : ℕ). f (column rows n (place % n)) (place / n)) 0 (row_count * n)

-- The first of k columns from c on that a test fails, c + k where it fails none.
unfoldable pub first_failing : (test : Column → Bool) (rows : List ℕ) (n c k : ℕ) → ℕ
first_failing test rows n c zero = c
first_failing test rows n c (suc k) = cond (test (column rows n c)) (first_failing test rows n (suc c) k) c

-- The first of the n columns that a test fails; none where it fails none.
abbrev pub IsFirstFailing : (test : Column → Bool) (rows : List ℕ) (n : ℕ) → Option ℕ → Type 0
IsFirstFailing test rows n (Some c) = (c ≡ first_failing test rows n 0 n) × (c < n)
IsFirstFailing test rows n None = first_failing test rows n 0 n ≡ n
