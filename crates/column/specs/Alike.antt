-- Change request 2026-08: what the theorems say of columns. "the others are as written", "at most one byte of the column was
-- changed", "no single change mends".
-- Assumes nothing.
use Rattle.std.specs.Prelude.{◌≡◌, ℕ, ◌<◌}
use Rattle.column.specs.Column.{row_count, Column, Lawful}

-- A column of 46 bytes.
abbrev pub ColumnBytes : Column → Type 0
ColumnBytes col = (i : ℕ) → i < row_count → col i < 256

-- Two columns that are the same in all rows, in all but row j, and in all but rows j and k.
abbrev pub Same : Column → Column → Type 0
Same v w = (i : ℕ) → i < row_count → v i ≡ w i

abbrev pub SameBut : ℕ → Column → Column → Type 0
SameBut j v w = (i : ℕ) → i < row_count → (i ≡ j → ⊥) → v i ≡ w i

abbrev pub SameButTwo : ℕ → ℕ → Column → Column → Type 0
SameButTwo j k v w = (i : ℕ) → i < row_count → (i ≡ j → ⊥) → (i ≡ k → ⊥) → v i ≡ w i

-- "at most one byte of the column was changed": the same but in one row.
abbrev pub AtMostOne : Column → Column → Type 0
AtMostOne v w = (j : ℕ) × ((j < row_count) × SameBut j v w)

-- A column that no single change mends: no lawful column of bytes is the same but in one row.
abbrev pub Hopeless : Column → Type 0
Hopeless col = (w : Column) (j : ℕ) → j < row_count → ColumnBytes w → SameBut j col w → Lawful w → ⊥
