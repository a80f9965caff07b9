-- Serves contracts and proofs only: the wrong row as the code answers it, and its number in Column.
-- Assumes nothing.
use Rattle.std.specs.Prelude.{◌≡◌, ℕ, ◌<◌}
use Rattle.column.specs.declared.Wrong.{Wrong}
use Rattle.column.specs.declared.Wrong.TheVariants.{NoRow, Row, Hopeless}
use Rattle.column.specs.Column.{row_count, none_wrong, none_mends}

-- What the code answers where the number is `row`: each answer is of other numbers.
abbrev pub IsWrong : Wrong → (row : ℕ) → Type 0
IsWrong NoRow row = row ≡ none_wrong
IsWrong (Row i) row = (row ≡ i) × (i < row_count)
IsWrong Hopeless row = row ≡ none_mends
