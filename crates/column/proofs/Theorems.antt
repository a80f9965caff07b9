-- The theorems of change request 2026-08 on one column, each with its sentence above it.
-- Assumes nothing.
use mathlib.Core.Path.{◌≡◌, sym}
use Prim.Native.Nat.{ℕ, ◌-◌, ◌<◌}
use Rattle.field.specs.Field.{times, power, product}
use Rattle.field.proofs.Products.{product_power}
use Rattle.column.specs.Column.{row_count, last_row, Column, total, second_sum, Lawful}
use Rattle.column.specs.Alike.{ColumnBytes, Same, SameButTwo}
use Rattle.column.proofs.Totals.{total_same}
use Rattle.column.proofs.Restoring.{only_two}

-- "the bytes of rows i, from 0 to 45, times α^(45 − i)": the second sum, by plain products.
pub third_second : (col : Column) → ColumnBytes col → second_sum col ≡ total (λ i. product (col i) (power (last_row - i))) row_count
unfolding second_sum
third_second col h =
    total_same (λ i. times (last_row - i) (col i)) (λ i. product (col i) (power (last_row - i))) row_count
    (λ i l. sym (product_power (col i) (last_row - i) (h i l)))

-- Columns that keep both rules and differ in at most two rows are equal.
pub third_only_two : (j k : ℕ) → j < row_count → k < row_count → (j ≡ k → ⊥) → (v w : Column) → Lawful v → Lawful w
    → ColumnBytes v → ColumnBytes w → SameButTwo j k v w → Same v w
third_only_two j k lj lk d v w lv lw bv bw h = only_two j k lj lk d v w lv lw bv bw h
