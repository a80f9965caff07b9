-- What the code's tests on a column's sums say of the column.
-- Assumes nothing.
use mathlib.Core.Path.{◌≡◌}
use mathlib.Core.Bool.{true, false}
use Prim.Native.Nat.{ℕ, ◌≤◌, ◌<◌}
use native.Mathlib.Omega.{arith}
use lib.Dec.{eqb}
use borrow.Author.Tests.{eq-eqb, eqb-true, le-ltb, lt-ltb, ltb-true, ltb-false}
use Rattle.numbers.proofs.Tests.{both, and}
use Rattle.column.specs.Column.{Column, first_sum, second_sum, Lawful, lawful, none_wrong, none_mends, wrong_in, mendable}
use Rattle.column.proofs.Mending.{wrong_row_small}

module _ (col : Column) where
  -- Both rules.
  pub is_lawful : lawful col ≡ true → Lawful col
  unfolding lawful
  is_lawful h =
      let p = both (eqb (first_sum col) 0) (eqb (second_sum col) 0) h in
      record { first = eqb-true (first_sum col) 0 p.0; second = eqb-true (second_sum col) 0 p.1 }

  pub of_lawful : Lawful col → lawful col ≡ true
  unfolding lawful
  of_lawful l = and (eq-eqb (first_sum col) 0 l.first) (eq-eqb (second_sum col) 0 l.second)

  -- Whether a single change mends.
  pub beyond : (i : ℕ) → i ≡ wrong_in col → none_wrong < i → mendable col ≡ false
  unfolding mendable
  beyond i e h = le-ltb (wrong_in col) none_mends (omega arith)

  pub within : (i : ℕ) → i ≡ wrong_in col → i ≤ none_wrong → mendable col ≡ true
  unfolding mendable
  within i e h = lt-ltb (wrong_in col) none_mends (omega arith)

  pub is_within : mendable col ≡ true → wrong_in col < none_mends
  unfolding mendable
  is_within h = ltb-true (wrong_in col) none_mends h

  pub is_beyond : mendable col ≡ false → wrong_in col ≡ none_mends
  unfolding mendable
  is_beyond h = omega (arith, ltb-false (wrong_in col) none_mends h, wrong_row_small (first_sum col) (second_sum col))
