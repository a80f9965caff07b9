-- One turn of the search for a block among n rows.
-- Assumes nothing.
use Prim.Native.Nat.{ℕ, suc, ◌+◌, ◌-◌, ◌*◌, ◌≤◌, ◌<◌}
use native.Mathlib.Omega.{arith}
use mathlib.Core.Path.{◌≡◌}
use mathlib.Core.List.{List}
use mathlib.Core.Bool.{true, false}
use borrow.Author.Tests.{eq-eqb, ne_eqb}
use Rattle.std.specs.Prelude.{Option, Some, None}
use Rattle.numbers.specs.Numbers.{number_at}
use Rattle.seek.specs.Find.{begins, beginning}

-- What the rows from this one on give.
abbrev pub from_row : (rows : List ℕ) (n row b : ℕ) → Option ℕ
from_row rows n row b = beginning rows (12 * row) (n - row) b

module _ (rows : List ℕ) (n row b : ℕ) where
  pub none_left : n ≤ row → None ≡ from_row rows n row b
  unfolding beginning
  none_left h = let f : n - row ≡ 0 = omega arith in rw f

  module _ (more : row < n) where
    left : n - row ≡ suc (n - (row + 1))
    left = omega arith

    next : 12 * (row + 1) ≡ 12 * row + 12
    next = omega arith

    pub passes : begins (number_at 4 rows (12 * row)) ≡ false → from_row rows n row b ≡ from_row rows n (row + 1) b
    unfolding beginning
    passes e = rw (left, next, e)

    pub counts : begins (number_at 4 rows (12 * row)) ≡ true → (b ≡ 0 → ⊥) → from_row rows n row b ≡ from_row rows n (row + 1) (b - 1)
    unfolding beginning
    counts e z = rw (left, next, e, ne_eqb b 0 z)

    pub begins_here : begins (number_at 4 rows (12 * row)) ≡ true → b ≡ 0 → Some (number_at 4 rows (12 * row + 4)) ≡ from_row rows n row b
    unfolding beginning
    begins_here e z = rw (left, e, eq-eqb b 0 z)
