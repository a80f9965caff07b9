-- The lines of no rows, and of one more; the lines of the first n rows are made of the first 3n numbers.
-- Assumes nothing.
use Prim.Native.Nat.{ℕ, zero, suc, ◌+◌, ◌*◌, ◌≤◌}
use mathlib.Core.Path.{◌≡◌, refl}
use mathlib.Core.List.{List, [], ◌++◌}
use native.Mathlib.Numerals.{add-one}
use native.Mathlib.Omega.{arith}
use lib.ListN.{take, get_or}
use lib.Seq.{get_or-take}
use Rattle.lines.specs.Text.{row_line, row_lines}

pub no_rows : (rows : List ℕ) → row_lines 0 rows ≡ []
unfolding row_lines
no_rows rows = refl

pub one_row_more : (n : ℕ) (rows : List ℕ)
    → row_lines (n + 1) rows ≡ row_lines n rows ++ row_line (get_or rows (3 * n) 0) (get_or rows (3 * n + 1) 0) (get_or rows (3 * n + 2) 0)
unfolding row_lines
one_row_more n rows = rw (add-one n) refl

pub rows_first : (n m : ℕ) (rows : List ℕ) → 3 * n ≤ m → row_lines n (take m rows) ≡ row_lines n rows
unfolding row_lines
rows_first zero m rows h = refl
rows_first (suc n) m rows h =
    rw (rows_first n m rows (omega arith), get_or-take m rows (3 * n) 0 (omega arith), get_or-take m rows (3 * n + 1) 0 (omega arith), get_or-take m rows (3 * n + 2) 0 (omega arith))
