-- `Sums::of` meets its contract: the first sum is that of the rows passed, and the second that of the rows passed, times the powers
-- up to the last of them. Assumes nothing.
use mathlib.Core.Path.{◌≡◌}
use Rattle.column.specs.Column.{column, total}
use Rattle.column.proofs.Steps.{horner}
use Rattle.column.proofs.Sums.of.Given as goal

abbrev pub invariant-loop-i : goal.invariant-loop-i
invariant-loop-i l =
    record { first : l.first ≡ total (column l.rows l.n l.c) l.i; second : l.second ≡ horner (column l.rows l.n l.c) l.i }
