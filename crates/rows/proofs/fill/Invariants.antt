-- Before entry k + 1 of `fill`: the rows of k entries are stored, and those of the others are still to be. Assumes nothing.
use Rattle.std.proofs.Common.{◌*◌, ◌-◌}
use Rattle.rows.proofs.Filling.{Filled, as_given}
use Rattle.rows.proofs.fill.Given as goal

abbrev pub invariant-loop-k : goal.invariant-loop-k
invariant-loop-k l =
    Filled as_given l.group l.fn.rows l.size l.entries l.rows (l.size - 32 - 4 * l.k) (l.entries - l.k) l.reached (3 * l.k)
