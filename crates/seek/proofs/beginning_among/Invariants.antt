-- What is true at each turn of `beginning_among`: the rows that are left give what all of them give. Assumes nothing.
use Rattle.std.proofs.Common.{◌≡◌, ◌/◌, length}
use Rattle.seek.specs.Find.{beginning}
use Rattle.seek.proofs.Turns.{from_row}
use Rattle.seek.proofs.beginning_among.Given as goal

abbrev pub invariant-loop-row : goal.invariant-loop-row
invariant-loop-row l = from_row l.rows (length l.rows / 12) l.row l.still ≡ beginning l.rows 0 (length l.rows / 12) l.b
