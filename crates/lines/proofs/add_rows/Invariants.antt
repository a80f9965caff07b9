-- `add_rows` meets its contract: after i turns the lines of the first i rows are added. Assumes nothing.
use Rattle.std.proofs.Common.{◌*◌}
use Rattle.words.specs.Added.{Added}
use Rattle.lines.specs.Text.{row_lines}
use Rattle.lines.proofs.add_rows.Given as goal

abbrev pub invariant-loop-i : goal.invariant-loop-i
invariant-loop-i l = Added (32 * l.i) l.initial.text (row_lines l.i l.rows) l.text
