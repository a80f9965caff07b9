-- `add_kinds` meets its contract: after i turns the names of the first i kinds are added, where permitted. Assumes nothing.
use Rattle.std.proofs.Common.{◌*◌}
use Rattle.words.specs.Added.{Added}
use Rattle.reason_lines.proofs.LineLaws.{names_of}
use Rattle.reason_lines.proofs.add_kinds.Given as goal

abbrev pub invariant-loop-i : goal.invariant-loop-i
invariant-loop-i l = Added (10 * l.i) l.initial.text (names_of l.i l.why) l.text
