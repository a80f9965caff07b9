-- `read_sections` ends: each section that is asked for ends further on. Assumes nothing.
use Rattle.std.proofs.Common.{◌≤◌, ◌-◌}
use Rattle.sections.specs.Sections.{longest_sections}
use Rattle.runfile.proofs.input.read_sections.Given as goal

abbrev pub invariant-loop-to : goal.invariant-loop-to
invariant-loop-to g l = l.have ≤ longest_sections

abbrev pub decreases-loop-to : goal.decreases-loop-to
decreases-loop-to g l = longest_sections - l.have
