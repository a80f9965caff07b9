-- In a turn of `other_at` the first of the entries that are left is the first of all. Assumes nothing.
use Rattle.std.proofs.Common.{◌≡◌, ◌-◌}
use Rattle.group.specs.Entries.{entries_below}
use Rattle.blockrule.specs.Bounds.{other_at}
use Rattle.blockrule.proofs.Turns.{other_left}
use Rattle.blockrule.proofs.other_at.Given as goal

abbrev pub invariant-loop-left : goal.invariant-loop-left
invariant-loop-left l = other_left l.block l.size l.entries l.group l.left ≡ other_at l.block (entries_below l.group (l.size - 32) l.entries) 1
