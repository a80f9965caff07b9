-- The loop of `pass`: each entry that was passed leaves the scan's end as it was.
use Rattle.std.proofs.Common.{◌≡◌, ◌≤◌}
use Rattle.group.specs.Sizes.{entry_offset}
use Rattle.entry.specs.Bounds.{Bounded}
use Rattle.scan.specs.Stretch.{scan_left, moved_to}
use Rattle.scan.proofs.singles.pass.Given as goal

abbrev pub invariant-loop-behind : goal.invariant-loop-behind
invariant-loop-behind l = record {
  behind : l.left ≡ l.behind;
  some : 1 ≤ l.left;
  bounded : Bounded (entry_offset l.size l.entries) (moved_to l.fn.here l.sum l.reached);
  same : scan_left l.size l.entries l.group l.left (moved_to l.fn.here l.sum l.reached) ≡ scan_left l.size l.entries l.group l.fn.left l.fn.here;
}
