-- The loop of `scan_entries`: from where it stands the scan ends as it does from the first entry.
use Rattle.std.proofs.Common.{◌≡◌, ◌≤◌, ◌-◌}
use Rattle.group.specs.Sizes.{information_length, entry_offset}
use Rattle.group.specs.Entries.{entries_below}
use Rattle.entry.specs.Scan.{scan}
use Rattle.entry.specs.Bounds.{Bounded}
use Rattle.scan.specs.Stretch.{scan_left}
use Rattle.scan.proofs.scan_entries.Given as goal

abbrev pub invariant-loop-here : goal.invariant-loop-here
invariant-loop-here l = record {
  some : 1 ≤ l.left;
  most : l.left ≤ l.entries;
  bounded : Bounded (entry_offset l.size l.entries) l.here;
  same : scan_left l.size l.entries l.group l.left l.here ≡ scan l.size (entry_offset l.size l.entries) (entries_below l.group (l.size - information_length) l.entries) 1 l.fn.opening;
}

abbrev pub decreases-loop-here : goal.decreases-loop-here
decreases-loop-here l = l.left
