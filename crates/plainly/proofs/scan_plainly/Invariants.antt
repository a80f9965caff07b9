-- The loop of `scan_plainly`: from where it stands the scan ends as it does from the first entry.
use Rattle.std.proofs.Common.{◌≡◌, ◌-◌}
use Rattle.group.specs.Sizes.{information_length, entry_offset}
use Rattle.group.specs.Entries.{entries_below}
use Rattle.entry.specs.Scan.{scan}
use Rattle.entry.specs.Bounds.{Bounded}
use Rattle.scan.specs.Stretch.{scan_left}
use Rattle.plainly.proofs.scan_plainly.Given as goal

abbrev pub invariant-loop-left : goal.invariant-loop-left
invariant-loop-left l = record {
  bounded : Bounded (entry_offset l.size l.entries) l.here;
  same : scan_left l.size l.entries l.group l.left l.here ≡ scan l.size (entry_offset l.size l.entries) (entries_below l.group (l.size - information_length) l.entries) 1 l.fn.opening;
}
