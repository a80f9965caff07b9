-- `scan_entries` meets its contract: what the scan gives from here is what it gives from the first entry. Assumes nothing.
use Rattle.std.proofs.Common.{◌≡◌, ◌-◌, sym, ◌∙◌, arith}
use Rattle.group.specs.Sizes.{information_length, entry_offset}
use Rattle.group.specs.Entries.{entries_below}
use Rattle.entry.specs.Scan.{scan}
use Rattle.entry.proofs.Faults.{stays}
use Rattle.scan.specs.Stretch.{scan_left}
use Rattle.scan.proofs.Turns.{passes, stops, none_left}
use Rattle.scan.proofs.scan_entries.Goals.{After-advance-here}
use Rattle.scan.proofs.scan_entries.Goals as goal

-- An entry that keeps its rules leaves what the scan gives as it was.
kept : (c : After-advance-here) → scan_left c.args.size c.args.entries c.args.group.now (c.pass-stretch.result.left - 1) c.advance-here.result
    ≡ scan c.args.size (entry_offset c.args.size c.args.entries) (entries_below c.args.group.now (c.args.size - information_length) c.args.entries) 1 c.args.opening
kept c =
    rw c.advance-here.ensures (passes _ _ _ _ _ _ _ (record { some = omega arith; most = omega arith; is = c.entry_at-entry.ensures.0; means = c.meaning_of-meaning.ensures }) c.in_default.ensures)
    ∙ c.pass-stretch.ensures.same_end
    ∙ c.loop-here.invariant.same

pub loop-here-preserved : goal.loop-here-preserved
loop-here-preserved c =
    record {
      some = omega arith;
      most = omega arith;
      bounded = rw c.advance-here.ensures (stays _ _ _ _ _ _ c.pass-stretch.ensures.bounded (sym c.in_default.ensures));
      same = kept (goal.at.loop-here-preserved c).After-advance-here;
    }

pub returns-in-Err : goal.returns-in-Err
returns-in-Err c =
    stops _ _ _ _ _ _ _ (record { some = omega arith; most = omega arith; is = c.entry_at-entry.ensures.0; means = c.meaning_of-meaning.ensures }) c.in-Err.refusal c.in-Err.ensures
    ∙ c.pass-stretch.ensures.same_end
    ∙ c.loop-here.invariant.same

pub returns-then-left-eq0 : goal.returns-then-left-eq0
returns-then-left-eq0 c = none_left _ _ _ _ _ c.if-left-eq0.true ∙ kept (goal.at.returns-then-left-eq0 c).After-advance-here
