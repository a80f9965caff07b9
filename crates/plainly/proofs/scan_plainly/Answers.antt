-- `scan_plainly` meets its contract: what the scan gives from here is what it gives from the first entry. Assumes nothing.
use Rattle.std.proofs.Common.{sym, ◌∙◌, arith}
use Rattle.entry.proofs.Faults.{stays}
use Rattle.scan.proofs.Turns.{passes, stops, none_left}
use Rattle.plainly.proofs.scan_plainly.Goals as goal

pub loop-left-preserved : goal.loop-left-preserved
loop-left-preserved c =
    record {
      bounded = rw c.advance-here.ensures (stays _ _ _ _ _ _ c.loop-left.invariant.bounded (sym c.in_default.ensures));
      same =
          rw c.advance-here.ensures
          (passes _ _ _ _ _ _ _ (record { some = omega arith; most = omega arith; is = c.entry_at-entry.ensures.0; means = c.meaning_of-meaning.ensures }) c.in_default.ensures)
          ∙ c.loop-left.invariant.same;
    }

pub returns-in-Err : goal.returns-in-Err
returns-in-Err c =
    stops _ _ _ _ _ _ _ (record { some = omega arith; most = omega arith; is = c.entry_at-entry.ensures.0; means = c.meaning_of-meaning.ensures }) c.in-Err.refusal c.in-Err.ensures
    ∙ c.loop-left.invariant.same

pub returns : goal.returns
returns c = none_left _ _ _ c.loop-left.left _ (omega arith) ∙ c.loop-left.invariant.same
