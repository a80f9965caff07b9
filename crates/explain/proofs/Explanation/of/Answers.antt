-- `Explanation::of` meets its contract: a repeat, the refusal before the scan, or how the scan ended. Assumes nothing.
use Rattle.std.proofs.Common.{◌≡◌, ◌/◌, length, sym, ◌∙◌, ap, arith}
use Rattle.std.proofs.lemmas.Bool.{eqb-false}
use Rattle.answer.specs.NotZero.{refusal_not_zero}
use Rattle.entry.specs.ScanEnd.{end_of}
use Rattle.entry.specs.Scan.{scan}
use Rattle.reader.specs.Answer.{group_scan}
use Rattle.reader.proofs.Accepted.{Ready, ready, cut, begins}
use Rattle.explain.specs.Explanation.{explanation_of}
use Rattle.explain.proofs.Told.{told_repeat, told_before, told_scan, told_end, told_stop}
use Rattle.explain.proofs.Explanation.of.Goals.{After-opening-opening, After-scan_plainly}
use Rattle.explain.proofs.Explanation.of.Goals as goal

-- Nothing is refused before the scan.
open_to : (c : After-opening-opening) → Ready c.args.reader (length c.args.group.now) c.args.number c.args.entries (c.args.rows / 4)
open_to c = ready _ _ _ _ _ (sym c.in_default.ensures)

-- What the scan gives is the whole group's scan.
scanned : (c : After-scan_plainly) → end_of c.scan_plainly.result ≡ group_scan c.args.reader c.args.group.now c.args.entries
unfolding group_scan
scanned c = c.scan_plainly.ensures ∙ ap (scan _ _ _ 1) c.opening-opening.ensures

pub returns-then-is_repeat : goal.returns-then-is_repeat
returns-then-is_repeat c = told_repeat _ _ _ _ _ (sym c.is_repeat.ensures ∙ c.if-is_repeat.true)

pub returns-in-Err : goal.returns-in-Err
returns-in-Err c =
    told_before _ _ _ _ _ _ _ c.in-Err.ensures (eqb-false _ _ (refusal_not_zero c.in-Err.refusal)) (sym c.is_repeat.ensures ∙ c.if-is_repeat.false) c.reason_of_call.ensures

pub scan_plainly-requires : goal.scan_plainly-requires
scan_plainly-requires c = let r = open_to c in (cut r, rw c.opening-opening.ensures (begins r))

pub returns-in_err-stop : goal.returns-in_err-stop
returns-in_err-stop c =
    ap explanation_of c.from_residual.ensures
    ∙ told_end _ _ _ _ c.in_err-stop.ensures.value
    ∙ told_scan _ _ _ _ _ c.in_default.ensures _ (scanned (goal.at.returns-in_err-stop c).After-scan_plainly)

pub entry_at-entry-requires : goal.entry_at-entry-requires
entry_at-entry-requires c =
    let r = open_to (goal.at.entry_at-entry-requires c).After-opening-opening in
    omega (arith, c.entry_offset-offset.ensures, r.long, r.run.least)

pub returns : goal.returns
returns c =
    told_stop _ _ _ _ _ c.in_ok-stop.ensures.value _ c.entry_offset-offset.ensures _ c.entry_at-entry.ensures.0 _ c.reason_at_entry.ensures
    ∙ told_scan _ _ _ _ _ c.in_default.ensures _ (scanned (goal.at.returns c).After-scan_plainly)
