-- `other_place` meets its contract, exit by exit. Assumes nothing.
use Rattle.std.proofs.Common.{◌≡◌, length, sym, ◌∙◌, ap, arith, refl, Some, None, Result, Ok, Err}
use Rattle.std.proofs.lemmas.Bool.{eqb-false, le-leb, lt-leb}
use Rattle.std.specs.Result.{result_ok}
use Rattle.answer.specs.declared.refusals.Refusal.{Refusal}
use Rattle.answer.specs.Numbers.{refusal_number}
use Rattle.answer.specs.NotZero.{refusal_not_zero}
use Rattle.answer.specs.Results.{number_of}
use Rattle.entry.specs.ScanEnd.{end_of}
use Rattle.entry.specs.Scan.{scan}
use Rattle.reader.specs.Answer.{read_refusal, group_scan}
use Rattle.reader.proofs.Accepted.{ready, cut, begins}
use Rattle.blockrule.proofs.Merged.{stopped_by}
use Rattle.blocks.proofs.Judged.{before_the_scan, none_differs, plain_first, other_told}
use Rattle.blocks.proofs.other_place.Goals.{After-branch-other, After-scan_plainly, In_ok-ok}
use Rattle.blocks.proofs.other_place.Goals as goal

-- What `ok` gives of a result tells whether there is a refusal.
refused : {A : Type 0} (r : Result A Refusal) → None ≡ result_ok r → number_of refusal_number r ≡ 0 → ⊥
refused (Ok x) e z = cc
refused (Err x) e z = eqb-false _ _ (refusal_not_zero x) z

passed : {A : Type 0} (r : Result A Refusal) (x : A) → Some x ≡ result_ok r → number_of refusal_number r ≡ 0
passed (Ok y) x e = refl
passed (Err y) x e = cc

none : (c : In_ok-ok) → read_refusal c.args.reader (length c.args.group.now) c.args.number c.args.entries c.args.room ≡ 0
none c = sym c.refusal.ensures ∙ passed c.refusal.result c.in_ok-ok.field-0 c.in_ok-ok.ensures.value

-- What the scan gives is the whole group's scan.
scanned : (c : After-scan_plainly) → group_scan c.args.reader c.args.group.now c.args.entries ≡ end_of c.scan_plainly.result
unfolding group_scan
scanned c = ap (scan _ _ _ 1) (sym c.opening-opening.ensures) ∙ sym c.scan_plainly.ensures

pub returns-in_err-ok : goal.returns-in_err-ok
returns-in_err-ok c =
    rw c.from_residual.ensures (before_the_scan _ _ _ _ _ _ c.requires (λ z. refused c.refusal.result c.in_err-ok.ensures.value (c.refusal.ensures ∙ z)))

pub other_at-requires : goal.other_at-requires
other_at-requires c = let r = ready _ _ _ _ _ (none c) in (r.fits, omega (arith, r.long))

pub returns-in_err-other : goal.returns-in_err-other
returns-in_err-other c =
    rw c.from_residual-in_err-other.ensures (none_differs _ _ _ _ _ _ c.requires (none (goal.at.returns-in_err-other c).In_ok-ok) (sym c.in_err-other.ensures))

pub scan_plainly-requires : goal.scan_plainly-requires
scan_plainly-requires c =
    let r = ready _ _ _ _ _ (none (goal.at.scan_plainly-requires c).In_ok-ok) in (cut r, rw c.opening-opening.ensures (begins r))

pub returns-in-Err : goal.returns-in-Err
returns-in-Err c =
    let d = goal.at.returns-in-Err c in
    plain_first _ _ _ _ _ _ c.requires (none d.In_ok-ok) c.in_ok-other.other (sym c.in_ok-other.ensures)
    (ap (stopped_by _) (scanned d.After-scan_plainly ∙ ap end_of c.in-Err.is) ∙ le-leb _ _ c.if-stop-other.true)

pub returns-in_default : goal.returns-in_default
returns-in_default c =
    let d = goal.at.returns-in_default c in
    other_told _ _ _ _ _ _ c.requires (none d.In_ok-ok) c.in_ok-other.other (sym c.in_ok-other.ensures)
    (ap (stopped_by _) (scanned d.After-scan_plainly ∙ ap end_of c.in-Err.is) ∙ lt-leb _ _ c.if-stop-other.false)

pub returns-in_default-2 : goal.returns-in_default-2
returns-in_default-2 c =
    let d = goal.at.returns-in_default-2 c in
    other_told _ _ _ _ _ _ c.requires (none d.In_ok-ok) c.in_ok-other.other (sym c.in_ok-other.ensures)
    (ap (stopped_by _) (scanned d.After-scan_plainly ∙ ap end_of c.in_default.is))
