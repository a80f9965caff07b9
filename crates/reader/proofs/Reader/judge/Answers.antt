-- `Reader::judge` meets its contract: the refusal before the scan, or what the scan gives. Assumes nothing.
use mathlib.Core.Path.{◌≡◌, sym, ap, ◌∙◌}
use mathlib.Core.Bool.{true, false}
use mathlib.Core.List.{List}
use Prim.Native.Nat.{ℕ, ◌-◌}
use native.Mathlib.Omega.{arith}
use borrow.Author.Tests.{eqb-true, eqb-false}
use lib.Dec.{eqb}
use lib.ListN.{length}
use Rattle.std.proofs.lemmas.Result.{err_from_is_err_and}
use Rattle.answer.specs.Numbers.{refusal_number}
use Rattle.answer.specs.NotZero.{refusal_not_zero}
use Rattle.group.specs.Sizes.{information_length, entry_offset}
use Rattle.group.specs.Entries.{entries_below}
use Rattle.entry.specs.declared.Cursor.{Cursor}
use Rattle.entry.specs.ScanEnd.{ScanEnd}
use Rattle.entry.specs.Scan.{scan}
use Rattle.reader.specs.declared.Reader.{Reader}
use Rattle.reader.specs.ReadAnswer as answer
use Rattle.reader.specs.Answer.{opening, group_scan, answered, read_call, read_refusal}
use Rattle.reader.proofs.Five.{is_five}
use Rattle.reader.proofs.Accepted.{Ready, ready, is_repeat_lem, not_repeat, never_repeat, five_means, cut, begins, read_repeated, read_refused_lem, read_scanned}
use Rattle.reader.proofs.Reader.judge.Goals.{else-eq-via-then-eq+else-repeats, else-eq-via-else-eq}
use Rattle.reader.proofs.Reader.judge.Goals as goal

-- What the scan gives is the whole group's scan.
scanned : (s : Reader) (group : List ℕ) (number n room : ℕ) (c : Cursor) (end : ScanEnd) → read_refusal s (length group) number n room ≡ 0 → c ≡ opening s
    → end ≡ scan (length group) (entry_offset (length group) n) (entries_below group (length group - information_length) n) 1 c
    → answered s end ≡ read_call s group number n room
unfolding group_scan
scanned s group number n room c end none begin e =
    read_scanned s group number n room none end
    (ap (scan _ _ _ 1) (sym begin)
    ∙ sym (ap (λ (size : ℕ). scan size (entry_offset size n) (entries_below group (size - information_length) n) 1 c) (ready _ _ _ _ _ none).long)
    ∙ sym e)

pub returns-then-repeats : goal.returns-then-repeats
returns-then-repeats c =
    let r = c.in-Err.refusal in
    let five : refusal_number r ≡ 5 = eqb-true (refusal_number r) 5 (sym (is_five r) ∙ sym c.eq.ensures ∙ c.if-eq.true) in
    let f = five_means _ _ _ _ _ (sym c.in-Err.ensures ∙ five) in
    read_repeated _ _ _ _ _ (is_repeat_lem _ _ _ f.0 f.1 (sym c.repeats.ensures ∙ c.if-repeats.true))

pub returns-in-Err : goal.returns-in-Err
returns-in-Err c =
    let r = c.in-Err.refusal in
    rw c.from.ensures (read_refused_lem _ _ _ _ _ (refusal_number r) c.in-Err.ensures (eqb-false (refusal_number r) 0 (refusal_not_zero r))
    (elim c.else-eq.branch [
      | else-eq-via-then-eq+else-repeats w ↦ not_repeat _ _ _ (sym w.repeats.ensures ∙ w.if-repeats.false)
      | else-eq-via-else-eq w ↦ never_repeat _ _ _ _ _ (refusal_number r) c.in-Err.ensures (eqb-false (refusal_number r) 5 (sym (is_five r) ∙ sym c.eq.ensures ∙ w.if-eq.false))
    ]))

pub overflow_cast-group : goal.overflow_cast-group
overflow_cast-group c = let r = ready _ _ _ _ _ (sym c.in_default.ensures) in omega (arith, r.long, r.run.most)

pub scan_entries-requires : goal.scan_entries-requires
scan_entries-requires c =
    let r = ready _ _ _ _ _ (sym c.in_default.ensures) in (rw r.long (cut r), rw (r.long, c.opening-opening.ensures) (begins r))

pub returns-in_err-cursor : goal.returns-in_err-cursor
returns-in_err-cursor c =
    let p = err_from_is_err_and c.from_residual.result c.from_residual.ensures.1 in
    rw (p.1, p.2) (scanned _ _ _ _ _ _ _ (sym c.in_default.ensures) c.opening-opening.ensures c.in_err-cursor.ensures)

pub closing-requires : goal.closing-requires
closing-requires c = let r = ready _ _ _ _ _ (sym c.in_default.ensures) in omega (arith, r.next, r.numbered)

pub returns : goal.returns
returns c =
    ap answer.Accepted c.closing.ensures
    ∙ scanned _ _ _ _ _ _ _ (sym c.in_default.ensures) c.opening-opening.ensures c.in_ok-cursor.ensures
