-- Whatever is true of a read is what reading tells: so the statement of truth alone settles the refusal and the place.
-- Assumes nothing.
use Prim.Native.Nat.{ℕ, ◌/◌, ◌≤◌}
use native.Mathlib.Omega.{arith}
use mathlib.Core.Path.{◌≡◌, refl, sym, ap, ◌∙◌}
use mathlib.Core.List.{List, [], ◌∷◌, ◌++◌}
use mathlib.Core.Bool.{Bool, true, false, true≢false}
use lib.Dec.{eqb}
use lib.ListN.{length}
use borrow.Author.Tests.{eqb-true, ne_eqb}
use Rattle.numbers.specs.Numbers.{between}
use Rattle.numbers.proofs.Tests.{is_within}
use Rattle.group.specs.declared.Entry.{Entry}
use Rattle.group.specs.Flags.{meaning_of}
use Rattle.answer.specs.Answer.{Told}
use Rattle.answer.specs.Answer.{Accepted, RefusedAt}
use Rattle.entry.specs.declared.Cursor.{Cursor}
use Rattle.entry.specs.ScanEnd.{ScanEnd}
use Rattle.entry.specs.ScanEnd as scanned
use Rattle.entry.specs.Rules.{entry_fault}
use Rattle.entry.specs.Scan.{is_last, scan}
use Rattle.reader.specs.declared.Reader.{Reader}
use Rattle.reader.specs.Answer.{length_kept, is_repeat, read_refusal, group_scan, read_call, told}
use Rattle.reader.proofs.Accepted.{not_repeat, never_repeat, read_repeated, read_refused_lem, read_scanned}
use Rattle.reader.proofs.Refusals.{one, four, five, six, seven, none}
use Rattle.reasons.specs.Rules.{Rule, Stop, in_order, rule_number, keeps, first_broken}
use Rattle.reasons.specs.Reasons.{largest}
use Rattle.reasons.proofs.Order.{in_order_lem}
use Rattle.explain.specs.Explanation.{Explanation}
use Rattle.explain.specs.Truth.{Keeps, stop_at, Stops, True, SameTold}
use Rattle.explain.specs.Truth.Keeps.{keeps_none, keeps_more}
use Rattle.explain.specs.Truth.Stops.{stops_here, stops_later}
use Rattle.explain.specs.Truth.True.{accepted, a_repeat, unsound, wrong_length, not_next, entries_out, rows_short, stopped}
use Rattle.explain.proofs.Scanned.{numbered}

-- The first rule broken is the one behind rules that are all kept; where all are kept, none is.
broken_first : (at : Stop) (e : Entry) (rule : Rule) (earlier later : List Rule) → Keeps at e earlier → keeps rule at (meaning_of e.flag) e.count ≡ false
    → first_broken (earlier ++ (rule ∷ later)) at (meaning_of e.flag) e.count ≡ rule_number rule
unfolding first_broken
broken_first at e rule [] later keeps_none b = rw b
broken_first at e rule (r ∷ rs) later (keeps_more h k) b = rw h (broken_first at e rule rs later k b)

none_broken : (at : Stop) (e : Entry) (rules : List Rule) → Keeps at e rules → first_broken rules at (meaning_of e.flag) e.count ≡ 0
unfolding first_broken
none_broken at e [] keeps_none = refl
none_broken at e (r ∷ rs) (keeps_more h k) = rw h (none_broken at e rs k)

-- A scan of which it is true that it stops is refused there.
pub record Refuses (end : ScanEnd) (x : Explanation) : Type 0 where
  pub at : Cursor
  pub is : end ≡ scanned.Refused x.refusal x.place at

stops_refused : {size limit : ℕ} {es : List Entry} {place : ℕ} {c : Cursor} {x : Explanation} → Stops size limit es place c x → Refuses (scan size limit es place c) x
unfolding scan
stops_refused {size} {limit} (stops_here {e = e} {es = es} {c = c} {rule = rule} b) =
    let at = stop_at size limit es c in
    let first : entry_fault size limit (is_last es) c (meaning_of e.flag) e.count ≡ rule_number rule =
    in_order_lem at (meaning_of e.flag) e.count ∙ ap (λ (rules : List Rule). first_broken rules at (meaning_of e.flag) e.count) b.ordered
    ∙ broken_first at e rule b.earlier b.later b.kept b.broken in
    record { at = c; is = rw (first, ne_eqb (rule_number rule) 0 (λ z. let n = numbered rule in omega arith)) }
stops_refused {size} {limit} (stops_later {e = e} {es = es} {c = c} k s) =
    let at = stop_at size limit es c in
    let first : entry_fault size limit (is_last es) c (meaning_of e.flag) e.count ≡ 0 =
    in_order_lem at (meaning_of e.flag) e.count ∙ none_broken at e in_order k in
    let rest = stops_refused s in
    record { at = rest.at; is = rw first rest.is }

module _ (s : Reader) (group : List ℕ) (number n bytes : ℕ) (few : bytes ≤ largest) where
  -- A length that is not from L to L is not L.
  length_differs : between s.size (length group) s.size ≡ false → length_kept s (length group) ≡ false
  length_differs out = by (eqb (length group) s.size) refl
    where
      by : (b : Bool) → eqb (length group) s.size ≡ b → b ≡ false
      by true e =
          let l = eqb-true (length group) s.size e in
          absurd (true≢false (sym (is_within {low = s.size} {n = length group} {high = s.size} (omega arith) (omega arith)) ∙ out))
      by false e = refl

  -- A refusal before the scan, as reading tells it.
  before : (r : ℕ) (x : Explanation) → r ≡ read_refusal s (length group) number n (bytes / 4) → (r ≡ 0 → ⊥) → is_repeat s (length group) number ≡ false
      → (x.refusal ≡ r) × (x.place ≡ 0) → SameTold (told (read_call s group number n (bytes / 4))) x
  before r x e h i k = rw (← read_refused_lem s group number n (bytes / 4) r e h i) k

  other : (r : ℕ) (x : Explanation) → r ≡ read_refusal s (length group) number n (bytes / 4) → (r ≡ 0 → ⊥) → (r ≡ 5 → ⊥)
      → (x.refusal ≡ r) × (x.place ≡ 0) → SameTold (told (read_call s group number n (bytes / 4))) x
  other r x e h f k = before r x e h (never_repeat s (length group) number n (bytes / 4) r e f) k

  pub true_told : {x : Explanation} → True s group number n bytes x → SameTold (told (read_call s group number n (bytes / 4))) x
  unfolding group_scan
  true_told (accepted e) = rw e refl
  true_told (a_repeat e) = rw (← read_repeated s group number n (bytes / 4) e) refl
  true_told (unsound e) = other 1 _ (one s (length group) number n (bytes / 4) e) (λ z. omega arith) (λ z. omega arith) (refl, refl)
  true_told (wrong_length a r out) = other 4 _ (four s (length group) number n (bytes / 4) a (length_differs (rw r at out))) (λ z. omega arith) (λ z. omega arith) (refl, refl)
  true_told (not_next a b c f out exact) =
      before 5 _ (five s (length group) number n (bytes / 4) a b (sym (exact number) ∙ out)) (λ z. omega arith) (not_repeat s (length group) number c) (refl, refl)
  true_told (entries_out a b c f out exact) = other 6 _ (six s (length group) number n (bytes / 4) a b c (sym (exact n) ∙ out)) (λ z. omega arith) (λ z. omega arith) (refl, refl)
  true_told (rows_short a b c d f out exact) = other 7 _ (seven s (length group) number n (bytes / 4) a b c d (sym (exact bytes few) ∙ out)) (λ z. omega arith) (λ z. omega arith) (refl, refl)
  true_told (stopped a b c d f stops) =
      let r = stops_refused stops in
      rw (← read_scanned s group number n (bytes / 4) (sym (none s (length group) number n (bytes / 4) a b c d f)) _ r.is) (refl, refl)

  -- So of two true explanations refusal and place are the same.
  pub true_once : {x y : Explanation} → True s group number n bytes x → True s group number n bytes y → (x.refusal ≡ y.refusal) × (x.place ≡ y.place)
  true_once {x} {y} t u = by (told (read_call s group number n (bytes / 4))) (true_told t) (true_told u)
    where
      by : (o : Told) → SameTold o x → SameTold o y → (x.refusal ≡ y.refusal) × (x.place ≡ y.place)
      by (Accepted outcome number entries taken) e f = rw (e, f) (refl, refl)
      by (RefusedAt refusal place) e f = (e.0 ∙ sym f.0, e.1 ∙ sym f.1)
