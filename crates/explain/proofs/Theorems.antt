-- Change request 2026-07: what is told is true, and is reading's own refusal.
-- Assumes nothing.
use Prim.Native.Nat.{ℕ, ◌+◌, ◌*◌, ◌-◌, ◌/◌, ◌≤◌}
use native.Mathlib.Omega.{arith}
use mathlib.Core.Path.{◌≡◌, refl, sym, ◌∙◌}
use mathlib.Core.List.{List}
use mathlib.Core.Bool.{Bool, true, false, cond, not, ◌&&◌}
use lib.Dec.{eqb, leb}
use lib.ListN.{length}
use borrow.Author.Tests.{leb-true, leb-false, eqb-true, eqb-false, le-leb, eq-eqb}
use Rattle.numbers.specs.Numbers.{between}
use Rattle.numbers.proofs.Tests.{both, and, within, is_within}
use Rattle.group.specs.Sizes.{information_length, entry_length, last_number, entries_kept}
use Rattle.entry.specs.ScanEnd.{ScanEnd}
use Rattle.entry.specs.ScanEnd as scanned
use Rattle.reader.specs.declared.Reader.{Reader}
use Rattle.reader.specs.ReadAnswer as answer
use Rattle.reader.specs.Answer.{sound, length_kept, repeats, is_repeat, next_is, rows_fit, read_refusal, opening, closing, group_scan, answered, read_call, told}
use Rattle.reader.proofs.Accepted.{read_scanned}
use Rattle.explain.specs.Explanation.{Explanation}
use Rattle.reasons.specs.Reasons.{reason, next_reason, call_reason, largest}
use Rattle.explain.specs.Explanation.{explanation, no_refusal, scan_explained, explained}
use Rattle.explain.specs.Truth.{True, SameTold}
use Rattle.explain.specs.Truth.True.{accepted, a_repeat, unsound, wrong_length, not_next, entries_out, rows_short, stopped}
use Rattle.reasons.proofs.Numbers.{same_test, outside}
use Rattle.explain.proofs.Scanned.{stops_scan}

module _ (s : Reader) (group : List ℕ) (number n bytes : ℕ) where
  -- 5: the next number alone is allowed, none at 65,536.
  next_true : sound s ≡ true → length_kept s (length group) ≡ true → repeats s number ≡ false → next_is s number ≡ false → True s group number n bytes (explanation 5 0 0 (next_reason s.next number))
  next_true a b d c = by (leb s.next last_number) refl
    where
      by : (h : Bool) → leb s.next last_number ≡ h → True s group number n bytes (explanation 5 0 0 (cond h (reason number s.next s.next 0) (reason number 1 0 0)))
      by true h =
          let low = leb-true s.next last_number h in
          let exact : (x : ℕ) → between s.next x s.next ≡ next_is s x =
          λ x.
          same_test (between s.next x s.next) (next_is s x) (λ i. let w = within s.next x s.next i in and (eq-eqb x s.next (omega arith)) (le-leb x last_number (omega arith)))
          (λ i. let e = eqb-true x s.next (both (eqb x s.next) (leb x last_number) i).0 in is_within {low = s.next} {n = x} {high = s.next} (omega arith) (omega arith)) in
          not_next {r = reason number s.next s.next 0} a b d refl (exact number ∙ c) exact
      by false h =
          let high = leb-false s.next last_number h in
          let exact : (x : ℕ) → between 1 x 0 ≡ next_is s x =
          λ x.
          same_test (between 1 x 0) (next_is s x) (λ i. let w = within 1 x 0 i in absurd (omega arith))
          (λ i. let e = both (eqb x s.next) (leb x last_number) i in let f = eqb-true x s.next e.0 in let g = leb-true x last_number e.1 in absurd (omega arith)) in
          not_next {r = reason number 1 0 0} a b d refl (exact number ∙ c) exact

  -- 6: "at least 1, and 32 + 4n at most L".
  entries_exact : (x : ℕ) → between 1 x ((s.size - information_length) / entry_length) ≡ entries_kept s.size x
  entries_exact x =
      same_test (between 1 x ((s.size - information_length) / entry_length)) (entries_kept s.size x)
      (λ i. let w = within 1 x ((s.size - information_length) / entry_length) i in and (le-leb 1 x w.0) (le-leb (32 + 4 * x) s.size (omega arith)))
      (λ i.
      let e = both (leb 1 x) (leb (32 + 4 * x) s.size) i in
      let f = leb-true 1 x e.0 in
      let g = leb-true (32 + 4 * x) s.size e.1 in
      is_within {low = 1} {n = x} {high = (s.size - information_length) / entry_length} (omega arith) (omega arith))

  scan_true : sound s ≡ true → length_kept s (length group) ≡ true → next_is s number ≡ true → entries_kept s.size n ≡ true → rows_fit n (bytes / 4) ≡ true →
      (o : ScanEnd) → group_scan s group n ≡ o → True s group number n bytes (scan_explained s.size n group o)
  unfolding group_scan read_refusal
  scan_true a b c d f (scanned.Reached e) h =
      accepted {t = closing s e} (sym (read_scanned s group number n (bytes / 4) (rw (a, b, c, d, f)) (scanned.Reached e) h))
  scan_true a b c d f (scanned.Refused fault k e) h =
      stopped a b c d f (stops_scan group s.size n n (s.size - information_length) 1 (opening s) (omega arith) (omega arith) (omega arith) fault k e h)

  -- 7: twelve bytes an entry.
  rows_exact : (x : ℕ) → x ≤ largest → between (12 * n) x largest ≡ rows_fit n (x / 4)
  rows_exact x most =
      same_test (between (12 * n) x largest) (rows_fit n (x / 4)) (λ i. let w = within (12 * n) x largest i in le-leb (3 * n) (x / 4) (omega arith))
      (λ i. let e = leb-true (3 * n) (x / 4) i in is_within {low = 12 * n} {n = x} {high = largest} (omega arith) most)

  -- "The reason must be proved true: the rule is broken there by those numbers and every earlier rule holds."
  pub explained_true : True s group number n bytes (explained s group number n bytes)
  unfolding explained is_repeat read_refusal call_reason
  explained_true =
      by (sound s) refl (length_kept s (length group)) refl (repeats s number) refl (next_is s number) refl (entries_kept s.size n) refl (rows_fit n (bytes / 4)) refl
    where
      why : (repeat : Bool) (refusal : ℕ) → Explanation
      why repeat refusal =
          cond repeat no_refusal
          (cond (eqb refusal 0) (scan_explained s.size n group (group_scan s group n))
          (explanation refusal 0 0 (call_reason refusal s.size s.next (length group) number n bytes)))

      by : (a : Bool) → sound s ≡ a → (b : Bool) → length_kept s (length group) ≡ b → (r : Bool) → repeats s number ≡ r → (c : Bool) → next_is s number ≡ c →
          (d : Bool) → entries_kept s.size n ≡ d → (f : Bool) → rows_fit n (bytes / 4) ≡ f →
          True s group number n bytes (why (a && (b && r)) (cond (not a) 1 (cond (not b) 4 (cond (not c) 5 (cond (not d) 6 (cond (not f) 7 0))))))
      by false u b v r z c w d x f y = unsound u
      by true u false v r z c w d x f y =
          wrong_length {r = reason (length group) s.size s.size 0} u refl (let e = eqb-false (length group) s.size v in outside s.size (length group) s.size (λ l m. e (omega arith)))
      by true u true v true z c w d x f y = a_repeat (rw (u, v, z))
      by true u true v false z false w d x f y = next_true u v z w
      by true u true v false z true w false x f y =
          entries_out {r = reason n 1 ((s.size - information_length) / entry_length) 0} u v w refl (entries_exact n ∙ x) entries_exact
      by true u true v false z true w true x false y =
          rows_short {r = reason bytes (12 * n) largest 0} u v w x refl (let e = leb-false (3 * n) (bytes / 4) y in outside (12 * n) bytes largest (λ l m. omega arith)) rows_exact
      by true u true v false z true w true x true y = scan_true u v w x y (group_scan s group n) refl

  -- "Refusals: those of reading, put into the explanation".
  pub explained_same : SameTold (told (read_call s group number n (bytes / 4))) (explained s group number n bytes)
  unfolding explained read_call
  explained_same = by (is_repeat s (length group) number) (read_refusal s (length group) number n (bytes / 4)) (eqb (read_refusal s (length group) number n (bytes / 4)) 0) (group_scan s group n)
    where
      by : (a : Bool) (refusal : ℕ) (b : Bool) (o : ScanEnd) →
          SameTold (told (cond a (answer.Repeated s) (cond b (answered s o) (answer.Refused s refusal 0))))
          (cond a no_refusal (cond b (scan_explained s.size n group o) (explanation refusal 0 0 (call_reason refusal s.size s.next (length group) number n bytes))))
      by true refusal b o = refl
      by false refusal true (scanned.Reached c) = refl
      by false refusal true (scanned.Refused fault place c) = (refl, refl)
      by false refusal false o = (refl, refl)
