-- The refusals that need no column: what each call knows where there is none, and what it answers where there is one.
-- Assumes nothing.
use mathlib.Core.Path.{◌≡◌, refl, sym}
use mathlib.Core.Bool.{Bool, true, false, cond, not, true≢false}
use Prim.Native.Nat.{ℕ, ◌*◌, ◌≤◌, ◌<◌}
use native.Mathlib.Omega.{arith}
use lib.Dec.{eqb, leb, ltb}
use borrow.Author.Tests.{not-false, leb-true, le-leb, eqb-true, eqb-false, eq-eqb, ne_eqb, lt-ltb, le-ltb}
use Rattle.numbers.proofs.Tests.{both, and, passed}
use Rattle.std.specs.Prelude.{Result, Ok, Err, IsErr}
use Rattle.answer.specs.declared.refusals.ThirdRefusal.{ThirdRefusal}
use Rattle.answer.specs.Numbers.{third_number}
use Rattle.answer.specs.Results.{number_of}
use Rattle.answer.specs.NotZero.{third_not_zero as number_not_zero}
use Rattle.column.specs.Column.{row_count, last_row}
use Rattle.third.specs.Answer.{ThirdAnswer}
use Rattle.third.specs.Answer.{length_kept, row_kept, length_refusal, one_refusal, two_refusal, answer_of}

-- A refusal that is found has a number that is not 0.
not_zero : (r : ThirdRefusal) → third_number r ≡ 0 → ⊥
not_zero r e = eqb-false (third_number r) 0 (number_not_zero r) e

pub is_refusal : {A : Type 0} (r : Result A ThirdRefusal) → IsErr r → number_of third_number r ≡ 0 → ⊥
is_refusal (Ok x) h e = absurd (true≢false (sym h))
is_refusal (Err r) h e = not_zero r e

-- Where no refusal is found, the rest decides.
pub let_through : {refusal : ℕ} (rest : ThirdAnswer) → refusal ≡ 0 → rest ≡ answer_of refusal rest
let_through {refusal} rest e = rw (eq-eqb refusal 0 e) refl

-- What hangs on whether a column was found.
pub found : {c f n : ℕ} (x y : ThirdAnswer) → c ≡ f → c < n → x ≡ cond (ltb f n) x y
found {c} {f} {n} x y e h = rw (lt-ltb f n (omega arith)) refl

pub not_found : {c f n : ℕ} (x y : ThirdAnswer) → c ≡ f → n ≤ c → y ≡ cond (ltb f n) x y
not_found {c} {f} {n} x y e h = rw (le-ltb f n (omega arith)) refl

-- 46 rows of a row length that is not 0.
pub record Kept (total n : ℕ) : Type 0 where
  pub some : 1 ≤ n
  pub long : total ≡ row_count * n

kept_length : (total n : ℕ) → length_kept total n ≡ true → Kept total n
unfolding length_kept
kept_length total n h =
    let p = both (leb 1 n) (eqb total (row_count * n)) h in
    record { some = leb-true 1 n p.0; long = eqb-true total (row_count * n) p.1 }

length_kept_lem : (total n : ℕ) → Kept total n → length_kept total n ≡ true
unfolding length_kept
length_kept_lem total n k = and (le-leb 1 n k.some) (eq-eqb total (row_count * n) k.long)

-- One test after the other: a number that is not 0 stays, and after 0 the next test decides.
stays : (b : Bool) (x rest : ℕ) → (x ≡ 0 → ⊥) → x ≡ cond b 40 0 → x ≡ cond b 40 rest
stays true x rest d e = e
stays false x rest d e = absurd (d e)

stays_twice : (b c : Bool) (x rest : ℕ) → (x ≡ 0 → ⊥) → x ≡ cond b 40 (cond c 41 0) → x ≡ cond b 40 (cond c 41 rest)
stays_twice true c x rest d e = e
stays_twice false true x rest d e = e
stays_twice false false x rest d e = absurd (d e)

module _ (total n : ℕ) where
  pub make_kept : length_refusal total n ≡ 0 → Kept total n
  unfolding length_refusal
  make_kept e = kept_length total n (not-false _ (passed _ _ e).0)

  pub make_lets : Kept total n → length_refusal total n ≡ 0
  unfolding length_refusal
  make_lets k = rw (length_kept_lem total n k)

  pub one_kept : (i : ℕ) → one_refusal total n i ≡ 0 → Kept total n × (i ≤ last_row)
  unfolding one_refusal
  one_kept i e =
      let p = passed _ _ e in
      (kept_length total n (not-false _ p.0), leb-true i last_row (not-false _ (passed _ _ p.1).0))

  pub one_lets : (i : ℕ) → Kept total n → i ≤ last_row → one_refusal total n i ≡ 0
  unfolding one_refusal
  one_lets i k h = rw (length_kept_lem total n k, le-leb i last_row h)

  pub record TwoKept (i j : ℕ) : Type 0 where
    pub length : Kept total n
    pub first : i ≤ last_row
    pub second : j ≤ last_row
    pub other : i ≡ j → ⊥

  pub two_kept : (i j : ℕ) → two_refusal total n i j ≡ 0 → TwoKept i j
  unfolding two_refusal
  two_kept i j e =
      let p = passed _ _ e in
      let q = passed _ _ p.1 in
      let r = passed _ _ q.1 in
      let s = passed (eqb i j) _ r.1 in
      record {
        length = kept_length total n (not-false _ p.0);
        first = leb-true i last_row (not-false _ q.0);
        second = leb-true j last_row (not-false _ r.0);
        other = λ z. eqb-false i j s.0 z;
      }

  pub two_lets : (i j : ℕ) → TwoKept i j → two_refusal total n i j ≡ 0
  unfolding two_refusal
  two_lets i j k = rw (length_kept_lem total n k.length, le-leb i last_row k.first, le-leb j last_row k.second, ne_eqb i j k.other)

  -- Each is the one before it, and one test or two more.
  pub one_stays : {x : ℕ} (i : ℕ) → x ≡ length_refusal total n → (x ≡ 0 → ⊥) → x ≡ one_refusal total n i
  unfolding length_refusal one_refusal
  one_stays i e d = stays _ _ _ d e

  pub one_goes : (i : ℕ) → length_refusal total n ≡ 0 → one_refusal total n i ≡ cond (not (row_kept i)) 41 0
  unfolding one_refusal
  one_goes i e = rw (length_kept_lem total n (make_kept e)) refl

  pub two_stays : {x : ℕ} (i j : ℕ) → x ≡ one_refusal total n i → (x ≡ 0 → ⊥) → x ≡ two_refusal total n i j
  unfolding one_refusal two_refusal
  two_stays i j e d = stays_twice _ _ _ _ d e

  pub two_goes : (i j : ℕ) → one_refusal total n i ≡ 0 → two_refusal total n i j ≡ cond (not (row_kept j)) 41 (cond (eqb i j) 42 0)
  unfolding two_refusal
  two_goes i j e = let k = one_kept i e in rw (length_kept_lem total n k.0, le-leb i last_row k.1) refl
