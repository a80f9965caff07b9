-- The digits that `io::decimal` puts are `decimal`'s; a number of 64 bits has at most twenty, and one of 32 bits ten.
-- Assumes nothing.
use Prim.Native.Nat.{ℕ, zero, suc, ◌+◌, ◌-◌, ◌*◌, ◌/◌, ◌%◌, ◌^◌, ◌≤◌, ◌<◌}
use mathlib.Core.Path.{◌≡◌, refl, sym, ◌∙◌}
use mathlib.Core.Bool.{Bool, true, false, cond}
use mathlib.Core.List.{[], ◌∷◌, ◌++◌}
use native.Mathlib.Nat.{pow-succ', pow-le-pow_right, mod-lt, mod-eq_of_lt, one-le-pow}
use native.Mathlib.Omega.{arith}
use lib.Dec.{ltb}
use lib.ListN.{length, length-append}
use borrow.Author.Tests.{lt-ltb, le-ltb, ltb-true, ltb-false}
use Rattle.io.specs.Digits.{hex_digit_ascii, last_digits, IsDigitCount}
use Rattle.words.specs.Words.{decimal_in, decimal}

-- How many digits were asked for.
pub length_digits : (k n : ℕ) → length (last_digits 10 k n) ≡ k
length_digits zero n = refl
length_digits (suc k) n = simp length-append (omega (arith, length_digits k (n / 10)))

-- A number below a power of ten has at most so many digits.
at_most : (most n k : ℕ) → 1 ≤ most → n < 10 ^ most → IsDigitCount 10 1 n k → k ≤ most
at_most most n k one h f = by (ltb most k) refl
  where
    by : (b : Bool) → ltb most k ≡ b → k ≤ most
    by false e = omega (arith, ltb-false most k e)
    by true e =
        let long = ltb-true most k e in
        let low = f.2 (omega (arith, long)) in
        let powers : 10 ^ most ≤ 10 ^ (k - 1) = pow-le-pow_right (omega arith) {i = most} {j = k - 1} (omega (arith, long)) in
        absurd (omega (arith, low, powers))

digit : (d : ℕ) → d < 10 → hex_digit_ascii d ≡ 48 + d
digit d h = rw (lt-ltb d 10 h)

one_digit : (n : ℕ) → n < 10 → last_digits 10 1 n ≡ (48 + n) ∷ []
one_digit n h = rw (mod-eq_of_lt h, lt-ltb n 10 h)

-- Two digits or more: a power of ten is reached, and a tenth of the number has one digit fewer.
reached : (j n : ℕ) → IsDigitCount 10 1 n (suc (suc j)) → 10 * 10 ^ j ≤ n
reached j n f =
    let less : suc (suc j) - 1 ≡ suc j = omega arith in
    rw (sym (pow-succ' 10 j), sym less) (f.2 (omega arith))

tenth : (j n : ℕ) → IsDigitCount 10 1 n (suc (suc j)) → IsDigitCount 10 1 (n / 10) (suc j)
tenth j n f =
    let less : suc j - 1 ≡ j = omega arith in
    let low : 10 ^ j ≤ n / 10 = omega (arith, reached j n f) in
    (omega arith, omega (arith, f.1, pow-succ' 10 (suc j)), (λ h. rw less low))

more_digits : (j n : ℕ) → IsDigitCount 10 1 n (suc (suc j)) → 10 ≤ n
more_digits j n f = omega (arith, reached j n f, one-le-pow j 10 (omega arith))

last_digit : (most n : ℕ) → 10 ≤ n → decimal_in (suc most) n ≡ decimal_in most (n / 10) ++ ((48 + n % 10) ∷ [])
unfolding decimal_in
last_digit most n h = rw (le-ltb n 10 h)

only_digit : (most n : ℕ) → n < 10 → decimal_in (suc most) n ≡ (48 + n) ∷ []
unfolding decimal_in
only_digit most n h = rw (lt-ltb n 10 h)

decimal_in_lem : (most k n : ℕ) → k ≤ most → IsDigitCount 10 1 n k → last_digits 10 k n ≡ decimal_in most n
decimal_in_lem most zero n h f = absurd (omega (arith, f.0))
decimal_in_lem zero (suc k) n h f = absurd (omega arith)
decimal_in_lem (suc most) (suc zero) n h f = one_digit n (omega (arith, f.1)) ∙ sym (only_digit most n (omega (arith, f.1)))
decimal_in_lem (suc most) (suc (suc j)) n h f =
    rw (decimal_in_lem most (suc j) (n / 10) (omega arith) (tenth j n f), last_digit most n (more_digits j n f), digit (n % 10) (mod-lt n (omega arith)))

-- The fewest digits that hold a number of 64 bits are its decimal text.
pub decimal_fewest : (n k : ℕ) → n < 2 ^ 64 → IsDigitCount 10 1 n k → last_digits 10 k n ≡ decimal n
unfolding decimal
decimal_fewest n k h f = decimal_in_lem 20 k n (at_most 20 n k (omega arith) (omega (arith, h)) f) f

-- A number below a power of ten has so few digits.
short : (most few n : ℕ) → n < 10 ^ suc few → length (decimal_in most n) ≤ suc few
unfolding decimal_in
short zero few n h = omega arith
short (suc most) few n h = by (ltb n 10) refl few h (λ few h. short most few (n / 10) h)
  where
    by : (b : Bool) → ltb n 10 ≡ b → (few : ℕ) → n < 10 ^ suc few → ((few : ℕ) → n / 10 < 10 ^ suc few → length (decimal_in most (n / 10)) ≤ suc few)
        → length (cond b ((48 + n) ∷ []) (decimal_in most (n / 10) ++ ((48 + n % 10) ∷ []))) ≤ suc few
    by true e few h rest = omega arith
    by false e zero h rest = absurd (omega (arith, ltb-false n 10 e, h))
    by false e (suc few) h rest =
        let fewer = rest few (omega (arith, pow-succ' 10 (suc few), h)) in
        rw length-append (omega (arith, fewer))

pub decimal_20 : (n : ℕ) → n < 2 ^ 64 → length (decimal n) ≤ 20
unfolding decimal
decimal_20 n h = short 20 19 n (omega (arith, h))

pub decimal_10 : (n : ℕ) → n < 2 ^ 32 → length (decimal n) ≤ 10
unfolding decimal
decimal_10 n h = short 20 9 n (omega (arith, h))
