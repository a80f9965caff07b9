-- The group laws of ⊕, and that doubling is linear: for all numbers, not for bytes alone. Assumes nothing.
use mathlib.Core.Path.{◌≡◌, refl, sym, ap, ap₂, ◌∙◌}
use Prim.Native.Nat.{ℕ, zero, suc, ◌+◌, ◌*◌, ◌/◌, ◌%◌, ◌^◌, ◌<◌}
use native.Mathlib.Nat.{mod-lt, zero-lt-suc, zero-mul}
use native.Mathlib.Omega.{arith}
use lib.Arith.{bin_ind}
use lib.Bits.{bit_xor, differ, xor_step, xor_comm, xor_self, xor_zero_r, xor_shr, xor_mod, xor_block, xor_lt}
use Rattle.field.specs.Field.{◌⊕◌, times_alpha, times, polynomial}

pub ⊕_zero : (a : ℕ) → a ⊕ 0 ≡ a
unfolding ◌⊕◌
⊕_zero a = xor_zero_r a

pub zero-⊕ : (a : ℕ) → 0 ⊕ a ≡ a
unfolding ◌⊕◌
zero-⊕ a = refl

pub ⊕_comm : (a b : ℕ) → a ⊕ b ≡ b ⊕ a
unfolding ◌⊕◌
⊕_comm a b = xor_comm a b

pub ⊕_self : (a : ℕ) → a ⊕ a ≡ 0
unfolding ◌⊕◌
⊕_self a = xor_self a

-- Two digits make a digit.
digit : (x y z : ℕ) → x < 2 → y < 2 → z < 2 → differ (bit_xor x y) z ≡ differ x (bit_xor y z)
digit zero zero z hx hy hz = refl
digit zero (suc zero) zero hx hy hz = refl
digit zero (suc zero) (suc zero) hx hy hz = refl
digit zero (suc zero) (suc (suc z)) hx hy hz = absurd (omega arith)
digit zero (suc (suc y)) z hx hy hz = absurd (omega arith)
digit (suc zero) zero zero hx hy hz = refl
digit (suc zero) zero (suc zero) hx hy hz = refl
digit (suc zero) zero (suc (suc z)) hx hy hz = absurd (omega arith)
digit (suc zero) (suc zero) zero hx hy hz = refl
digit (suc zero) (suc zero) (suc zero) hx hy hz = refl
digit (suc zero) (suc zero) (suc (suc z)) hx hy hz = absurd (omega arith)
digit (suc zero) (suc (suc y)) z hx hy hz = absurd (omega arith)
digit (suc (suc x)) y z hx hy hz = absurd (omega arith)

assoc : (a b c : ℕ) → bit_xor (bit_xor a b) c ≡ bit_xor a (bit_xor b c)
assoc a =
    bin_ind (λ (n : ℕ). (b c : ℕ) → bit_xor (bit_xor n b) c ≡ bit_xor n (bit_xor b c)) (λ b c. refl)
    (λ n ih b c. xor_step (bit_xor n b) c
    ∙ ap₂ (λ (x y : ℕ). bit_xor x (c / 2) * 2 + differ y (c % 2)) (xor_shr n b 1) (xor_mod n b 1)
    ∙ ap₂ (λ (x y : ℕ). x * 2 + y) (ih (b / 2) (c / 2)) (digit (n % 2) (b % 2) (c % 2) (mod-lt n (zero-lt-suc 1)) (mod-lt b (zero-lt-suc 1)) (mod-lt c (zero-lt-suc 1)))
    ∙ sym (ap₂ (λ (x y : ℕ). bit_xor (n / 2) x * 2 + differ (n % 2) y) (xor_shr b c 1) (xor_mod b c 1))
    ∙ sym (xor_step n (bit_xor b c))) a

pub ⊕_assoc : (a b c : ℕ) → (a ⊕ b) ⊕ c ≡ a ⊕ (b ⊕ c)
unfolding ◌⊕◌
⊕_assoc a b c = assoc a b c

-- Four, the middle two exchanged.
pub ⊕_four : (a b c d : ℕ) → (a ⊕ b) ⊕ (c ⊕ d) ≡ (a ⊕ c) ⊕ (b ⊕ d)
⊕_four a b c d =
    ⊕_assoc a b (c ⊕ d)
    ∙ ap (λ (x : ℕ). a ⊕ x) (sym (⊕_assoc b c d) ∙ ap (λ (x : ℕ). x ⊕ d) (⊕_comm b c) ∙ ⊕_assoc c b d)
    ∙ sym (⊕_assoc a c (b ⊕ d))

-- What is added twice is gone.
pub ⊕_back : (a b : ℕ) → a ⊕ (a ⊕ b) ≡ b
⊕_back a b = sym (⊕_assoc a a b) ∙ ap (λ (x : ℕ). x ⊕ b) (⊕_self a) ∙ zero-⊕ b

pub ⊕_undo : (a b : ℕ) → (a ⊕ b) ⊕ b ≡ a
⊕_undo a b = ⊕_assoc a b b ∙ ap (λ (x : ℕ). a ⊕ x) (⊕_self b) ∙ ⊕_zero a

-- A sum of 0 is of equals.
pub ⊕_equal : (a b : ℕ) → a ⊕ b ≡ 0 → a ≡ b
⊕_equal a b e = sym (⊕_undo a b) ∙ ap (λ (x : ℕ). x ⊕ b) e ∙ zero-⊕ b

pub ⊕_byte : (a b : ℕ) → a < 256 → b < 256 → a ⊕ b < 256
unfolding ◌⊕◌
⊕_byte a b ha hb = xor_lt 8 a b ha hb

-- Doubling.
twice : (a b : ℕ) → (a ⊕ b) * 2 ≡ (a * 2) ⊕ (b * 2)
unfolding ◌⊕◌
twice a b = sym (xor_zero_add a b)
  where
    plus : (x : ℕ) → x * 2 ^ 1 + 0 ≡ x * 2
    plus x = omega arith

    xor_zero_add : (a b : ℕ) → bit_xor (a * 2) (b * 2) ≡ bit_xor a b * 2
    xor_zero_add a b = ap₂ bit_xor (sym (plus a)) (sym (plus b)) ∙ xor_block 1 a b 0 0 (zero-lt-suc 1) (zero-lt-suc 1) ∙ plus (bit_xor a b)

bit : (p x y : ℕ) → x < 2 → y < 2 → (x ⊕ y) * p ≡ (x * p) ⊕ (y * p)
bit p zero y hx hy = ap (λ (z : ℕ). z * p) (zero-⊕ y) ∙ sym (ap (λ (z : ℕ). z ⊕ (y * p)) (zero-mul p) ∙ zero-⊕ (y * p))
bit p (suc zero) zero hx hy =
    ap (λ (z : ℕ). z * p) (⊕_zero 1) ∙ sym (ap (λ (z : ℕ). (1 * p) ⊕ z) (zero-mul p) ∙ ⊕_zero (1 * p))
bit p (suc zero) (suc zero) hx hy = ap (λ (z : ℕ). z * p) (⊕_self 1) ∙ zero-mul p ∙ sym (⊕_self (1 * p))
bit p (suc zero) (suc (suc y)) hx hy = absurd (omega arith)
bit p (suc (suc x)) y hx hy = absurd (omega arith)

top : (a b : ℕ) → (a ⊕ b) / 128 % 2 ≡ (a / 128 % 2) ⊕ (b / 128 % 2)
unfolding ◌⊕◌
top a b = ap (λ (x : ℕ). x % 2) (xor_shr a b 7) ∙ xor_mod (a / 128) (b / 128) 1

pub times_alpha-⊕ : (a b : ℕ) → times_alpha (a ⊕ b) ≡ times_alpha a ⊕ times_alpha b
unfolding times_alpha
times_alpha-⊕ a b =
    ap₂ (λ (x y : ℕ). x ⊕ (y * polynomial)) (twice a b) (top a b)
    ∙ ap (λ (x : ℕ). (a * 2) ⊕ (b * 2) ⊕ x) (bit polynomial (a / 128 % 2) (b / 128 % 2) (mod-lt (a / 128) (zero-lt-suc 1)) (mod-lt (b / 128) (zero-lt-suc 1)))
    ∙ ⊕_four (a * 2) (b * 2) (a / 128 % 2 * polynomial) (b / 128 % 2 * polynomial)

pub times_alpha_zero : times_alpha 0 ≡ 0
unfolding times_alpha ◌⊕◌ polynomial
times_alpha_zero = refl

pub times-⊕ : (k a b : ℕ) → times k (a ⊕ b) ≡ times k a ⊕ times k b
unfolding times
times-⊕ zero a b = refl
times-⊕ (suc k) a b = ap times_alpha (times-⊕ k a b) ∙ times_alpha-⊕ (times k a) (times k b)

pub times_zero : (k : ℕ) → times k 0 ≡ 0
unfolding times
times_zero zero = refl
times_zero (suc k) = ap times_alpha (times_zero k) ∙ times_alpha_zero
