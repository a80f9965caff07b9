-- The product by shift and add is the field's: α^k times a byte is `times`, and with ⊕ it obeys the laws of a field.
-- Assumes nothing.
use mathlib.Core.Path.{◌≡◌, refl, sym, ap, ap₂, ◌∙◌, subst}
use mathlib.Core.Bool.{Bool}
use Prim.Native.Nat.{ℕ, zero, suc, ◌+◌, ◌-◌, ◌*◌, ◌/◌, ◌%◌, ◌<◌}
use native.Mathlib.Nat.{mod-lt, zero-lt-suc, zero-mul, one-mul}
use native.Mathlib.Omega.{arith}
use lib.Dec.{T, eqb, eqb→eq}
use Rattle.field.specs.Field.{◌⊕◌, times_alpha, times, power, product_over, product, polynomial}
use Rattle.field.specs.Tables.{logarithm_at}
use Rattle.numbers.proofs.Computed.{below}
use Rattle.field.proofs.Adding.{⊕_self, ⊕_four, times_alpha-⊕, times_alpha_zero, times_zero}
use Rattle.field.proofs.TableLaws.{power_logarithm, power_255, times_byte}
use Rattle.field.proofs.FieldLaws.{power_is, power_add, power_swap, by_logarithm, power_byte}

-- A bit times a byte, and the product, are linear in the byte and pass doubling by.
bit_times_alpha : (x b : ℕ) → x < 2 → x * times_alpha b ≡ times_alpha (x * b)
bit_times_alpha zero b h = zero-mul (times_alpha b) ∙ sym (ap times_alpha (zero-mul b) ∙ times_alpha_zero)
bit_times_alpha (suc zero) b h = one-mul (times_alpha b) ∙ sym (ap times_alpha (one-mul b))
bit_times_alpha (suc (suc x)) b h = absurd (omega arith)

bit-⊕ : (x b c : ℕ) → x < 2 → x * (b ⊕ c) ≡ (x * b) ⊕ (x * c)
bit-⊕ zero b c h = zero-mul (b ⊕ c) ∙ sym (ap₂ ◌⊕◌ (zero-mul b) (zero-mul c) ∙ ⊕_self 0)
bit-⊕ (suc zero) b c h = one-mul (b ⊕ c) ∙ sym (ap₂ ◌⊕◌ (one-mul b) (one-mul c))
bit-⊕ (suc (suc x)) b c h = absurd (omega arith)

shift_times_alpha : (k a b : ℕ) → product_over k a (times_alpha b) ≡ times_alpha (product_over k a b)
unfolding product_over
shift_times_alpha zero a b = sym times_alpha_zero
shift_times_alpha (suc k) a b =
    ap₂ ◌⊕◌ (bit_times_alpha (a % 2) b (mod-lt a (zero-lt-suc 1))) (ap times_alpha (shift_times_alpha k (a / 2) b))
    ∙ sym (times_alpha-⊕ (a % 2 * b) (times_alpha (product_over k (a / 2) b)))

shift-⊕ : (k a b c : ℕ) → product_over k a (b ⊕ c) ≡ product_over k a b ⊕ product_over k a c
unfolding product_over
shift-⊕ zero a b c = sym (⊕_self 0)
shift-⊕ (suc k) a b c =
    ap₂ ◌⊕◌ (bit-⊕ (a % 2) b c (mod-lt a (zero-lt-suc 1)))
    (ap times_alpha (shift-⊕ k (a / 2) b c) ∙ times_alpha-⊕ (product_over k (a / 2) b) (product_over k (a / 2) c))
    ∙ ⊕_four (a % 2 * b) (a % 2 * c) (times_alpha (product_over k (a / 2) b)) (times_alpha (product_over k (a / 2) c))

pub product-⊕ : (a b c : ℕ) → product a (b ⊕ c) ≡ product a b ⊕ product a c
unfolding product
product-⊕ a b c = shift-⊕ 8 a b c

product_times : (m a b : ℕ) → product a (times m b) ≡ times m (product a b)
unfolding times product
product_times zero a b = refl
product_times (suc m) a b = shift_times_alpha 8 a (times m b) ∙ ap times_alpha (product_times m a b)

-- 1 is neutral.
one : ℕ → Bool
one a = eqb (product a 1) a

one_all : (a : ℕ) → a < 256 → T (one a)
unfolding one product product_over times_alpha ◌⊕◌ polynomial
one_all a h = below one 256 tt a h

pub product_one : (a : ℕ) → a < 256 → product a 1 ≡ a
unfolding one
product_one a h = eqb→eq (product a 1) a (one_all a h)

-- A byte times α^m is that byte doubled m times.
pub product_power : (a m : ℕ) → a < 256 → product a (power m) ≡ times m a
product_power a m h = ap (product a) (power_is m) ∙ product_times m a 1 ∙ ap (times m) (product_one a h)

product_zero : (a : ℕ) → a < 256 → product a 0 ≡ 0
product_zero a h = ap (product a) (sym (⊕_self 0)) ∙ product-⊕ a 0 0 ∙ ⊕_self (product a 0)

zero_product : (m : ℕ) → product 0 (power m) ≡ 0
zero_product m = product_power 0 m (omega arith) ∙ times_zero m

pub product_comm : (a b : ℕ) → a < 256 → b < 256 → product a b ≡ product b a
product_comm a b ha hb =
    by_logarithm (λ (y : ℕ). product a y ≡ product y a)
    (product_zero a ha ∙ sym (by_logarithm (λ (x : ℕ). product 0 x ≡ 0) (product_zero 0 (omega arith)) (λ m h. zero_product m) a ha))
    (λ m h. product_power a m ha ∙ sym (right m)) b hb
  where
    right : (m : ℕ) → product (power m) a ≡ times m a
    right m =
        by_logarithm (λ (x : ℕ). product (power m) x ≡ times m x) (product_zero (power m) (power_byte m) ∙ sym (times_zero m))
        (λ l h. product_power (power m) l (power_byte m) ∙ power_swap l m) a ha

-- Products of products.
pub product_assoc : (a b c : ℕ) → a < 256 → b < 256 → c < 256 → product (product a b) c ≡ product a (product b c)
product_assoc a b c ha hb hc =
    by_logarithm (λ (z : ℕ). product (product a b) z ≡ product a (product b z))
    (product_zero (product a b) byte ∙ sym (ap (product a) (product_zero b hb) ∙ product_zero a ha))
    (λ m h. product_power (product a b) m byte ∙ sym (ap (product a) (product_power b m hb) ∙ product_times m a b)) c hc
  where
    byte : product a b < 256
    byte =
        by_logarithm (λ (y : ℕ). product a y < 256) (subst (λ (x : ℕ). x < 256) (sym (product_zero a ha)) (omega arith))
        (λ m h. subst (λ (x : ℕ). x < 256) (sym (product_power a m ha)) (times_byte m a ha)) b hb

-- Every byte but 0 has an inverse.
pub product_inverse : (a : ℕ) → a < 256 → (a ≡ 0 → ⊥) → product a (power (255 - logarithm_at a)) ≡ 1
product_inverse a h d =
    let p = power_logarithm a h d in
    let e : 255 - logarithm_at a + logarithm_at a ≡ 255 = whole (logarithm_at a) p.1 in
    product_power a (255 - logarithm_at a) h ∙ ap (times (255 - logarithm_at a)) (sym p.0) ∙ sym (power_add (255 - logarithm_at a) (logarithm_at a)) ∙ ap power e ∙ power_255
  where
    whole : (l : ℕ) → l < 255 → 255 - l + l ≡ 255
    whole l h = omega arith
