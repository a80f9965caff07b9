-- The laws of the field: powers add, all have an inverse, and a product is a sum of logarithms.
-- Assumes nothing.
use mathlib.Core.Path.{◌≡◌, refl, sym, ap, ap₂, ◌∙◌, subst}
use Prim.Native.Nat.{ℕ, zero, suc, ◌+◌, ◌-◌, ◌%◌, ◌<◌, ◌≤◌}
use native.Mathlib.Nat.{zero-add, suc-add, add_comm}
use native.Mathlib.Decide.{ℕ_discrete, dec_lt}
use native.Mathlib.Omega.{arith}
use Rattle.field.specs.Field.{◌⊕◌, times_alpha, times, power}
use Rattle.field.specs.Tables.{power_at, logarithm_at}
use Rattle.field.proofs.Adding.{⊕_self, times-⊕, times_zero}
use Rattle.field.proofs.TableLaws.{power_at_is, logarithm_power, power_logarithm, power_255, times_byte}

pub times_add : (a b x : ℕ) → times (a + b) x ≡ times a (times b x)
unfolding times
times_add zero b x = ap (λ (n : ℕ). times n x) (zero-add b)
times_add (suc a) b x = ap (λ (n : ℕ). times n x) (suc-add a b) ∙ ap times_alpha (times_add a b x)

pub times_comm : (a b x : ℕ) → times a (times b x) ≡ times b (times a x)
times_comm a b x = sym (times_add a b x) ∙ ap (λ (n : ℕ). times n x) (add_comm a b) ∙ times_add b a x

pub power_is : (m : ℕ) → power m ≡ times m 1
unfolding power
power_is m = refl

pub power_add : (a b : ℕ) → power (a + b) ≡ times a (power b)
unfolding power
power_add a b = times_add a b 1

pub power_swap : (a b : ℕ) → times a (power b) ≡ times b (power a)
unfolding power
power_swap a b = times_comm a b 1

-- What holds of 0 and of every power holds of every byte.
pub by_logarithm : (P : ℕ → Type 0) → P 0 → ((m : ℕ) → m < 255 → P (power m)) → (x : ℕ) → x < 256 → P x
by_logarithm P z f x h = go (ℕ_discrete x 0)
  where
    go : Dec (x ≡ 0) → P x
    go (yes e) = subst P (sym e) z
    go (no d) = let p = power_logarithm x h d in subst P p.0 (f (logarithm_at x) p.1)

pub times_255 : (x : ℕ) → x < 256 → times 255 x ≡ x
times_255 = by_logarithm (λ (x : ℕ). times 255 x ≡ x) (times_zero 255) (λ m h. power_swap 255 m ∙ ap (times m) power_255 ∙ sym (power_is m))

-- To multiply by α^k and then by α^(255 − k) changes nothing.
pub times_back : (k x : ℕ) → k ≤ 255 → x < 256 → times (255 - k) (times k x) ≡ x
times_back k x hk h = sym (times_add (255 - k) k x) ∙ ap (λ (n : ℕ). times n x) (whole k hk) ∙ times_255 x h
  where
    whole : (k : ℕ) → k ≤ 255 → 255 - k + k ≡ 255
    whole k h = omega arith

pub times_forth : (k x : ℕ) → k ≤ 255 → x < 256 → times k (times (255 - k) x) ≡ x
times_forth k x hk h = times_comm k (255 - k) x ∙ times_back k x hk h

pub times_none : (k x : ℕ) → k ≤ 255 → x < 256 → times k x ≡ 0 → x ≡ 0
times_none k x hk h e = sym (times_back k x hk h) ∙ ap (times (255 - k)) e ∙ times_zero (255 - k)

-- (α^a + α^b) x is α^k x, where α^a + α^b is α^k.
pub times_sum : (a b k x : ℕ) → power a ⊕ power b ≡ power k → x < 256 → times a x ⊕ times b x ≡ times k x
times_sum a b k x e h =
    by_logarithm (λ (x : ℕ). times a x ⊕ times b x ≡ times k x) none
    (λ m hm. ap₂ ◌⊕◌ (power_swap a m) (power_swap b m) ∙ sym (times-⊕ m (power a) (power b)) ∙ ap (times m) e ∙ power_swap m k) x h
  where
    none : times a 0 ⊕ times b 0 ≡ times k 0
    none = ap₂ ◌⊕◌ (times_zero a) (times_zero b) ∙ ⊕_self 0 ∙ sym (times_zero k)

pub logarithm_of_power : (k : ℕ) → k < 255 → logarithm_at (power k) ≡ k
logarithm_of_power k h = ap logarithm_at (sym (power_at_is k (omega arith))) ∙ logarithm_power k h

pub power_same : (a b : ℕ) → a < 255 → b < 255 → power a ≡ power b → a ≡ b
power_same a b ha hb e = sym (logarithm_of_power a ha) ∙ ap logarithm_at e ∙ logarithm_of_power b hb

pub power_byte : (k : ℕ) → power k < 256
unfolding power
power_byte k = times_byte k 1 (omega arith)

-- Powers come round after 255.
pub power_mod : (n : ℕ) → n < 510 → power (n % 255) ≡ power n
power_mod n h = go (dec_lt n 255)
  where
    low : n < 255 → n % 255 ≡ n
    low l = omega arith

    high : (n < 255 → ⊥) → n % 255 ≡ n - 255
    high d = omega (arith, d)

    whole : (n < 255 → ⊥) → n ≡ 255 + (n - 255)
    whole d = omega (arith, d)

    go : Dec (n < 255) → power (n % 255) ≡ power n
    go (yes l) = ap power (low l)
    go (no d) = ap power (high d) ∙ sym (times_255 (power (n - 255)) (power_byte (n - 255))) ∙ sym (power_add 255 (n - 255)) ∙ ap power (sym (whole d))

-- The product by the tables.
pub by_tables : (k x : ℕ) → k ≤ 255 → x < 256 → (x ≡ 0 → ⊥) → times k x ≡ power_at ((logarithm_at x + k) % 255)
by_tables k x hk h d =
    let p = power_logarithm x h d in
    let s : (logarithm_at x + k) % 255 < 256 = omega arith in
    ap (times k) (sym p.0) ∙ sym (power_add k (logarithm_at x)) ∙ ap power (add_comm k (logarithm_at x))
    ∙ sym (power_mod (logarithm_at x + k) (omega (arith, p.1))) ∙ sym (power_at_is ((logarithm_at x + k) % 255) s)
