-- The rules of the two tables: at k stands α^k, powers and logarithms undo one another, and bytes stay bytes.
-- Assumes nothing.
use mathlib.Core.Path.{◌≡◌, refl, sym, ap, ◌∙◌}
use mathlib.Core.Bool.{Bool, true, false, ◌&&◌}
use Prim.Native.Nat.{ℕ, zero, suc, ◌<◌}
use native.Mathlib.Nat.{le_of_suc-le-suc, not-suc-le-zero}
use native.Mathlib.Omega.{arith}
use lib.Dec.{T, eqb, eqb→eq, ltb, ltb→lt}
use lib.ListN.{get_or}
use Rattle.numbers.proofs.Computed.{below}
use Rattle.field.specs.Field.{◌⊕◌, times_alpha, times, power, polynomial}
use Rattle.field.specs.Tables.{powers_from, power_table, power_at, place_in, logarithm, logarithm_table, logarithm_at}

-- The table of powers.
times_on : (k byte : ℕ) → times k (times_alpha byte) ≡ times_alpha (times k byte)
unfolding times
times_on zero byte = refl
times_on (suc k) byte = ap times_alpha (times_on k byte)

powers_at : (n byte k : ℕ) → k < n → get_or (powers_from byte n) k 0 ≡ times k byte
unfolding powers_from times
powers_at zero byte k h = absurd (not-suc-le-zero h)
powers_at (suc n) byte zero h = refl
powers_at (suc n) byte (suc k) h = powers_at n (times_alpha byte) k (le_of_suc-le-suc h) ∙ times_on k byte

pub power_at_is : (k : ℕ) → k < 256 → power_at k ≡ power k
unfolding power_at power_table power
power_at_is k h = powers_at 256 1 k h

-- The table of logarithms, one computed test over each of its sides.
back : ℕ → Bool
back k = eqb (logarithm_at (power_at k)) k

back_all : (k : ℕ) → k < 255 → T (back k)
unfolding back logarithm_at logarithm_table logarithm place_in power_at power_table powers_from times_alpha ◌⊕◌ polynomial
back_all k h = below back 255 tt k h

pub logarithm_power : (k : ℕ) → k < 255 → logarithm_at (power_at k) ≡ k
unfolding back
logarithm_power k h = eqb→eq (logarithm_at (power_at k)) k (back_all k h)

forth : ℕ → Bool
forth byte = eqb (power_at (logarithm_at (suc byte))) (suc byte) && ltb (logarithm_at (suc byte)) 255

split : (a b : Bool) → T (a && b) → T a × T b
split true b t = (tt, t)
split false b t = absurd t

forth_all : (byte : ℕ) → byte < 255 → T (forth byte)
unfolding forth logarithm_at logarithm_table logarithm place_in power_at power_table powers_from times_alpha ◌⊕◌ polynomial
forth_all byte h = below forth 255 tt byte h

forth_parts : (byte : ℕ) → byte < 255 → (power_at (logarithm_at (suc byte)) ≡ suc byte) × (logarithm_at (suc byte) < 255)
unfolding forth
forth_parts byte h =
    let p = split (eqb (power_at (logarithm_at (suc byte))) (suc byte)) (ltb (logarithm_at (suc byte)) 255) (forth_all byte h) in
    (eqb→eq _ _ p.0, ltb→lt _ _ p.1)

-- Every byte but 0 is the power that its logarithm says.
pub power_logarithm : (byte : ℕ) → byte < 256 → (byte ≡ 0 → ⊥) → (power (logarithm_at byte) ≡ byte) × (logarithm_at byte < 255)
power_logarithm zero h d = absurd (d refl)
power_logarithm (suc byte) h d =
    let p = forth_parts byte (le_of_suc-le-suc h) in
    (sym (power_at_is (logarithm_at (suc byte)) (omega (arith, p.1))) ∙ p.0, p.1)

-- α^255 is 1.
pub power_255 : power 255 ≡ 1
unfolding power times times_alpha ◌⊕◌ polynomial
power_255 = refl

-- Bytes stay bytes.
small : ℕ → Bool
small byte = ltb (times_alpha byte) 256

small_all : (byte : ℕ) → byte < 256 → T (small byte)
unfolding small times_alpha ◌⊕◌ polynomial
small_all byte h = below small 256 tt byte h

times_alpha_byte : (byte : ℕ) → byte < 256 → times_alpha byte < 256
unfolding small
times_alpha_byte byte h = ltb→lt (times_alpha byte) 256 (small_all byte h)

pub times_byte : (k byte : ℕ) → byte < 256 → times k byte < 256
unfolding times
times_byte zero byte h = h
times_byte (suc k) byte h = times_alpha_byte (times k byte) (times_byte k byte h)

pub logarithm_at_zero : logarithm_at 0 ≡ 0
unfolding logarithm_at logarithm_table logarithm
logarithm_at_zero = refl

pub logarithm_byte : (byte : ℕ) → byte < 256 → logarithm_at byte < 255
logarithm_byte zero h = omega (arith, logarithm_at_zero)
logarithm_byte (suc byte) h = (forth_parts byte (le_of_suc-le-suc h)).1
