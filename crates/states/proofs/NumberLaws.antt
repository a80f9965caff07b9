-- A phase and b4 from their numbers and back.
-- Assumes nothing.
use mathlib.Core.Path.{◌≡◌, refl}
use mathlib.Core.Bool.{Bool, true, false}
use Prim.Native.Nat.{ℕ, zero, suc, ◌^◌, ◌<◌}
use native.Mathlib.Omega.{arith}
use borrow.Author.Tests.{leb-true}
use Rattle.group.specs.declared.Phase.{Phase}
use Rattle.group.specs.declared.Phase.TheVariants.{Free, Inside, Owed}
use Rattle.states.specs.States.{phase_number, phase_of, phase_meant, b4_number, b4_set, b4_meant}

pub phase_of_number : (p : Phase) → phase_of (phase_number p) ≡ p
phase_of_number Free = refl
phase_of_number Inside = refl
phase_of_number Owed = refl

pub number_of_phase : (n : ℕ) → phase_meant n ≡ true → phase_number (phase_of n) ≡ n
number_of_phase zero e = refl
number_of_phase (suc zero) e = refl
number_of_phase (suc (suc zero)) e = refl
number_of_phase (suc (suc (suc n))) e = absurd (omega (arith, leb-true (suc (suc (suc n))) 2 e))

pub b4_of_number : (b : Bool) → b4_set (b4_number b) ≡ b
b4_of_number false = refl
b4_of_number true = refl

pub number_of_b4 : (n : ℕ) → b4_meant n ≡ true → b4_number (b4_set n) ≡ n
number_of_b4 zero e = refl
number_of_b4 (suc zero) e = refl
number_of_b4 (suc (suc n)) e = absurd (omega (arith, leb-true (suc (suc n)) 1 e))

-- The number of a phase, and of b4, has room in four bytes and a meaning.
pub phase_meant_lem : (p : Phase) → (phase_number p < 256 ^ 4) × (phase_meant (phase_number p) ≡ true)
phase_meant_lem Free = (omega arith, refl)
phase_meant_lem Inside = (omega arith, refl)
phase_meant_lem Owed = (omega arith, refl)

pub b4_meant_lem : (b : Bool) → (b4_number b < 256 ^ 4) × (b4_meant (b4_number b) ≡ true)
b4_meant_lem false = (omega arith, refl)
b4_meant_lem true = (omega arith, refl)
