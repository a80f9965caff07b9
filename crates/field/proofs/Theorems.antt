-- The theorems of change request 2026-08 on the field, each with its sentence above it.
-- Assumes nothing.
use mathlib.Core.Path.{◌≡◌, sym, ap, ◌∙◌}
use Prim.Native.Nat.{ℕ, ◌+◌, ◌%◌, ◌<◌, ◌≤◌}
use native.Mathlib.Omega.{arith}
use Rattle.field.specs.Field.{power, times, product}
use Rattle.field.specs.Tables.{power_at, logarithm_at}
use Rattle.field.proofs.TableLaws.{power_logarithm, logarithm_byte, logarithm_at_zero}
use Rattle.field.proofs.FieldLaws.{by_tables}
use Rattle.field.proofs.Products.{product_power}

-- "A table of powers and one of logarithms .. follow these rules throughout": to add logarithms is to multiply, plainly and modulo
-- the polynomial.
pub third_product : (a b : ℕ) → a < 256 → b < 256 → (a ≡ 0 → ⊥) → (b ≡ 0 → ⊥)
    → product a b ≡ power_at ((logarithm_at a + logarithm_at b) % 255)
third_product a b ha hb da db =
    let p = power_logarithm b hb db in
    ap (product a) (sym p.0) ∙ product_power a (logarithm_at b) ha ∙ by_tables (logarithm_at b) a (omega (arith, p.1)) ha da

-- "logarithms are 0 to 254; that of 0 is stored as 0 and means nothing": every other byte is the power that its logarithm says.
pub third_logarithms : (byte : ℕ) → byte < 256 → (logarithm_at byte ≤ 254) × ((byte ≡ 0 → ⊥) → power (logarithm_at byte) ≡ byte)
third_logarithms byte h = (omega (arith, logarithm_byte byte h), λ d. (power_logarithm byte h d).0)

pub third_logarithm_of_0 : logarithm_at 0 ≡ 0
third_logarithm_of_0 = logarithm_at_zero

-- A byte times α^k, as the second rule has it, is the plain product.
pub third_times : (byte k : ℕ) → byte < 256 → times k byte ≡ product byte (power k)
third_times byte k h = sym (product_power byte k h)
