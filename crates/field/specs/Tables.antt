-- Change request 2026-08: "A table of powers and one of logarithms, 256 entries each, follow these rules throughout".
-- Assumes nothing.
use Rattle.std.specs.Prelude.{ℕ, zero, suc, List, [], ◌∷◌, cond, eqb, get_or}
use Rattle.numbers.specs.Numbers.{listed}
use Rattle.field.specs.Field.{times_alpha}

-- n powers from α^k = `byte` on, each α times the one before.
unfoldable pub powers_from : ℕ → ℕ → List ℕ
powers_from byte zero = []
powers_from byte (suc n) = byte ∷ powers_from (times_alpha byte) n

-- α^k at k, from 0 to 255.
unfoldable pub power_table : List ℕ
power_table = powers_from 1 256

unfoldable pub power_at : ℕ → ℕ
power_at k = get_or power_table k 0

-- The first place of a byte in a list.
unfoldable pub place_in : List ℕ → ℕ → ℕ
place_in [] byte = 0
place_in (x ∷ xs) byte = cond (eqb x byte) 0 (suc (place_in xs byte))

-- "logarithms are 0 to 254; that of 0 is stored as 0 and means nothing"
unfoldable pub logarithm : ℕ → ℕ
logarithm byte = cond (eqb byte 0) 0 (place_in power_table byte)

unfoldable pub logarithm_table : List ℕ
logarithm_table = listed logarithm 0 256

unfoldable pub logarithm_at : ℕ → ℕ
logarithm_at byte = get_or logarithm_table byte 0
