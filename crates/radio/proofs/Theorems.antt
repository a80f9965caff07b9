-- The theorem of the search of change request 2026-11, with its sentence above it.
-- Assumes nothing.
use mathlib.Core.Path.{◌≡◌, sym, ◌∙◌}
use mathlib.Core.List.{List}
use Prim.Native.Nat.{ℕ, ◌≤◌}
use lib.ListN.{length}
use Rattle.radio.specs.Search.{RadioAnswer}
use Rattle.radio.specs.Search.{find_call, First}
use Rattle.radio.proofs.SearchLaws.{find_first, first_so}

-- "found exactly when some place has the pattern, and it is the least"
pub radio_first : (received : List ℕ) (a : RadioAnswer) → length received ≤ 4294967295 → a ≡ find_call received → First received a
radio_first received a short e = first_so received a (e ∙ sym (find_first received short))
