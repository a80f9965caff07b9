-- What a store into a lent slice leaves, and when bytes are zeros.
-- Assumes nothing.
use Rattle.std.specs.Prelude.{ℕ, List, [], ◌∷◌, Bool, true, ◌&&◌, eqb}
use Rattle.std.proofs.lemmas.List.Edits.{sets}

-- The list with these numbers from index `at` on in place of what stood there, and every other number as it was.
unfoldable pub put : List ℕ → ℕ → List ℕ → List ℕ
put old at new = sets old at new

-- Each byte is zero.
abbrev pub zeros : List ℕ → Bool
zeros [] = true
zeros (byte ∷ bytes) = eqb byte 0 && zeros bytes
