-- Change request 2026-05: the run with its repeats taken out, by the groups' numbers alone. Nothing here speaks of a reader's
-- answers.
-- Assumes nothing.
use Rattle.std.specs.Prelude.{ℕ, List, [], ◌∷◌, cond, ◌≡◌, eqb, length}
use Rattle.layout.specs.Layout.{Image}

-- The groups behind one of this number that are no repeats: a group that bears the number of the one before it is a repeat.
unfoldable pub behind : ℕ → List Image → List Image
behind number [] = []
behind number (g ∷ gs) = cond (eqb g.number number) (behind number gs) (g ∷ behind g.number gs)

-- "Demand 3 speaks of the run with its repeats taken out." The first group of a run is none.
unfoldable pub without_repeats : List Image → List Image
without_repeats [] = []
without_repeats (g ∷ gs) = g ∷ behind g.number gs

-- "the run's group size": each buffer is L bytes long, a repeat's with the others.
abbrev pub OfSize : ℕ → Image → Type 0
OfSize size g = length g.bytes ≡ size
