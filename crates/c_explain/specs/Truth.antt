-- Change request 2026-07, through C: "The reason must be proved true", and "Refusals: those of reading".
-- Assumes nothing.
use Rattle.std.specs.Prelude.{ℕ, ◌≡◌, true, false, List, ◌∷◌, length}
use Rattle.numbers.specs.Numbers.{in_bytes}
use Rattle.explain.specs.Explanation.{Explanation}
use Rattle.reasons.specs.Reasons.{no_reason}
use Rattle.explain.specs.Explanation.{explanation}
use Rattle.explain.specs.Truth.{True}
use Rattle.slices.specs.Call.{Left}
use Rattle.states.specs.States.{reader_of}
use Rattle.c_explain.specs.Calls.{tells, state_kept}

-- What is left tells a true explanation of a read in the state that the slice holds; 1 where it holds none.
pub data TellsTrue (state group : List ℕ) (number n : ℕ) (rows : List ℕ) : Left → Type 0 where
  no_state : state_kept state ≡ false → TellsTrue state group number n rows (tells (explanation 1 0 0 no_reason))
  of_a_state : (x : Explanation) → state_kept state ≡ true → True (reader_of state) group number n (length rows) x → TellsTrue state group number n rows (tells x)

-- An explanation and a read tell the same: the number that is returned, and in the answer's first two numbers the refusal and its place.
pub record SameAsRead (x : Explanation) (explain read : Left) : Type 0 where
  pub explains : explain ≡ tells x
  pub returns : read.refusal ≡ x.refusal
  pub others : List ℕ
  pub answers : read.answer ≡ in_bytes (x.refusal ∷ x.place ∷ others)
