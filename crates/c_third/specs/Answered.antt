-- Serves contracts and proofs only: a call from C that may write the rows, by what it makes of them.
-- Assumes nothing.
use Rattle.answer.specs.declared.refusals.ThirdRefusal.{ThirdRefusal}
use Rattle.std.specs.Prelude.{◌≡◌, ℕ, List, [], ◌∷◌, true, false, Result}
use Rattle.answer.specs.declared.Refused.{Refused}
use Rattle.third.specs.Answer.{done_answer, told}
use Rattle.slices.specs.Call.{Left, left, answer_kept, Tells}

-- With an answer slice of another length it is not made, and 1 is returned; else what it answers is told.
pub record Answered {A : Type 0} (makes : Result A (Refused ThirdRefusal) → List ℕ → Type 0) (old answer : List ℕ) (o : Left) : Type 0 where
  pub stops : answer_kept answer ≡ false → o ≡ left 1 (old ∷ []) answer
  pub goes : answer_kept answer ≡ true
      → (r : Result A (Refused ThirdRefusal)) × ((rows : List ℕ) × (makes r rows × ((o.lent ≡ rows ∷ []) × Tells (told (done_answer r)) o.refusal o.answer)))
