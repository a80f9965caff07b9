-- What the calls of the third code leave, where the answer slice is of its length and where not: what the crate's own call answers
-- and leaves.
-- Assumes nothing.
use mathlib.Core.Path.{◌≡◌, refl, ◌∙◌}
use mathlib.Core.Bool.{Bool, true, false}
use mathlib.Core.List.{List, []}
use Prim.Native.Nat.{ℕ}
use Rattle.answer.specs.declared.refusals.ThirdRefusal.{ThirdRefusal}
use Rattle.std.specs.Prelude.{Result}
use Rattle.answer.specs.Answer.{Told}
use Rattle.answer.specs.declared.Refused.{Refused}
use Rattle.third.specs.Answer.{ThirdAnswer, Checks, told, done_answer, Does}
use Rattle.column.specs.Column.{Column}
use Rattle.slices.specs.Call.{Left, left, answer_kept, Tells}
use Rattle.slices.proofs.Calls.{stopped, answered, none_lent, more_lent}
use Rattle.c_third.specs.Calls.{third_call, dds_third_check}
use Rattle.c_third.specs.Answered.{Answered}

-- A call that may write the rows does f to every column, where it is accepted.
pub done : {A : Type 0} (asked : ThirdAnswer) (f : Column → Column) (n : ℕ) (rows answer : List ℕ) {makes : Result A (Refused ThirdRefusal) → List ℕ → Type 0} (o : Left)
    → Answered makes rows answer o → ((r : Result A (Refused ThirdRefusal)) (rows' : List ℕ) → makes r rows' → Does asked f n rows (done_answer r) rows')
    → o ≡ third_call asked f n rows answer
unfolding third_call
done {A} asked f n rows answer {makes} o h does = by (answer_kept answer) refl
  where
    by : (b : Bool) → answer_kept answer ≡ b → o ≡ third_call asked f n rows answer
    by false e = h.stops e ∙ stopped (told asked) _ _ answer e
    by true e =
        let g = h.goes e in
        let d = does g.0 g.1.0 g.1.1.0 in
        answered told _ _ answer e d.answer refl
        (g.1.1.1.0 ∙ more_lent (told (done_answer g.0)) _ _ _ _ d.rows_left (none_lent (told (done_answer g.0)))) g.1.1.1.1

pub checked : (n : ℕ) (rows answer : List ℕ) {a : ThirdAnswer} {answer' : List ℕ} {t : Told} {refusal : ℕ}
    → answer_kept answer ≡ true → Checks n rows a → t ≡ told a → Tells t refusal answer'
    → left refusal [] answer' ≡ dds_third_check n rows answer
unfolding dds_third_check
checked n rows answer {a} kept c e t = answered told _ _ answer kept c e (none_lent (told a)) t
