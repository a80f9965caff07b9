-- Two explanations that meet the contract coincide; so do two results of the code.
-- Assumes nothing.
use mathlib.Core.Path.{◌≡◌, refl, sym, ap, ◌∙◌}
use mathlib.Core.List.{List}
use Prim.Native.Nat.{ℕ}
use Rattle.std.specs.Prelude.{Option, Some, None}
use Rattle.answer.specs.Numbers.{refusal_number}
use Rattle.answer.specs.NotZero.{refusal_not_zero}
use Rattle.answer.proofs.Once.{OneToOne, refusal_once}
use Rattle.reader.specs.declared.Reader.{Reader}
use Rattle.explain.specs.declared.Explanation as declared
use Rattle.explain.specs.Explanation.{Explanation}
use Rattle.explain.specs.Explanation.{explanation_of, explained}

pub explanation_settled : (s : Reader) (group : List ℕ) (number n bytes : ℕ) (a b : Explanation) → a ≡ explained s group number n bytes → b ≡ explained s group number n bytes → a ≡ b
explanation_settled s group number n bytes a b e f = e ∙ sym f

-- What is explained tells the code's results apart: no refusal has the number 0, which stands where there is none.
explanation_once : OneToOne explanation_of
explanation_once None None e = refl
explanation_once None (Some y) e = let zero : 0 ≡ refusal_number y.refusal = ap (λ (x : Explanation). x.refusal) e in cc (refusal_not_zero y.refusal)
explanation_once (Some x) None e = let zero : refusal_number x.refusal ≡ 0 = ap (λ (x : Explanation). x.refusal) e in cc (refusal_not_zero x.refusal)
explanation_once (Some x) (Some y) e =
    λ i. Some (record {
      refusal = refusal_once x.refusal y.refusal (ap (λ (x : Explanation). x.refusal) e) i;
      place = (e i).place;
      offset = (e i).offset;
      why = (e i).why;
    })

pub explanation_result_settled : (s : Reader) (group : List ℕ) (number n bytes : ℕ) (a b : Option declared.Explanation)
    → explanation_of a ≡ explained s group number n bytes → explanation_of b ≡ explained s group number n bytes → a ≡ b
explanation_result_settled s group number n bytes a b e f = explanation_once a b (explanation_settled s group number n bytes _ _ e f)
