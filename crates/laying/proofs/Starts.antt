-- What a start's own answer tells, and that its contract settles it and the code's result.
-- Assumes nothing.
use mathlib.Core.Path.{◌≡◌, refl, sym, ◌∙◌}
use mathlib.Core.Bool.{Bool, true, false, cond}
use Prim.Native.Nat.{ℕ}
use native.Mathlib.Omega.{arith}
use borrow.Author.Tests.{eqb-true}
use lib.Dec.{eqb}
use Rattle.std.specs.Prelude.{Result}
use Rattle.answer.specs.declared.refusals.Refusal.{Refusal}
use Rattle.answer.specs.Numbers.{refusal_number}
use Rattle.answer.proofs.Once.{OneToOne, refusal_once, result_once}
use Rattle.group.specs.State.{start_refusal}
use Rattle.laying.specs.declared.Writer.{Writer}
use Rattle.laying.specs.WriterStart.{WriterStart}
use Rattle.laying.specs.WriterStart.{start_of}
use Rattle.laying.specs.WriterStart as start
use Rattle.laying.specs.Start.{fresh_state, writer_start_call}

-- L and the first number are in range, and the state is the fresh one.
pub begun_at : (size first : ℕ) (s : Writer) → writer_start_call size first ≡ start.Started s → (start_refusal size first ≡ 0) × (s ≡ fresh_state size first)
unfolding writer_start_call
begun_at size first s e = by (eqb (start_refusal size first) 0) refl e
  where
    by : (b : Bool) → eqb (start_refusal size first) 0 ≡ b → cond b (start.Started (fresh_state size first)) (start.Refused (start_refusal size first)) ≡ start.Started s
        → (start_refusal size first ≡ 0) × (s ≡ fresh_state size first)
    by true x h = (eqb-true (start_refusal size first) 0 x, cc)
    by false x h = let z : ◌≡◌ {A = ℕ} 0 1 = cc in absurd (omega arith)

-- Two answers that meet its contract coincide.
pub start_settled : (size first : ℕ) {r t : WriterStart} → r ≡ writer_start_call size first → t ≡ writer_start_call size first → r ≡ t
start_settled size first e f = e ∙ sym f

-- So do two results of the code: what a start answers tells them apart.
start_once : OneToOne (start_of refusal_number)
start_once = result_once (start_of refusal_number) (λ x y e. cc) (λ r t e. refusal_once r t (cc)) (λ x r e. cc)

pub start_result_settled : (size first : ℕ) (a b : Result Writer Refusal)
    → start_of refusal_number a ≡ writer_start_call size first → start_of refusal_number b ≡ writer_start_call size first → a ≡ b
start_result_settled size first a b e f = start_once a b (start_settled size first e f)
