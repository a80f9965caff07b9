-- What each contract pins: outcomes that meet it coincide; so do results of the code.
-- Assumes nothing.
use mathlib.Core.Path.{◌≡◌, sym, ◌∙◌}
use mathlib.Core.Bool.{Bool}
use mathlib.Core.List.{List}
use Prim.Native.Nat.{ℕ}
use Rattle.std.specs.Prelude.{Result, Ok, Err}
use Rattle.answer.specs.declared.refusals.Refusal.{Refusal}
use Rattle.answer.proofs.Once.{OneToOne, refusal_once, result_once, same_result}
use Rattle.laying.specs.declared.Writer.{Writer}
use Rattle.laying.specs.Laying.{desk}
use Rattle.writer.specs.declared.Written.{Written}
use Rattle.writer.specs.declared.Written.TheVariants.{Finished, Closed}
use Rattle.writer.specs.WriteAnswer.{WriteAnswer}
use Rattle.writer.specs.WriteAnswer.{written, answer_of}
use Rattle.writer.specs.Calls.{Done, Meets, record_call, separator_call, end_call}

same : {A : Type 0} {x a b : A} → a ≡ x → b ≡ x → a ≡ b
same e f = e ∙ sym f

settled : {d : Done} {r t : WriteAnswer} {h k : List ℕ} → Meets d r h → Meets d t k → (r ≡ t) × (h ≡ k)
settled m n = (same m.answer n.answer, same m.group n.group)

pub record_settled : (bytes : List ℕ) (warn : Bool) (s : Writer) (g : List ℕ) {r t : WriteAnswer} {h k : List ℕ}
    → Meets (record_call bytes warn (desk s g)) r h → Meets (record_call bytes warn (desk s g)) t k → (r ≡ t) × (h ≡ k)
record_settled bytes warn s g m n = settled m n

pub separator_settled : (value : ℕ) (warn : Bool) (s : Writer) (g : List ℕ) {r t : WriteAnswer} {h k : List ℕ}
    → Meets (separator_call value warn (desk s g)) r h → Meets (separator_call value warn (desk s g)) t k → (r ≡ t) × (h ≡ k)
separator_settled value warn s g m n = settled m n

pub end_settled : (warn : Bool) (s : Writer) (g : List ℕ) {r t : WriteAnswer} {h k : List ℕ}
    → Meets (end_call warn (desk s g)) r h → Meets (end_call warn (desk s g)) t k → (r ≡ t) × (h ≡ k)
end_settled warn s g m n = settled m n

-- What a call answers tells the code's results apart.
written_once : OneToOne written
written_once (Finished w) (Finished v) e = cc
written_once (Finished w) (Closed v number entries taken) e = cc
written_once (Closed w number entries taken) (Finished v) e = cc
written_once (Closed w number entries taken) (Closed v number' entries' taken') e = cc

answer_once : (s : Writer) → OneToOne (answer_of s)
answer_once s = result_once (answer_of s) written_once (λ r t e. refusal_once r t (cc)) apart
  where
    apart : (w : Written) (r : Refusal) → answer_of s (Ok w) ≡ answer_of s (Err r) → ⊥
    apart (Finished w) r e = cc
    apart (Closed w number entries taken) r e = cc

pub record_result_settled : (bytes : List ℕ) (warn : Bool) (s : Writer) (g : List ℕ) (a b : Result Written Refusal) {h k : List ℕ}
    → Meets (record_call bytes warn (desk s g)) (answer_of s a) h → Meets (record_call bytes warn (desk s g)) (answer_of s b) k → (a ≡ b) × (h ≡ k)
record_result_settled bytes warn s g a b m n = same_result (answer_once s) a b (record_settled bytes warn s g m n)

pub separator_result_settled : (value : ℕ) (warn : Bool) (s : Writer) (g : List ℕ) (a b : Result Written Refusal) {h k : List ℕ}
    → Meets (separator_call value warn (desk s g)) (answer_of s a) h → Meets (separator_call value warn (desk s g)) (answer_of s b) k
    → (a ≡ b) × (h ≡ k)
separator_result_settled value warn s g a b m n = same_result (answer_once s) a b (separator_settled value warn s g m n)

pub end_result_settled : (warn : Bool) (s : Writer) (g : List ℕ) (a b : Result Written Refusal) {h k : List ℕ}
    → Meets (end_call warn (desk s g)) (answer_of s a) h → Meets (end_call warn (desk s g)) (answer_of s b) k → (a ≡ b) × (h ≡ k)
end_result_settled warn s g a b m n = same_result (answer_once s) a b (end_settled warn s g m n)
