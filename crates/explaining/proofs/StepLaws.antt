-- Which step each answer of a start and of a read is, and that a read that is refused has an explanation.
-- Assumes nothing.
use Prim.Native.Nat.{ℕ}
use mathlib.Core.Path.{◌≡◌, sym, ap, subst, ◌∙◌}
use mathlib.Core.Bool.{Bool, true, false, true≢false}
use mathlib.Core.List.{List}
use lib.Dec.{eqb}
use Rattle.answer.specs.declared.refusals.Refusal.{Refusal}
use Rattle.answer.specs.Numbers.{refusal_number}
use Rattle.answer.specs.NotZero.{refusal_not_zero}
use Rattle.reader.specs.declared.Reader.{Reader}
use Rattle.reader.specs.ReaderStart.{ReaderStart}
use Rattle.reader.specs.ReadAnswer.{ReadAnswer}
use Rattle.reader.specs.ReadAnswer as answer
use Rattle.reader.specs.Answer.{reader_start_call, read_call, told}
use Rattle.explain.specs.Explanation.{Explanation}
use Rattle.explain.specs.Explanation.{no_refusal, explained}
use Rattle.explain.specs.Truth.{SameTold}
use Rattle.explain.proofs.Theorems.{explained_same}
use Rattle.sections.specs.declared.Pair.{Pair}
use Rattle.telling.specs.Telling.{bad_step, row_numbers}
use Rattle.explaining.specs.Steps.{started_step, explain_start, reading_step, row_bytes, explain_read, explain_group}

-- A start, by its own answer.
pub start_step_lem : (size : ℕ) (pair first : Pair) (a b : ReaderStart) → pair ≡ first → a ≡ reader_start_call size pair.number → a ≡ b
    → explain_start size first ≡ started_step b pair.number
unfolding explain_start
start_step_lem size pair first a b p e f =
    ap (λ (q : Pair). started_step (reader_start_call size q.number) q.number) (sym p) ∙ ap (λ (c : ReaderStart). started_step c pair.number) (sym e ∙ f)

-- A read, by its own answer and its explanation.
pub read_step_lem : (i : ℕ) (s : Reader) (image : List ℕ) (number n : ℕ) (a b : ReadAnswer) (x : Explanation) → a ≡ read_call s image number n row_numbers → a ≡ b
    → x ≡ explained s image number n row_bytes → explain_read i s image number n ≡ reading_step b i x
unfolding explain_read
read_step_lem i s image number n a b x e f g = rw (← e, f, ← g)

-- A read that is refused has an explanation.
pub refused_explained : (s : Reader) (image : List ℕ) (number n : ℕ) (refusal : Refusal) (place : ℕ)
    → answer.Refused s (refusal_number refusal) place ≡ read_call s image number n row_numbers → no_refusal ≡ explained s image number n row_bytes → ⊥
refused_explained s image number n refusal place e f =
    let told_same = subst (λ (a : ReadAnswer). SameTold (told a) (explained s image number n row_bytes)) (sym e) (explained_same s image number n row_bytes) in
    let same = subst (λ (x : Explanation). SameTold (told (answer.Refused s (refusal_number refusal) place)) x) (sym f) told_same in
    true≢false (ap (λ (k : ℕ). eqb k 0) same.0 ∙ refusal_not_zero refusal)

-- A group whose image is cut short, and one that is read.
pub group_short : (i : ℕ) (s : Reader) (whole : Bool) (image : List ℕ) (pair : Pair) → whole ≡ false → explain_group i s whole image pair ≡ bad_step
unfolding explain_group
group_short i s whole image pair e = rw e

pub group_whole : (i : ℕ) (s : Reader) (whole : Bool) (image : List ℕ) (pair own : Pair) → whole ≡ true → own ≡ pair
    → explain_group i s whole image pair ≡ explain_read i s image own.number own.entries
unfolding explain_group
group_whole i s whole image pair own e p = rw (e, p)
