-- For each public call: two answers that meet its contract coincide; so do two results of the code.
-- Assumes nothing.
use Prim.Native.Nat.{ℕ}
use mathlib.Core.Path.{◌≡◌, refl, sym, ◌∙◌}
use mathlib.Core.List.{List}
use mathlib.Core.Bool.{false≢true}
use Rattle.std.specs.Prelude.{Option, Some, None, Result}
use Rattle.answer.specs.declared.refusals.BlocksRefusal.{BlocksRefusal}
use Rattle.answer.specs.Numbers.{blocks_number}
use Rattle.answer.proofs.Once.{blocks_once}
use Rattle.reader.specs.declared.Reader.{Reader}
use Rattle.reader.specs.ReaderStart.{ReaderStart}
use Rattle.reader.specs.ReaderStart.{start_of}
use Rattle.reader.specs.ReadAnswer as answer
use Rattle.reader.specs.Answer.{read_call}
use Rattle.reader.specs.Refused.{RefusedRead}
use Rattle.reader.specs.Refused.RefusedRead.{before_the_scan, at_an_entry}
use Rattle.reader.proofs.Refused.{read_refuses}
use Rattle.reader.proofs.Settled.{start_once}
use Rattle.blocks.specs.Answer.{blocks_start_call, blocks_read_call}
use Rattle.blocks.specs.Bounds.{unless_other}

pub start_settled : (size first block : ℕ) (a b : ReaderStart) → a ≡ blocks_start_call size first block → b ≡ blocks_start_call size first block → a ≡ b
start_settled size first block a b e f = e ∙ sym f

pub start_result_settled : (size first block : ℕ) (a b : Result Reader BlocksRefusal)
    → start_of blocks_number a ≡ blocks_start_call size first block → start_of blocks_number b ≡ blocks_start_call size first block → a ≡ b
start_result_settled size first block a b e f = start_once blocks_number blocks_once a b (start_settled size first block _ _ e f)

-- The plain reader never tells 51.
not_other : {s t : Reader} {n refusal place : ℕ} → RefusedRead s n t refusal place → refusal ≡ 51 → ⊥
not_other (before_the_scan h) e = false≢true (rw e at h)
not_other (at_an_entry h some most) e = false≢true (rw e at h)

never_other : (s t : Reader) (group : List ℕ) (number n room place : ℕ) → read_call s group number n room ≡ answer.Refused t 51 place → ⊥
never_other s t group number n room place e = not_other (read_refuses s t group number n room 51 place e) refl

-- So the place at which a read refuses with 51, or that it has none, is settled.
pub other_settled : (block : ℕ) (s : Reader) (group : List ℕ) (number n room : ℕ) (x y : Option ℕ) →
    blocks_read_call block s group number n room ≡ unless_other x s (read_call s group number n room) →
    blocks_read_call block s group number n room ≡ unless_other y s (read_call s group number n room) → x ≡ y
other_settled block s group number n room x y e f = by x y (sym e ∙ f)
  where
    by : (x y : Option ℕ) → unless_other x s (read_call s group number n room) ≡ unless_other y s (read_call s group number n room) → x ≡ y
    by None None h = refl
    by None (Some q) h = absurd (never_other s s group number n room q h)
    by (Some p) None h = absurd (never_other s s group number n room p (sym h))
    by (Some p) (Some q) h = cc
