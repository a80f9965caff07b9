-- For each public call: two answers, and two lists of rows, that meet its contract coincide; so do two results of the code.
-- Assumes nothing.
use mathlib.Core.Path.{◌≡◌, refl, sym, ap, ◌∙◌}
use mathlib.Core.List.{List}
use Prim.Native.Nat.{ℕ, ◌/◌}
use lib.ListN.{length}
use Rattle.std.specs.Prelude.{Result, Ok, Err}
use Rattle.numbers.specs.Numbers.{in_bytes}
use Rattle.answer.specs.declared.Refused.{Refused}
use Rattle.answer.specs.declared.refusals.Refusal.{Refusal}
use Rattle.answer.specs.Numbers.{refusal_number}
use Rattle.answer.proofs.Once.{OneToOne, refusal_once, refused_once, result_once, same_result}
use Rattle.reader.specs.declared.Reader.{Reader}
use Rattle.reader.specs.declared.Read.{Read}
use Rattle.reader.specs.declared.Read.TheVariants.{Accepted, Repeated}
use Rattle.reader.specs.ReaderStart.{ReaderStart}
use Rattle.reader.specs.ReaderStart.{start_of}
use Rattle.reader.specs.ReadAnswer.{ReadAnswer}
use Rattle.reader.specs.ReadAnswer.{answer_of}
use Rattle.reader.specs.Answer.{reader_start_call, read_call, group_rows, rows_left, as_numbers, Reads}

pub start_settled : (size first : ℕ) (a b : ReaderStart) → a ≡ reader_start_call size first → b ≡ reader_start_call size first → a ≡ b
start_settled size first a b e f = e ∙ sym f

pub judge_settled : (s : Reader) (group : List ℕ) (number n room : ℕ) (a b : ReadAnswer) → a ≡ read_call s group number n room → b ≡ read_call s group number n room → a ≡ b
judge_settled s group number n room a b e f = e ∙ sym f

-- However the rows are stored.
reads_settled : (form : List ℕ → List ℕ) (s : Reader) (group : List ℕ) (number n room : ℕ) (old : List ℕ) (a b : ReadAnswer) (rows rows' : List ℕ)
    → Reads form s group number n room old a rows → Reads form s group number n room old b rows' → (a ≡ b) × (rows ≡ rows')
reads_settled form s group number n room old a b rows rows' p q =
    let e : a ≡ b = p.answer ∙ sym q.answer in
    (e, p.rows_left ∙ ap (λ (x : ReadAnswer). rows_left x (form (group_rows s group n)) old) e ∙ sym q.rows_left)

pub read_settled : (s : Reader) (group : List ℕ) (number n : ℕ) (old : List ℕ) (a b : ReadAnswer) (rows rows' : List ℕ)
    → Reads as_numbers s group number n (length old) old a rows → Reads as_numbers s group number n (length old) old b rows' → (a ≡ b) × (rows ≡ rows')
read_settled s group number n old = reads_settled as_numbers s group number n (length old) old

pub read_bytes_settled : (s : Reader) (group : List ℕ) (number n : ℕ) (old : List ℕ) (a b : ReadAnswer) (rows rows' : List ℕ)
    → Reads in_bytes s group number n (length old / 4) old a rows → Reads in_bytes s group number n (length old / 4) old b rows' → (a ≡ b) × (rows ≡ rows')
read_bytes_settled s group number n old = reads_settled in_bytes s group number n (length old / 4) old

-- What a start and a read answer tells the code's results apart.
pub start_once : {R : Type 0} (number : R → ℕ) → OneToOne number → OneToOne (start_of number)
start_once number once = result_once (start_of number) (λ x y e. cc) (λ r t e. once r t (cc)) (λ x r e. cc)

pub answer_once : (s : Reader) → OneToOne (answer_of s)
answer_once s = result_once (answer_of s) read_once (λ r t e. refused_once refusal_once r t (cc) (cc)) apart
  where
    read_once : (x y : Read) → answer_of s (Ok x) ≡ answer_of s (Ok y) → x ≡ y
    read_once (Accepted x) (Accepted y) e = cc
    read_once (Accepted x) Repeated e = cc
    read_once Repeated (Accepted y) e = cc
    read_once Repeated Repeated e = refl

    apart : (x : Read) (r : Refused Refusal) → answer_of s (Ok x) ≡ answer_of s (Err r) → ⊥
    apart (Accepted x) r e = cc
    apart Repeated r e = cc

pub start_result_settled : (size first : ℕ) (a b : Result Reader Refusal)
    → start_of refusal_number a ≡ reader_start_call size first → start_of refusal_number b ≡ reader_start_call size first → a ≡ b
start_result_settled size first a b e f = start_once refusal_number refusal_once a b (start_settled size first _ _ e f)

pub judge_result_settled : (s : Reader) (group : List ℕ) (number n room : ℕ) (a b : Result Read (Refused Refusal))
    → answer_of s a ≡ read_call s group number n room → answer_of s b ≡ read_call s group number n room → a ≡ b
judge_result_settled s group number n room a b e f = answer_once s a b (judge_settled s group number n room _ _ e f)

pub read_result_settled : (s : Reader) (group : List ℕ) (number n : ℕ) (old : List ℕ) (a b : Result Read (Refused Refusal)) (rows rows' : List ℕ)
    → Reads as_numbers s group number n (length old) old (answer_of s a) rows
    → Reads as_numbers s group number n (length old) old (answer_of s b) rows' → (a ≡ b) × (rows ≡ rows')
read_result_settled s group number n old a b rows rows' p q =
    same_result (answer_once s) a b (read_settled s group number n old _ _ rows rows' p q)

pub read_bytes_result_settled : (s : Reader) (group : List ℕ) (number n : ℕ) (old : List ℕ) (a b : Result Read (Refused Refusal)) (rows rows' : List ℕ)
    → Reads in_bytes s group number n (length old / 4) old (answer_of s a) rows
    → Reads in_bytes s group number n (length old / 4) old (answer_of s b) rows' → (a ≡ b) × (rows ≡ rows')
read_bytes_result_settled s group number n old a b rows rows' p q =
    same_result (answer_once s) a b (read_bytes_settled s group number n old _ _ rows rows' p q)
