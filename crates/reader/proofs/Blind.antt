-- The theorem that a read looks at the table alone, and what it is made of.
-- Assumes nothing.
use Prim.Native.Nat.{ℕ}
use mathlib.Core.List.{List}
use mathlib.Core.Path.{◌≡◌, refl, sym, ap, ◌∙◌}
use mathlib.Core.Bool.{Bool, true, false}
use lib.Dec.{eqb}
use lib.ListN.{length}
use borrow.Author.Tests.{eqb-true}
use Rattle.entry.specs.Table.{SameTable}
use Rattle.entry.proofs.Tables.{same_entries}
use Rattle.reader.specs.declared.Reader.{Reader}
use Rattle.reader.specs.ReadAnswer.{ReadAnswer}
use Rattle.reader.specs.Answer.{is_repeat, read_refusal, group_scan, read_call, group_rows, rows_left, Reads}
use Rattle.reader.proofs.Accepted.{ready}

-- What a read answers, and the rows that it leaves of old ones in a form.
record Same (form : List ℕ → List ℕ) (s : Reader) (g h : List ℕ) (number n room : ℕ) (old : List ℕ) : Type 0 where
  answers : read_call s g number n room ≡ read_call s h number n room
  rows : rows_left (read_call s g number n room) (form (group_rows s g n)) old ≡ rows_left (read_call s h number n room) (form (group_rows s h n)) old

same : (form : List ℕ → List ℕ) (s : Reader) (g h : List ℕ) (number n room : ℕ) (old : List ℕ) → SameTable s.size n g h → Same form s g h number n room old
unfolding read_call group_scan group_rows
same form s g h number n room old t = by (is_repeat s (length h) number) refl (eqb (read_refusal s (length h) number n room) 0) refl
  where
    by : (r : Bool) → is_repeat s (length h) number ≡ r → (b : Bool) → eqb (read_refusal s (length h) number n room) 0 ≡ b → Same form s g h number n room old
    by true f b e = record { answers = rw (t.long, f); rows = rw (t.long, f) }
    by false f true e =
        let r = ready s (length h) number n room (eqb-true _ 0 e) in
        let alike = same_entries s.size n g h r.fits t in
        record { answers = rw (t.long, alike); rows = rw (t.long, alike) }
    by false f false e = record { answers = rw (t.long, f, e); rows = rw (t.long, f, e) }

-- "We neither read nor write those 32 bytes": a read's answer and the rows that it leaves hang on the table's bytes alone. Of two
-- groups whose tables are alike, any two outcomes that meet the contract coincide.
pub read_blind : (form : List ℕ → List ℕ) (s : Reader) (g h : List ℕ) (number n room : ℕ) (old : List ℕ) → SameTable s.size n g h → (a b : ReadAnswer) (p q : List ℕ) →
    Reads form s g number n room old a p → Reads form s h number n room old b q → (a ≡ b) × (p ≡ q)
read_blind form s g h number n room old t a b p q x y =
    let k = same form s g h number n room old t in (
      x.answer ∙ k.answers ∙ sym y.answer,
      x.rows_left
          ∙ ap (λ (c : ReadAnswer). rows_left c (form (group_rows s g n)) old) x.answer
          ∙ k.rows
          ∙ ap (λ (c : ReadAnswer). rows_left c (form (group_rows s h n)) old) (sym y.answer)
          ∙ sym y.rows_left,
    )
