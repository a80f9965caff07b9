-- Change request 2026-08 through C's slices: what is made, restored, mended and checked, by what the five calls return and leave.
-- Assumes nothing.
use mathlib.Core.Path.{◌≡◌, refl, sym, ap, ◌∙◌, subst}
use mathlib.Core.Logic.{inl, inr}
use mathlib.Core.Bool.{Bool, true, false}
use mathlib.Core.List.{List, [], ◌∷◌}
use Prim.Native.Nat.{ℕ, ◌^◌, ◌<◌, ◌≤◌}
use native.Mathlib.Omega.{arith}
use borrow.Author.Tests.{eq-eqb, eqb-true}
use lib.ListN.{length}
use Rattle.numbers.specs.Numbers.{in_bytes}
use Rattle.answer.specs.Answer.{numbers_told, refusal_told}
use Rattle.column.specs.Column.{last_row, Column, column, Lawful, restored_one, restored_two, mended}
use Rattle.column.specs.Alike.{ColumnBytes, Same, SameBut, SameButTwo, AtMostOne}
use Rattle.third.specs.Answer.{ThirdAnswer}
use Rattle.third.specs.Answer.{Accepted}
use Rattle.third.specs.Answer.{first_check_row, make_call, one_call, two_call, mend_call, check_call, told, Does, Mends}
use Rattle.third.specs.Written.{Lent, Written, MendTold, CheckTold, FirstHopeless}
use Rattle.third.proofs.Theorems.{third_made, third_restored_one, third_restored_two, third_mended, third_mended_column, third_mends_one, third_told, third_checked}
use Rattle.slices.specs.Call.{Left, answer_length, answer_kept}
use Rattle.slices.proofs.Calls.{stopped, let_through, Leaves, leaves, seen}
use Rattle.c_third.specs.Calls.{third_call, dds_third_make, dds_third_check, dds_third_restore_one, dds_third_restore_two, dds_third_mend}
use Rattle.c_third.specs.Seen.{rows_left, place_seen, MendSeen, CheckSeen}

-- A call that its answer slice lets through, whatever it answers; and one that returns 0 was let through.
record Through (asked : ThirdAnswer) (f : Column → Column) (n : ℕ) (rows : List ℕ) (o : Left) : Type 0 where
  does : Does asked f n rows asked (rows_left o)
  returns : o.refusal ≡ refusal_told (told asked)
  numbers : o.answer ≡ in_bytes (numbers_told (told asked))

module _ (asked : ThirdAnswer) (f : Column → Column) (n : ℕ) (rows answer : List ℕ) (o : Left) (e : o ≡ third_call asked f n rows answer) where
  through : length answer ≡ answer_length → Through asked f n rows o
  unfolding third_call
  through h =
      let l = leaves _ _ _ answer e (eq-eqb (length answer) answer_length h) in
      record { does = record { answer = refl; rows_left = l.slices 0 }; returns = l.returns; numbers = l.numbers }

  went : o.refusal ≡ 0 → length answer ≡ answer_length
  unfolding third_call
  went zero = eqb-true (length answer) answer_length (let_through _ _ _ _ answer e zero)

-- "make the two check rows": every column keeps both rules, and the rows of data stay.
pub c_third_made : (n : ℕ) (old answer : List ℕ) → Lent n old → length answer ≡ answer_length → (o : Left) → o ≡ dds_third_make n old answer
    → (o.refusal ≡ 0) × (Written n (rows_left o) × ((c i : ℕ) → c < n → i < first_check_row → column (rows_left o) n c i ≡ column old n c i))
c_third_made n old answer l h o e =
    let t = through (make_call (length old) n) (restored_two first_check_row last_row) n old answer o e h in
    let r = third_made n old _ (rows_left o) l t.does in
    (t.returns ∙ ap (λ (a : ThirdAnswer). refusal_told (told a)) r.0, r.1)

-- Written rows w, and rows as they are found.
module _ (n : ℕ) (w old answer : List ℕ) (whole : Written n w) (l : Lent n old) (h : length answer ≡ answer_length) (o : Left) where
  -- "restoring gives the written rows whatever the named rows held, if the others are as written": one row.
  pub c_third_restored_one : (i : ℕ) → i ≤ last_row → ((c : ℕ) → c < n → SameBut i (column old n c) (column w n c))
      → o ≡ dds_third_restore_one n i old answer → (o.refusal ≡ 0) × (rows_left o ≡ w)
  c_third_restored_one i hi same e =
      let t = through (one_call (length old) n i) (restored_one i) n old answer o e h in
      let r = third_restored_one n w old _ (rows_left o) whole l i hi same t.does in
      (t.returns ∙ ap (λ (a : ThirdAnswer). refusal_told (told a)) r.0, r.1)

  -- Two rows.
  pub c_third_restored_two : (i j : ℕ) → i ≤ last_row → j ≤ last_row → (i ≡ j → ⊥)
      → ((c : ℕ) → c < n → SameButTwo i j (column old n c) (column w n c)) → o ≡ dds_third_restore_two n i j old answer → (o.refusal ≡ 0) × (rows_left o ≡ w)
  c_third_restored_two i j hi hj d same e =
      let t = through (two_call (length old) n i j) (restored_two i j) n old answer o e h in
      let r = third_restored_two n w old _ (rows_left o) whole l i j hi hj d same t.does in
      (t.returns ∙ ap (λ (a : ThirdAnswer). refusal_told (told a)) r.0, r.1)

  -- "Mending is right where at most one byte of the column was changed."
  pub c_third_mended : ((c : ℕ) → c < n → AtMostOne (column old n c) (column w n c)) → o ≡ dds_third_mend n old answer → (o.refusal ≡ 0) × (rows_left o ≡ w)
  c_third_mended close e =
      let t = through (mend_call old n) mended n old answer o e h in
      let r = third_mended n w old _ (rows_left o) whole l close t.does in
      (t.returns ∙ ap (λ (a : ThirdAnswer). refusal_told (told a)) r.0, r.1)

-- The same by the column: where mending returns 0, such a column comes back, whatever the others were.
pub c_third_mended_column : (n : ℕ) (old answer : List ℕ) → Lent n old → (o : Left) → o ≡ dds_third_mend n old answer → o.refusal ≡ 0
    → (c : ℕ) → c < n → (w : Column) → ColumnBytes w → Lawful w → AtMostOne (column old n c) w → Same (column (rows_left o) n c) w
c_third_mended_column n old answer l o e zero = by (third_told n old (mend_call old n) (rows_left o) l t.does)
  where
    t : Through (mend_call old n) mended n old o
    t = through (mend_call old n) mended n old answer o e (went (mend_call old n) mended n old answer o e zero)

    by : MendTold n old (mend_call old n) (rows_left o)
        → (c : ℕ) → c < n → (w : Column) → ColumnBytes w → Lawful w → AtMostOne (column old n c) w → Same (column (rows_left o) n c) w
    by (inl a) = third_mended_column n old (rows_left o) l (subst (λ (x : ThirdAnswer). Mends n old x (rows_left o)) a.0 t.does)
    by (inr (c, (lc, (a, b)))) =
        let z : ◌≡◌ {A = ℕ} 43 0 = sym (t.returns ∙ ap (λ (x : ThirdAnswer). refusal_told (told x)) a) ∙ zero in absurd (omega arith)

-- "mend one wrong byte a column": of no column does mending write more than one byte, whatever it returns.
pub c_third_mends_one : (n : ℕ) (old answer : List ℕ) (o : Left) → o ≡ dds_third_mend n old answer → (c : ℕ) → c < n
    → AtMostOne (column (rows_left o) n c) (column old n c)
unfolding third_call
c_third_mends_one n old answer o e c lc = by (answer_kept answer) refl
  where
    by : (b : Bool) → answer_kept answer ≡ b → AtMostOne (column (rows_left o) n c) (column old n c)
    by true k = third_mends_one n old _ (rows_left o) (through (mend_call old n) mended n old answer o e (eqb-true (length answer) answer_length k)).does c lc
    by false k =
        let stays : rows_left o ≡ old = ap (λ (p : Left). rows_left p) (e ∙ sym (stopped _ _ (old ∷ []) answer k)) in
        (0, (omega arith, λ i li d. ap (λ (x : List ℕ). column x n c i) stays))

-- "43 a column that no single change mends (the whole buffer then stays)"
pub c_third_told : (n : ℕ) (old answer : List ℕ) → n < 256 ^ 4 → Lent n old → length answer ≡ answer_length → (o : Left) → o ≡ dds_third_mend n old answer → MendSeen n old o
c_third_told n old answer small l h o e = by (third_told n old (mend_call old n) (rows_left o) l t.does)
  where
    t : Through (mend_call old n) mended n old o
    t = through (mend_call old n) mended n old answer o e h

    by : MendTold n old (mend_call old n) (rows_left o) → MendSeen n old o
    by (inl (a, b)) = inl (t.returns ∙ ap (λ (x : ThirdAnswer). refusal_told (told x)) a, b)
    by (inr (c, (lc, (a, (b, d))))) =
        let p : place_seen o ≡ c = seen o (43 ∷ c ∷ 0 ∷ 0 ∷ 0 ∷ 0 ∷ []) (t.numbers ∙ ap (λ (x : ThirdAnswer). in_bytes (numbers_told (told x))) a) 1 (omega arith) (omega arith) in
        inr (
          t.returns ∙ ap (λ (x : ThirdAnswer). refusal_told (told x)) a,
          (omega arith, (b, subst (λ (x : ℕ). FirstHopeless n old x) (sym p) d)),
        )

-- Checking tells whether every column keeps both rules.
pub c_third_checked : (n : ℕ) (rows answer : List ℕ) → Lent n rows → length answer ≡ answer_length → (o : Left) → o ≡ dds_third_check n rows answer → CheckSeen n rows o
unfolding dds_third_check
c_third_checked n rows answer l h o e = by (third_checked n rows (check_call rows n) l refl)
  where
    t : Leaves (told (check_call rows n)) [] [] o
    t = leaves _ _ _ answer e (eq-eqb (length answer) answer_length h)

    told_so : (outcome : ℕ) → check_call rows n ≡ Accepted outcome → o.answer ≡ in_bytes (0 ∷ 0 ∷ outcome ∷ 0 ∷ 0 ∷ 0 ∷ [])
    told_so outcome a = t.numbers ∙ ap (λ (x : ThirdAnswer). in_bytes (numbers_told (told x))) a

    by : CheckTold n rows (check_call rows n) → CheckSeen n rows o
    by (inl (a, b)) = (t.returns ∙ ap (λ (x : ThirdAnswer). refusal_told (told x)) a, inl (seen o _ (told_so 0 a) 2 (omega arith) (omega arith), b))
    by (inr (a, b)) = (t.returns ∙ ap (λ (x : ThirdAnswer). refusal_told (told x)) a, inr (seen o _ (told_so 1 a) 2 (omega arith) (omega arith), b))
