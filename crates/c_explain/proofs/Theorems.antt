-- Change request 2026-07: what the call from C tells is true, and is the number and the place that the call that reads answers.
-- Assumes nothing.
use mathlib.Core.Path.{◌≡◌, refl, sym, ap, ◌∙◌}
use mathlib.Core.Bool.{Bool, true, false, cond}
use mathlib.Core.List.{List, [], ◌∷◌}
use Prim.Native.Nat.{ℕ, ◌/◌}
use borrow.Author.Tests.{eq-eqb}
use lib.Dec.{eqb}
use lib.ListN.{length}
use Rattle.numbers.specs.Numbers.{in_bytes}
use Rattle.answer.specs.Answer.{Told}
use Rattle.answer.specs.Answer.{Accepted, RefusedAt}
use Rattle.answer.specs.Answer.{numbers_told, refusal_told}
use Rattle.reader.specs.Answer.{read_call, told}
use Rattle.explain.specs.Explanation.{Explanation}
use Rattle.reasons.specs.Reasons.{no_reason}
use Rattle.explain.specs.Explanation.{explanation, explained}
use Rattle.explain.specs.Truth.{SameTold}
use Rattle.explain.proofs.Theorems.{explained_true, explained_same}
use Rattle.slices.specs.Call.{Left, left, answer_length, lengths_kept, of_meaning, called}
use Rattle.slices.proofs.Calls.{lengths}
use Rattle.states.specs.States.{reader_length, reader_of, reader_meant}
use Rattle.c_reader.specs.Calls.{dds_read}
use Rattle.c_explain.specs.Calls.{explanation_length, tells, state_kept, state_explained, dds_explain}
use Rattle.c_explain.specs.Truth.{TellsTrue, SameAsRead}
use Rattle.c_explain.specs.Truth.TellsTrue.{no_state, of_a_state}

-- What a call tells whose refusal and place an explanation has.
others : Told → List ℕ
others (Accepted outcome number entries taken) = outcome ∷ number ∷ entries ∷ taken ∷ []
others (RefusedAt refusal place) = 0 ∷ 0 ∷ 0 ∷ 0 ∷ []

same_number : (t : Told) (x : Explanation) → SameTold t x → refusal_told t ≡ x.refusal
same_number (Accepted outcome number entries taken) x e = rw e
same_number (RefusedAt refusal place) x e = sym e.0

same_numbers : (t : Told) (x : Explanation) → SameTold t x → numbers_told t ≡ x.refusal ∷ x.place ∷ others t
unfolding others
same_numbers (Accepted outcome number entries taken) x e = rw e
same_numbers (RefusedAt refusal place) x e = rw (e.0, e.1)

module _ (state group : List ℕ) (number n : ℕ) (rows slice : List ℕ) (long : length slice ≡ explanation_length) where
  pub c_explained_true : TellsTrue state group number n rows (dds_explain state group number n rows slice)
  unfolding dds_explain state_explained
  c_explained_true = rw (eq-eqb (length slice) explanation_length long) (by (state_kept state) refl)
    where
      by : (b : Bool) → state_kept state ≡ b → TellsTrue state group number n rows (tells (cond b (explained (reader_of state) group number n (length rows)) (explanation 1 0 0 no_reason)))
      by true e = of_a_state (explained (reader_of state) group number n (length rows)) e (explained_true (reader_of state) group number n (length rows))
      by false e = no_state e

  -- The call that reads, lent the same and slices of their lengths, returns the number that is explained, and answers it with its place.
  pub c_explained_same : (answer : List ℕ) → lengths_kept (length state) reader_length (length answer) ≡ true
      → SameAsRead (state_explained state group number n rows) (dds_explain state group number n rows slice) (dds_read state group number n rows answer)
  unfolding dds_explain dds_read state_explained called
  c_explained_same answer kept =
      rw (kept, eq-eqb (length slice) explanation_length long, eq-eqb (length state) reader_length (lengths _ _ _ kept).0) (by (reader_meant state))
    where
      x : Bool → Explanation
      x m = cond m (explained (reader_of state) group number n (length rows)) (explanation 1 0 0 no_reason)

      t : Bool → Told
      t m = of_meaning m (told (read_call (reader_of state) group number n (length rows / 4)))

      same : (m : Bool) → SameTold (t m) (x m)
      same true = explained_same (reader_of state) group number n (length rows)
      same false = (refl, refl)

      by : (m : Bool) {lent : List (List ℕ)} → SameAsRead (x m) (tells (x m)) (left (refusal_told (t m)) lent (in_bytes (numbers_told (t m))))
      by m =
          record {
            explains = refl;
            returns = same_number (t m) (x m) (same m);
            others = others (t m);
            answers = ap in_bytes (same_numbers (t m) (x m) (same m));
          }

  -- What both return is the same wherever these two slices are of their lengths, also where the state's is not.
  both_one : (answer : List ℕ) → eqb (length state) reader_length ≡ false → (dds_read state group number n rows answer).refusal ≡ (dds_explain state group number n rows slice).refusal
  unfolding dds_explain dds_read state_explained called lengths_kept
  both_one answer e = rw (eq-eqb (length slice) explanation_length long, e)

  kept_by : (answer : List ℕ) → length answer ≡ answer_length → eqb (length state) reader_length ≡ true → lengths_kept (length state) reader_length (length answer) ≡ true
  unfolding lengths_kept
  kept_by answer whole e = rw (e, eq-eqb (length answer) answer_length whole)

  pub c_returns_same : (answer : List ℕ) → length answer ≡ answer_length → (dds_read state group number n rows answer).refusal ≡ (dds_explain state group number n rows slice).refusal
  c_returns_same answer whole = by (eqb (length state) reader_length) refl
    where
      by : (b : Bool) → eqb (length state) reader_length ≡ b → (dds_read state group number n rows answer).refusal ≡ (dds_explain state group number n rows slice).refusal
      by true e = let s = c_explained_same answer (kept_by answer whole e) in s.returns ∙ sym (ap (λ (o : Left). o.refusal) s.explains)
      by false e = both_one answer e
