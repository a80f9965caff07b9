-- The theorems of this crate, each under document 01's sentence. The crates above cite these.
-- Assumes nothing.
use mathlib.Core.Path.{◌≡◌, refl, ap, ◌∙◌}
use mathlib.Core.Logic.{◌↔◌, ◌⊎◌, inl, inr}
use mathlib.Core.Bool.{Bool, true, false, cond}
use mathlib.Core.List.{List, [], ◌∷◌}
use Prim.Native.Nat.{ℕ, ◌/◌}
use native.Mathlib.Omega.{arith}
use borrow.Author.Tests.{eqb-false}
use lib.Dec.{eqb}
use lib.ListN.{length}
use Rattle.numbers.specs.Numbers.{number_at, bytes_of, in_bytes}
use Rattle.numbers.specs.Store.{put}
use Rattle.answer.specs.Answer.{Told}
use Rattle.answer.specs.Answer.{numbers_told, refusal_told, if_accepted}
use Rattle.group.specs.State.{start_refusal}
use Rattle.reader.specs.declared.Reader.{Reader}
use Rattle.reader.specs.ReaderStart.{ReaderStart}
use Rattle.reader.specs.ReaderStart as start
use Rattle.reader.specs.ReadAnswer.{ReadAnswer}
use Rattle.reader.specs.ReadAnswer as read
use Rattle.reader.specs.Answer.{fresh, reader_start_call, start_told, is_repeat, read_call, told, group_rows, rows_left}
use Rattle.reader.proofs.Accepted as own_read
use Rattle.reader.proofs.Refused.{read_refuses, read_not_zero}
use Rattle.reader.specs.Refused.{RefusedRead}
use Rattle.slices.specs.Call.{Left, outcome_seen, lengths_kept, of_meaning, called}
use Rattle.slices.proofs.Calls.{leaves, returns_zero, meant_zero}
use Rattle.states.specs.States.{reader_length, reader_of, reader_bytes, reader_meant}
use Rattle.c_reader.specs.Calls.{dds_reader_start, state_left, dds_read, reader_left, rows_read}
use Rattle.c_reader.specs.Accepted.{StartAccepted, ReadAccepted, ReadRepeated, repeat_left, ReadRefused}

-- A start that tells 0 started, whatever number it might have refused with.
pub start_told_lem : (refusal : ℕ) (s : Reader) → refusal_told (start_told (cond (eqb refusal 0) (start.Started s) (start.Refused refusal))) ≡ 0 →
    cond (eqb refusal 0) (start.Started s) (start.Refused refusal) ≡ start.Started s
start_told_lem refusal s e = by (eqb refusal 0) refl e
  where
    by : (b : Bool) → eqb refusal 0 ≡ b → refusal_told (start_told (cond b (start.Started s) (start.Refused refusal))) ≡ 0 → cond b (start.Started s) (start.Refused refusal) ≡ start.Started s
    by true p z = refl
    by false p z = absurd (eqb-false refusal 0 p z)

-- "Each call returns the number, 0 if accepted": a start returns 0 exactly where it is accepted.
pub start_returns_zero : (size first : ℕ) (state answer : List ℕ) → ((dds_reader_start size first state answer).refusal ≡ 0) ↔ StartAccepted size first state answer
unfolding dds_reader_start reader_start_call
start_returns_zero size first state answer =
    let r = returns_zero _ (start_told (reader_start_call size first)) _ _ answer in (
      λ e. let z = r.0 e in record { kept = z.0; starts = start_told_lem (start_refusal size first) (fresh size first) z.1 },
      λ a. r.1 (a.kept, ap (λ (x : ReaderStart). refusal_told (start_told x)) a.starts),
    )

module _ (state group : List ℕ) (number n : ℕ) (rows answer : List ℕ) where
  abbrev own : ReadAnswer
  own = read_call (reader_of state) group number n (length rows / 4)

  -- A read that tells 0 was accepted, or is a repeat.
  read_told : refusal_told (told own) ≡ 0 → ((t : Reader) × (own ≡ read.Accepted t)) ⊎ (is_repeat (reader_of state) (length group) number ≡ true)
  read_told z = by own refl z
    where
      by : (a : ReadAnswer) → own ≡ a → refusal_told (told a) ≡ 0 → ((t : Reader) × (own ≡ read.Accepted t)) ⊎ (is_repeat (reader_of state) (length group) number ≡ true)
      by (read.Accepted t) e z = inl (t, e)
      by (read.Repeated t) e z = inr (own_read.repeated (reader_of state) t group number n _ e).0
      by (read.Refused t refusal place) e z = absurd (read_not_zero (read_refuses _ t group number n _ refusal place e) z)

  -- A repeat returns 0 and tells outcome 2, whatever the group's bytes, the entry count and the rows are; state and rows stay.
  pub read_repeated : ReadRepeated state group number answer → dds_read state group number n rows answer ≡ repeat_left state rows
  unfolding dds_read called
  read_repeated r = rw (r.kept, r.meant, ← own_read.read_repeated (reader_of state) group number n (length rows / 4) r.repeat)

  -- .. and a read returns 0 exactly where it is accepted, or is a repeat.
  pub read_returns_zero : ((dds_read state group number n rows answer).refusal ≡ 0) ↔ (ReadAccepted state group number n rows answer ⊎ ReadRepeated state group number answer)
  unfolding dds_read
  read_returns_zero =
      let r = returns_zero _ (of_meaning (reader_meant state) (told own)) _ _ answer in
      let m = meant_zero (reader_meant state) (told own) in (
        λ e.
            let z = r.0 e in
            let y = m.0 z.1 in
            which z.0 y.0 (read_told y.1),
        zero,
      )
    where
      which : lengths_kept (length state) reader_length (length answer) ≡ true → reader_meant state ≡ true
          → ((t : Reader) × (own ≡ read.Accepted t)) ⊎ (is_repeat (reader_of state) (length group) number ≡ true)
          → ReadAccepted state group number n rows answer ⊎ ReadRepeated state group number answer
      which k m (inl t) = inl (record { kept = k; meant = m; left = t.0; accepts = t.1 })
      which k m (inr e) = inr (record { kept = k; meant = m; repeat = e })

      zero : ReadAccepted state group number n rows answer ⊎ ReadRepeated state group number answer → (dds_read state group number n rows answer).refusal ≡ 0
      zero (inl a) =
          (returns_zero _ (of_meaning (reader_meant state) (told own)) _ _ answer).1
          (a.kept, (meant_zero (reader_meant state) (told own)).1 (a.meant, ap (λ (x : ReadAnswer). refusal_told (told x)) a.accepts))
      zero (inr e) = ap (λ (o : Left). o.refusal) (read_repeated e)

  -- What an accepted read tells.
  accepted_told : (a : ReadAccepted state group number n rows answer) → of_meaning (reader_meant state) (told own) ≡ told (read.Accepted a.left)
  accepted_told a = ap (λ (b : Bool). of_meaning b (told own)) a.meant ∙ ap told a.accepts

  -- What an accepted read leaves: the bytes of the new state, and the rows.
  pub read_left : (a : ReadAccepted state group number n rows answer) →
      (reader_left (dds_read state group number n rows answer) ≡ reader_bytes a.left) × (rows_read (dds_read state group number n rows answer) ≡ put rows 0 (in_bytes (group_rows (reader_of state) group n)))
  unfolding dds_read
  read_left a =
      let new : List ℕ = in_bytes (group_rows (reader_of state) group n) in
      let l = leaves (of_meaning (reader_meant state) (told own)) _ _ answer refl a.kept in
      let m = accepted_told a in (
        l.slices 0 ∙ ap (λ (x : Told). if_accepted x (state_left own state) state) m ∙ ap (λ (x : ReadAnswer). state_left x state) a.accepts,
        l.slices 1 ∙ ap (λ (x : Told). if_accepted x (rows_left own new rows) rows) m ∙ ap (λ (x : ReadAnswer). rows_left x new rows) a.accepts,
      )

  -- An accepted read tells outcome 0, and a repeat 2.
  outcome_zero : ReadAccepted state group number n rows answer → outcome_seen (dds_read state group number n rows answer) ≡ 0
  unfolding dds_read number_at in_bytes bytes_of
  outcome_zero a =
      let l = leaves (of_meaning (reader_meant state) (told own)) _ _ answer refl a.kept in
      ap (λ (b : List ℕ). number_at 4 b 8) (l.numbers ∙ ap (λ (x : Told). in_bytes (numbers_told x)) (accepted_told a))

  outcome_two : ReadRepeated state group number answer → outcome_seen (dds_read state group number n rows answer) ≡ 2
  unfolding number_at in_bytes bytes_of
  outcome_two r = ap outcome_seen (read_repeated r)

  -- "C returns 0, its answer slice says so": a read that returns 0 is accepted exactly where it tells outcome 0 ..
  pub read_accepts : (((dds_read state group number n rows answer).refusal ≡ 0) × (outcome_seen (dds_read state group number n rows answer) ≡ 0)) ↔ ReadAccepted state group number n rows answer
  read_accepts = (λ z. by z.1 (read_returns_zero.0 z.0), λ a. (read_returns_zero.1 (inl a), outcome_zero a))
    where
      by : outcome_seen (dds_read state group number n rows answer) ≡ 0 → ReadAccepted state group number n rows answer ⊎ ReadRepeated state group number answer → ReadAccepted state group number n rows answer
      by e (inl a) = a
      by e (inr r) = absurd (omega (arith, outcome_two r))

  -- .. and a repeat exactly where it tells outcome 2.
  pub read_repeats : (((dds_read state group number n rows answer).refusal ≡ 0) × (outcome_seen (dds_read state group number n rows answer) ≡ 2)) ↔ ReadRepeated state group number answer
  read_repeats = (λ z. by z.1 (read_returns_zero.0 z.0), λ r. (read_returns_zero.1 (inr r), outcome_two r))
    where
      by : outcome_seen (dds_read state group number n rows answer) ≡ 2 → ReadAccepted state group number n rows answer ⊎ ReadRepeated state group number answer → ReadRepeated state group number answer
      by e (inl a) = absurd (omega (arith, outcome_zero a))
      by e (inr r) = r

  -- "A refusal answers the number, the place (k for 8 to 13, else 0) and the state as given." "C's answer slice apart, nothing lent
  -- changes": of every read that returns another number than 0.
  pub read_refused_lem : ((dds_read state group number n rows answer).refusal ≡ 0 → ⊥) → ReadRefused state n rows answer (dds_read state group number n rows answer)
  unfolding dds_read called
  read_refused_lem z = by (lengths_kept (length state) reader_length (length answer)) refl (reader_meant state) own refl z
    where
      all : Bool → Bool → ReadAnswer → Left
      all kept meant a =
          called kept (of_meaning meant (told a)) (state_left a state ∷ rows_left a (in_bytes (group_rows (reader_of state) group n)) rows ∷ []) (state ∷ rows ∷ []) answer

      by : (kept : Bool) → lengths_kept (length state) reader_length (length answer) ≡ kept → (meant : Bool) (a : ReadAnswer) → own ≡ a → ((all kept meant a).refusal ≡ 0 → ⊥) → ReadRefused state n rows answer (all kept meant a)
      by false e meant a f z = ReadRefused.by_a_length e
      by true e false a f z = ReadRefused.told {s = reader_of state} (RefusedRead.before_the_scan refl)
      by true e true (read.Accepted t) f z = absurd (z refl)
      by true e true (read.Repeated t) f z = absurd (z refl)
      by true e true (read.Refused t refusal place) f z = ReadRefused.told (read_refuses _ t group number n _ refusal place f)
