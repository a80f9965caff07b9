-- What a start and a read leave: one law an exit.
-- Assumes nothing.
use mathlib.Core.Path.{◌≡◌, refl, sym, ap, ◌∙◌}
use mathlib.Core.Bool.{true, false}
use mathlib.Core.List.{List, [], ◌∷◌}
use Prim.Native.Nat.{ℕ, ◌/◌}
use lib.ListN.{length, replicate}
use Rattle.numbers.specs.Numbers.{in_bytes}
use Rattle.answer.specs.declared.refusals.Refusal.{Refusal}
use Rattle.answer.specs.Numbers.{refusal_number}
use Rattle.answer.specs.Answer.{Told, RefusedAt, accepted, if_accepted}
use Rattle.reader.specs.declared.Reader.{Reader}
use Rattle.reader.specs.ReadAnswer.{ReadAnswer}
use Rattle.reader.specs.ReadAnswer as read
use Rattle.reader.specs.ReaderStart as start
use Rattle.reader.specs.Answer.{start_told, reader_start_call, told, rows_left, Reads}
use Rattle.reader.proofs.Accepted.{begun_at}
use Rattle.slices.specs.Call.{left, lengths_kept, Tells}
use Rattle.slices.proofs.Calls.{started, not_started_lem, went_on, none_lent, more_lent}
use Rattle.states.specs.States.{reader_length, reader_of, reader_meant}
use Rattle.c_reader.specs.Calls.{dds_reader_start, state_left, dds_read}

-- A start: with the fresh state, and refused.
module _ (size first : ℕ) (state answer : List ℕ) (kept : lengths_kept (length state) reader_length (length answer) ≡ true) {told : Told} {state' after : List ℕ} {refusal : ℕ} (tells : Tells told refusal after) where
  pub start_done : {s : Reader} → start.Started s ≡ reader_start_call size first → told ≡ accepted → state' ≡ in_bytes (s.size ∷ s.next ∷ replicate 4 0)
      → left refusal (state' ∷ []) after ≡ dds_reader_start size first state answer
  unfolding dds_reader_start
  start_done {s} e p b =
      started _ _ _ kept (ap start_told (sym e)) (b ∙ ap (λ (r : Reader). in_bytes (r.size ∷ r.next ∷ replicate 4 0)) (begun_at size first s (sym e)).1) (rw p at tells)

  pub start_refused : (r : Refusal) → start.Refused (refusal_number r) ≡ reader_start_call size first → told ≡ RefusedAt (refusal_number r) 0 → state' ≡ state
      → left refusal (state' ∷ []) after ≡ dds_reader_start size first state answer
  unfolding dds_reader_start
  start_refused r e p b = rw b (not_started_lem (refusal_number r) _ _ _ kept (ap start_told (sym e)) (rw p at tells))

-- What a read leaves by its answer is what a call leaves that tells it.
state_lent : (a : ReadAnswer) (old : List ℕ) → state_left a old ≡ if_accepted (told a) (state_left a old) old
state_lent (read.Accepted t) old = refl
state_lent (read.Repeated s) old = refl
state_lent (read.Refused s refusal place) old = refl

rows_lent : (a : ReadAnswer) (new old : List ℕ) → rows_left a new old ≡ if_accepted (told a) (rows_left a new old) old
rows_lent (read.Accepted t) new old = refl
rows_lent (read.Repeated s) new old = refl
rows_lent (read.Refused s refusal place) new old = refl

module _ (state group : List ℕ) (number n : ℕ) (rows answer : List ℕ) {answer' : List ℕ} {refusal : ℕ} (kept : lengths_kept (length state) reader_length (length answer) ≡ true) where
  -- A state slice with a number that has no meaning.
  pub not_meant : reader_meant state ≡ false → Tells (RefusedAt 1 0) refusal answer' → left refusal (state ∷ rows ∷ []) answer' ≡ dds_read state group number n rows answer
  unfolding dds_read
  not_meant e t = rw e (went_on (RefusedAt 1 0) _ _ answer kept refl t)

  -- A read of the state that its slice holds.
  pub read_done : (s : Reader) (a : ReadAnswer) {state' rows' : List ℕ} → reader_meant state ≡ true → s ≡ reader_of state
      → Reads in_bytes s group number n (length rows / 4) rows a rows' → state' ≡ state_left a state → Tells (told a) refusal answer'
      → left refusal (state' ∷ rows' ∷ []) answer' ≡ dds_read state group number n rows answer
  unfolding dds_read
  read_done s a m e r f t =
      went_on (told a) _ _ answer kept
      (more_lent (told a) _ _ _ _ (f ∙ state_lent a state) (more_lent (told a) _ _ _ _ (r.rows_left ∙ rows_lent a _ rows) (none_lent (told a)))) t
      ∙ rw (m, r.answer, e)
