-- What a start, a record, a separator and an end leave: one law an exit.
-- Assumes nothing.
use mathlib.Core.Path.{◌≡◌, sym, ap, ◌∙◌}
use mathlib.Core.Bool.{Bool, true, false, ◌&&◌}
use mathlib.Core.List.{List, [], ◌∷◌}
use Prim.Native.Nat.{ℕ}
use lib.ListN.{length, replicate}
use Rattle.numbers.specs.Numbers.{in_bytes}
use Rattle.answer.specs.declared.refusals.Refusal.{Refusal}
use Rattle.answer.specs.Numbers.{refusal_number}
use Rattle.answer.specs.Answer.{Told, RefusedAt, accepted, if_accepted}
use Rattle.laying.specs.declared.Writer.{Writer}
use Rattle.laying.specs.Laying.{desk}
use Rattle.laying.specs.WriterStart as start
use Rattle.laying.specs.Start.{writer_start_call}
use Rattle.laying.proofs.Starts.{begun_at}
use Rattle.writer.specs.WriteAnswer.{WriteAnswer}
use Rattle.writer.specs.Calls.{Done, Meets, Call, call, start_told, told, state_of}
use Rattle.writer.proofs.Theorems.{group_left_lem}
use Rattle.slices.specs.Call.{left, answer_length, lengths_kept, Tells, Refuses}
use Rattle.slices.proofs.Calls.{lengths, started, not_started_lem, went_on, refused_before, let_by, none_lent, more_lent}
use Rattle.states.specs.States.{writer_length, b4_meant, writer_of, writer_bytes, writer_meant}
use Rattle.c_writer.specs.Calls.{dds_writer_start, written}

-- A start: with the fresh state, and refused.
module _ (size first : ℕ) (state answer : List ℕ) (kept : lengths_kept (length state) writer_length (length answer) ≡ true) {told : Told} {state' after : List ℕ} {refusal : ℕ} (tells : Tells told refusal after) where
  pub start_done : {s : Writer} → start.Started s ≡ writer_start_call size first → told ≡ accepted → state' ≡ in_bytes (s.size ∷ s.next ∷ replicate 6 0)
      → left refusal (state' ∷ []) after ≡ dds_writer_start size first state answer
  unfolding dds_writer_start
  start_done {s} e p b =
      started _ _ _ kept (ap start_told (sym e)) (b ∙ ap (λ (w : Writer). in_bytes (w.size ∷ w.next ∷ replicate 6 0)) (begun_at size first s (sym e)).1) (rw p at tells)

  pub start_refused : (r : Refusal) → start.Refused (refusal_number r) ≡ writer_start_call size first → told ≡ RefusedAt (refusal_number r) 0 → state' ≡ state
      → left refusal (state' ∷ []) after ≡ dds_writer_start size first state answer
  unfolding dds_writer_start
  start_refused r e p b = rw b (not_started_lem (refusal_number r) _ _ _ kept (ap start_told (sym e)) (rw p at tells))

module _ (state group : List ℕ) (warn : ℕ) (answer : List ℕ) {r : Bool} {after : List ℕ}
    (tests : Refuses (lengths_kept (length state) writer_length (length answer)) (writer_meant state && b4_meant warn) answer r after) where
  -- A call that its slices refuse.
  pub not_called : (done : Done) → r ≡ true → left 1 (state ∷ group ∷ []) after ≡ written done state group warn answer
  unfolding written
  not_called done e = refused_before _ _ _ _ _ answer tests e

  -- Slices that let a call by are of their lengths.
  pub long : r ≡ false → (length state ≡ writer_length) × (length after ≡ answer_length)
  long e =
      let p = let_by _ _ tests e in
      let l = lengths _ _ _ p.0 in
      (l.0, ap length p.1.1 ∙ l.1)

  -- A call on the state that its slice holds.
  pub call_done : (c : Call) (w : Writer) (a : WriteAnswer) {state' group' answer' : List ℕ} {refusal : ℕ} → r ≡ false → w ≡ writer_of state
      → Meets (call c (desk w group)) a group' → state' ≡ if_accepted (told a) (writer_bytes (state_of a)) state → Tells (told a) refusal answer'
      → left refusal (state' ∷ group' ∷ []) answer' ≡ written (call c (desk (writer_of state) group)) state group warn answer
  unfolding written
  call_done c w a e f m s t =
      let p = let_by _ _ tests e in
      let g = m.group ∙ group_left_lem c (desk w group) ∙ ap (λ (x : WriteAnswer). if_accepted (told x) (call c (desk w group)).group group) (sym m.answer) in
      went_on (told a) _ _ answer p.0 (more_lent (told a) _ _ _ _ s (more_lent (told a) _ _ _ _ g (none_lent (told a)))) t
      ∙ rw (p.1.0, m.answer, f)
