-- The theorems of this crate, each under document 01's sentence. The crates above cite these.
-- Assumes nothing.
use mathlib.Core.Path.{◌≡◌, refl, ap}
use mathlib.Core.Logic.{◌↔◌}
use mathlib.Core.Bool.{Bool, true, false, cond, ◌&&◌}
use mathlib.Core.List.{List, [], ◌∷◌}
use Prim.Native.Nat.{ℕ}
use native.Mathlib.Omega.{arith}
use borrow.Author.Tests.{eqb-true, eqb-false}
use lib.Dec.{eqb}
use lib.ListN.{length}
use Rattle.answer.specs.Answer.{Told}
use Rattle.answer.specs.Answer.{Accepted, RefusedAt}
use Rattle.answer.specs.Answer.{refusal_told, if_accepted}
use Rattle.group.specs.State.{start_refusal}
use Rattle.laying.specs.WriterStart.{WriterStart}
use Rattle.laying.specs.WriterStart as start
use Rattle.laying.specs.Start.{fresh_state, writer_start_call}
use Rattle.laying.specs.Laying.{Desk, desk}
use Rattle.sound.proofs.Accepted.{record_accepted_lem, separator_accepted_lem, end_accepted_lem}
use Rattle.writer.specs.WriteAnswer.{WriteAnswer}
use Rattle.writer.specs.WriteAnswer as write
use Rattle.writer.specs.Calls.{Done, done, or_refused, start_told, record_call, separator_call, end_call, Call, call, told, state_of}
use Rattle.writer.specs.Calls.Call.{a_record, a_separator, an_end}
use Rattle.writer.proofs.Left.{Left, record_left, separator_left, end_left}
use Rattle.writer.proofs.Theorems.{information_stays}
use Rattle.slices.specs.Call.{of_meaning, called, lengths_kept}
use Rattle.slices.proofs.Calls.{returns_zero, meant_zero}
use Rattle.states.specs.States.{writer_length, b4_set, b4_meant, writer_of, writer_bytes, writer_meant}
use Rattle.c_writer.specs.Calls.{dds_writer_start, written, dds_record, dds_separator, dds_end}
use Rattle.c_writer.specs.Accepted.{StartAccepted, Accepts, CallAccepted, InformationStays}

-- A start that tells 0 started.
start_told_lem : (size first : ℕ) → refusal_told (start_told (writer_start_call size first)) ≡ 0 → writer_start_call size first ≡ start.Started (fresh_state size first)
unfolding writer_start_call
start_told_lem size first e = by (eqb (start_refusal size first) 0) refl e
  where
    by : (b : Bool) → eqb (start_refusal size first) 0 ≡ b → refusal_told (start_told (cond b (start.Started (fresh_state size first)) (start.Refused (start_refusal size first)))) ≡ 0 →
        cond b (start.Started (fresh_state size first)) (start.Refused (start_refusal size first)) ≡ start.Started (fresh_state size first)
    by true p z = refl
    by false p z = absurd (eqb-false (start_refusal size first) 0 p z)

-- "Each call returns the number, 0 if accepted": a start returns 0 exactly where it is accepted.
pub start_returns_zero : (size first : ℕ) (state answer : List ℕ) → ((dds_writer_start size first state answer).refusal ≡ 0) ↔ StartAccepted size first state answer
unfolding dds_writer_start
start_returns_zero size first state answer =
    let r = returns_zero _ (start_told (writer_start_call size first)) _ _ answer in (
      λ e. let z = r.0 e in record { kept = z.0; starts = start_told_lem size first z.1 },
      λ a. r.1 (a.kept, ap (λ (x : WriterStart). refusal_told (start_told x)) a.starts),
    )

-- An answer that is no refusal is one of the other two.
no_refusal_lem : (a : WriteAnswer) → ((new old : List ℕ) → new ≡ if_accepted (told a) new old) → Accepts a
no_refusal_lem (write.Finished s) h = Accepts.finishes
no_refusal_lem (write.Closed s number entries taken) h = Accepts.closes
no_refusal_lem (write.Refused s refusal) h = let z : ◌≡◌ {A = ℕ} 1 0 = ap length (h (0 ∷ []) []) in absurd (omega arith)

or_accepts : (n : ℕ) (w : Desk) (d : Done) → (n ≡ 0 → Left w.group d) → refusal_told (told (or_refused n w d).answer) ≡ 0 → Accepts (or_refused n w d).answer
unfolding or_refused
or_accepts n w d h = by (eqb n 0) refl
  where
    by : (p : Bool) → eqb n 0 ≡ p → refusal_told (told (cond p d (done (write.Refused w.state n) w.group)).answer) ≡ 0 → Accepts (cond p d (done (write.Refused w.state n) w.group)).answer
    by true e z = no_refusal_lem d.answer (h (eqb-true n 0 e)).given
    by false e z = absurd (eqb-false n 0 e z)

-- A call that tells 0 was accepted, and one that was accepted tells 0.
call_accepts : (c : Call) (w : Desk) → refusal_told (told (call c w).answer) ≡ 0 → Accepts (call c w).answer
unfolding call record_call separator_call end_call
call_accepts (a_record bytes warn) w = or_accepts _ w _ (λ e. record_left bytes warn (record_accepted_lem w.state w.group (length bytes) e))
call_accepts (a_separator value warn) w = or_accepts _ w _ (λ e. separator_left value warn (separator_accepted_lem w.state w.group value e))
call_accepts (an_end warn) w = or_accepts _ w _ (λ e. end_left warn (end_accepted_lem w.state w.group e))

accepts_zero : {a : WriteAnswer} → Accepts a → refusal_told (told a) ≡ 0
accepts_zero Accepts.finishes = refl
accepts_zero Accepts.closes = refl

module _ (state group : List ℕ) (warn : ℕ) (answer : List ℕ) where
  -- The writer's own call on the state that the slice holds.
  abbrev own : Call → Done
  own c = call c (desk (writer_of state) group)

  call_zero : (c : Call) → ((written (own c) state group warn answer).refusal ≡ 0) ↔ CallAccepted (own c) state warn answer
  unfolding written
  call_zero c =
      let r = returns_zero _ (of_meaning (writer_meant state && b4_meant warn) (told (own c).answer)) _ _ answer in
      let m = meant_zero (writer_meant state && b4_meant warn) (told (own c).answer) in (
        λ e.
            let z = r.0 e in
            let y = m.0 z.1 in
            record { kept = z.0; meant = y.0; accepts = call_accepts c (desk (writer_of state) group) y.1 },
        λ a. r.1 (a.kept, m.1 (a.meant, accepts_zero a.accepts)),
      )

  -- .. a record, a separator and an end.
  pub record_returns_zero : (bytes : List ℕ) → ((dds_record state group bytes warn answer).refusal ≡ 0) ↔ CallAccepted (record_call bytes (b4_set warn) (desk (writer_of state) group)) state warn answer
  unfolding dds_record call
  record_returns_zero bytes = call_zero (a_record bytes (b4_set warn))

  pub separator_returns_zero : (value : ℕ) → ((dds_separator state group value warn answer).refusal ≡ 0) ↔ CallAccepted (separator_call value (b4_set warn) (desk (writer_of state) group)) state warn answer
  unfolding dds_separator call
  separator_returns_zero value = call_zero (a_separator value (b4_set warn))

  pub end_returns_zero : ((dds_end state group warn answer).refusal ≡ 0) ↔ CallAccepted (end_call (b4_set warn) (desk (writer_of state) group)) state warn answer
  unfolding dds_end call
  end_returns_zero = call_zero (an_end (b4_set warn))

  call_keeps : (c : Call) → InformationStays group (written (own c) state group warn answer)
  unfolding written called
  call_keeps c = by (lengths_kept (length state) writer_length (length answer)) (of_meaning (writer_meant state && b4_meant warn) (told (own c).answer))
    where
      by : (kept : Bool) (told : Told) → InformationStays group (called kept told (writer_bytes (state_of (own c).answer) ∷ (own c).group ∷ []) (state ∷ group ∷ []) answer)
      by true (Accepted outcome number entries taken) = information_stays c (desk (writer_of state) group)
      by true (RefusedAt refusal place) = refl
      by false told = refl

  -- "We neither read nor write those 32 bytes": through C, whatever is lent.
  pub record_keeps_information : (bytes : List ℕ) → InformationStays group (dds_record state group bytes warn answer)
  unfolding dds_record call
  record_keeps_information bytes = call_keeps (a_record bytes (b4_set warn))

  pub separator_keeps_information : (value : ℕ) → InformationStays group (dds_separator state group value warn answer)
  unfolding dds_separator call
  separator_keeps_information value = call_keeps (a_separator value (b4_set warn))

  pub end_keeps_information : InformationStays group (dds_end state group warn answer)
  unfolding dds_end call
  end_keeps_information = call_keeps (an_end (b4_set warn))
