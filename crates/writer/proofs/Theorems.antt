-- The theorems of this crate, each under document 01's sentence. The crates above cite these.
-- Assumes nothing.
use mathlib.Core.Path.{◌≡◌, refl, sym, ◌∙◌, subst}
use mathlib.Core.Bool.{Bool, true, false, cond, true≢false}
use Prim.Native.Nat.{ℕ, ◌-◌}
use native.Mathlib.Omega.{arith}
use lib.Dec.{eqb}
use lib.IntN.{negsuc}
use lib.ListN.{length, drop}
use lib.Signed.{le_z}
use borrow.Author.Tests.{eqb-true, eqb-false}
use Rattle.numbers.proofs.Tests.{within}
use Rattle.answer.specs.Answer.{refusal_told, if_accepted}
use Rattle.group.specs.Sizes.{least_size, standard_size, information_length, last_number}
use Rattle.group.specs.State.{start_refusal}
use Rattle.group.specs.declared.Phase.TheVariants.{Free}
use Rattle.group.proofs.StateLaws.{started}
use Rattle.laying.specs.Start.{fresh_state, writer_start_call}
use Rattle.laying.proofs.Starts.{begun_at}
use Rattle.laying.specs.declared.Writer.{Writer}
use Rattle.laying.specs.Room.{room}
use Rattle.laying.specs.Laying.{Desk}
use Rattle.laying.proofs.RoomLaws.{room_least}
use Rattle.sound.specs.State.{writer_sound}
use Rattle.sound.proofs.SoundLaws.{sound, is_sound}
use Rattle.sound.proofs.Accepted.{fits, record_accepted_lem, separator_accepted_lem, end_accepted_lem}
use Rattle.laying.specs.WriterStart as start
use Rattle.writer.specs.WriteAnswer.{Refused}
use Rattle.writer.specs.Calls.{Done, done, or_refused, record_call, separator_call, end_call, Call, a_record, a_separator, an_end, refusal_of, call, told, state_of}
use Rattle.writer.proofs.Ends.{end_rests}
use Rattle.writer.proofs.Left.{Stays, stays_same, Left, record_left, separator_left, end_left}

-- A call is its refusal, or what its accepted form leaves.
data Outcome (n : ℕ) (w : Desk) : Done → Type 0 where
  refused : (n ≡ 0 → ⊥) → Outcome n w (done (Refused w.state n) w.group)
  accepted : {d : Done} → n ≡ 0 → Left w.group d → Outcome n w d

either : (n : ℕ) (w : Desk) (d : Done) → (n ≡ 0 → Left w.group d) → Outcome n w (or_refused n w d)
unfolding or_refused
either n w d h = by (eqb n 0) refl
  where
    by : (p : Bool) → eqb n 0 ≡ p → Outcome n w (cond p d (done (Refused w.state n) w.group))
    by true e = accepted (eqb-true n 0 e) (h (eqb-true n 0 e))
    by false e = refused (eqb-false n 0 e)

outcome : (c : Call) (w : Desk) → Outcome (refusal_of c w) w (call c w)
unfolding refusal_of call record_call separator_call end_call
outcome (a_record bytes warn) w = either _ w _ (λ e. record_left bytes warn (record_accepted_lem w.state w.group (length bytes) e))
outcome (a_separator value warn) w = either _ w _ (λ e. separator_left value warn (separator_accepted_lem w.state w.group value e))
outcome (an_end warn) w = either _ w _ (λ e. end_left warn (end_accepted_lem w.state w.group e))

-- "Each call returns the number, 0 if accepted": what is told is the number of the call's chain.
pub refusal_told_lem : (c : Call) (w : Desk) → refusal_told (told (call c w).answer) ≡ refusal_of c w
refusal_told_lem c w = by (outcome c w)
  where
    by : {d : Done} → Outcome (refusal_of c w) w d → refusal_told (told d.answer) ≡ refusal_of c w
    by (refused h) = refl
    by (accepted e l) = l.accepted ∙ sym e

-- "A refusal answers the number, the place and the state as given." "Nothing lent changes."
pub refused_stays : (c : Call) (w : Desk) → (refusal_of c w ≡ 0 → ⊥) → call c w ≡ done (Refused w.state (refusal_of c w)) w.group
refused_stays c w n = by (outcome c w)
  where
    by : {d : Done} → Outcome (refusal_of c w) w d → d ≡ done (Refused w.state (refusal_of c w)) w.group
    by (refused h) = refl
    by (accepted e l) = absurd (n e)

-- .. so the group that a call leaves is a new one only where it is accepted.
pub group_left_lem : (c : Call) (w : Desk) → (call c w).group ≡ if_accepted (told (call c w).answer) (call c w).group w.group
group_left_lem c w = by (outcome c w)
  where
    by : {d : Done} → Outcome (refusal_of c w) w d → d.group ≡ if_accepted (told d.answer) d.group w.group
    by (refused h) = refl
    by {d} (accepted e l) = l.given d.group w.group

stays : (c : Call) (w : Desk) → Stays w.group (call c w).group
stays c w = by (outcome c w)
  where
    by : {d : Done} → Outcome (refusal_of c w) w d → Stays w.group d.group
    by (refused h) = stays_same w.group
    by (accepted e l) = l.stays

-- "We neither read nor write those 32 bytes": the last 32 stay, whatever the call, the state and the group.
pub information_stays : (c : Call) (w : Desk)
    → drop (length w.group - information_length) (call c w).group ≡ drop (length w.group - information_length) w.group
information_stays c w = (stays c w).table

-- A lent group keeps its length.
pub length_stays : (c : Call) (w : Desk) → length (call c w).group ≡ length w.group
length_stays c w = (stays c w).long

-- "It is sound if ..": an accepted call leaves a sound state.
pub sound_after : (c : Call) (w : Desk) → refusal_told (told (call c w).answer) ≡ 0 → writer_sound (state_of (call c w).answer) ≡ true
sound_after c w = by (outcome c w)
  where
    by : {d : Done} → Outcome (refusal_of c w) w d → refusal_told (told d.answer) ≡ 0 → writer_sound (state_of d.answer) ≡ true
    by (refused h) e = absurd (h e)
    by (accepted e l) z = is_sound _ l.sound

-- "End: free with e = 0, and no total owed, closes nothing. Otherwise skip and close." An accepted end leaves no entry in the
-- group, and no record that is not finished.
pub end_empties : (warn : Bool) (w : Desk) → refusal_told (told (call (an_end warn) w).answer) ≡ 0 →
    ((state_of (call (an_end warn) w).answer).entries ≡ 0) × ((state_of (call (an_end warn) w).answer).phase ≡ Free)
unfolding call refusal_of
end_empties warn w e =
    let r = end_rests warn w (sym (refusal_told_lem (an_end warn) w) ∙ e) in
    (r.none, r.free)

-- "A writer starts the same way": with a sound state.
sound_fresh : (size first : ℕ) → start_refusal size first ≡ 0 → writer_sound (fresh_state size first) ≡ true
sound_fresh size first e =
    let l = within least_size size standard_size (started size first e).0 in
    let n = within 1 first last_number (started size first e).1 in
    is_sound (fresh_state size first)
    (record {
      run = record { least = l.0; most = l.1; some = n.0; number = omega arith; kept = refl };
      room = λ h. omega arith;
      empty = λ h. absurd (true≢false h);
      more = λ h. absurd (true≢false (sym h));
      done = λ h. refl;
      held = λ h. h;
      spent = λ h. (refl, refl);
    })

pub sound_start : (size first : ℕ) (s : Writer) → writer_start_call size first ≡ start.Started s → writer_sound s ≡ true
sound_start size first s e =
    let b = begun_at size first s e in
    subst (λ (v : Writer). writer_sound v ≡ true) (sym b.1) (sound_fresh size first b.0)

-- "The room is a signed number. It is −4 or more": in every sound state, the free ones with them.
pub room_from_minus_four : (s : Writer) → writer_sound s ≡ true → le_z (negsuc 3) (room s) ≡ true
room_from_minus_four s e = room_least s (fits s (sound s e))
