-- The theorems of the header's sentences on offering again, over any caller that does as they say.
-- Assumes nothing.
use Prim.Native.Nat.{ℕ, ◌+◌, ◌-◌, ◌*◌, ◌≤◌, ◌<◌}
use native.Mathlib.Omega.{arith}
use mathlib.Core.List.{List}
use mathlib.Core.Path.{◌≡◌, refl, sym, ap, ◌∙◌, subst}
use mathlib.Core.Bool.{Bool, true}
use lib.ListN.{length, drop, length-drop}
use Rattle.answer.specs.Answer.{accepted, refusal_told}
use Rattle.group.specs.Sizes.{least_size, last_number}
use Rattle.laying.specs.declared.Writer.{Writer}
use Rattle.laying.specs.Laying.{Desk, desk}
use Rattle.sound.specs.State.{writer_sound}
use Rattle.sound.proofs.Accepted.{record_accepted_lem, separator_accepted_lem}
use Rattle.writer.specs.WriteAnswer.{WriteAnswer}
use Rattle.writer.specs.WriteAnswer.{Closed}
use Rattle.writer.specs.Calls.{Call, a_record, a_separator, refusal_of, call, told, state_of}
use Rattle.writer.specs.Offers.{least_taken, GetsOn, Offers, at_first, again}
use Rattle.writer.proofs.GetsOn.{Shut, Closing, closing, record_gets_on, separator_at_once, left_accepted, laid_again, few, no_more}
use Rattle.writer.proofs.Theorems.{refusal_told_lem, sound_after}

-- "Offering again always gets on: no call closes an empty group." A group that is closed holds an entry beside its skip,
pub none_empty : (c : Call) (w : Desk) (s : Writer) (number entries taken : ℕ) → (call c w).answer ≡ Closed s number entries taken → 2 ≤ entries
none_empty c w s number entries taken e =
    let h : Shut w.state s number entries = subst (Closing w.state) e (closing c w) in
    h.some

-- .. a record that a group with no entry accepts is finished, or has bytes taken,
pub gets_on : (bytes : List ℕ) (warn : Bool) (w : Desk) → refusal_told (told (call (a_record bytes warn) w).answer) ≡ 0 → w.state.entries ≡ 0 →
    GetsOn w.state.size (length bytes) (call (a_record bytes warn) w).answer
unfolding call refusal_of
gets_on bytes warn w e none = record_gets_on bytes warn w (sym (refusal_told_lem (a_record bytes warn) w) ∙ e) none

-- .. and a separator that it accepts is laid.
pub separator_gets_on : (value : ℕ) (warn : Bool) (w : Desk) → refusal_told (told (call (a_separator value warn) w).answer) ≡ 0 → w.state.entries ≡ 0 →
    told (call (a_separator value warn) w).answer ≡ accepted
unfolding call refusal_of
separator_gets_on value warn w e none = separator_at_once value warn w (sym (refusal_told_lem (a_separator value warn) w) ∙ e) none

-- A call that closed was not refused, and the state that it left is sound.
was_accepted : (c : Call) (w : Desk) (s : Writer) (number entries taken : ℕ) → (call c w).answer ≡ Closed s number entries taken → refusal_of c w ≡ 0
was_accepted c w s number entries taken e = sym (refusal_told_lem c w) ∙ ap (λ (a : WriteAnswer). refusal_told (told a)) e

sound_closed : (c : Call) (w : Desk) (s : Writer) (number entries taken : ℕ) → (call c w).answer ≡ Closed s number entries taken → writer_sound s ≡ true
unfolding state_of
sound_closed c w s number entries taken e =
    subst (λ (a : WriteAnswer). refusal_told (told a) ≡ 0 → writer_sound (state_of a) ≡ true) e (sound_after c w) refl

-- "Offer again what is left": it is accepted in any buffer of L bytes, while a number remains,
pub again_accepted : (bytes : List ℕ) (warn later : Bool) (w : Desk) (s : Writer) (number entries taken : ℕ) (g : List ℕ) →
    (call (a_record bytes warn) w).answer ≡ Closed s number entries taken → taken < length bytes → length g ≡ w.state.size → number < last_number →
    refusal_told (told (call (a_record (drop taken bytes) later) (desk s g)).answer) ≡ 0
unfolding call refusal_of
again_accepted bytes warn later w s number entries taken g e less long remains =
    let o = record_accepted_lem w.state w.group (length bytes) (was_accepted (a_record bytes warn) w s number entries taken e) in
    let n = length-drop taken bytes in
    let sound = sound_closed (a_record bytes warn) w s number entries taken e in
    refusal_told_lem (a_record (drop taken bytes) later) (desk s g)
    ∙ left_accepted w s number entries taken (length g) sound long remains bytes warn (length (drop taken bytes)) e (omega arith) (omega (arith, o.most)) n

-- .. and a separator: "It was not laid. Offer it again." Then it is laid.
pub again_laid : (value : ℕ) (warn later : Bool) (w : Desk) (s : Writer) (number entries taken : ℕ) (g : List ℕ) →
    (call (a_separator value warn) w).answer ≡ Closed s number entries taken → length g ≡ w.state.size → number < last_number →
    told (call (a_separator value later) (desk s g)).answer ≡ accepted
unfolding call refusal_of
again_laid value warn later w s number entries taken g e long remains =
    let a = separator_accepted_lem w.state w.group value (was_accepted (a_separator value warn) w s number entries taken e) in
    let sound = sound_closed (a_separator value warn) w s number entries taken e in
    let h : Shut w.state s number entries = subst (Closing w.state) e (closing (a_separator value warn) w) in
    separator_at_once value later (desk s g) (laid_again w s number entries taken (length g) sound long remains value warn e a.small) h.none

-- What stands after so many calls that left bytes.
record Fewer (w : Desk) (bytes : List ℕ) (calls : ℕ) (v : Desk) (left : List ℕ) : Type 0 where
  size : v.state.size ≡ w.state.size
  empty : 1 ≤ calls → v.state.entries ≡ 0
  low : 1 ≤ calls → least_size ≤ w.state.size
  some : 1 ≤ calls → 1 ≤ length left
  fewer : (calls - 1) * least_taken w.state.size + length left ≤ length bytes

offered : {w : Desk} {bytes : List ℕ} {v : Desk} {left : List ℕ} {calls : ℕ} → Offers w bytes calls v left → Fewer w bytes calls v left
unfolding call refusal_of
offered at_first = record { size = refl; empty = λ h. absurd (omega arith); low = λ h. absurd (omega arith); some = λ h. absurd (omega arith); fewer = omega arith }
offered {w} {bytes} (again {calls} {v} {left} {s} {number} {entries} {taken} warn g x e less) =
    let f = offered x in
    let none = was_accepted (a_record left warn) v s number entries taken e in
    let o = record_accepted_lem v.state v.group (length left) none in
    let h : Shut v.state s number entries = subst (Closing v.state) e (closing (a_record left warn) v) in
    let on : v.state.entries ≡ 0 → GetsOn v.state.size (length left) (Closed s number entries taken) =
    λ z. subst (GetsOn v.state.size (length left)) e (record_gets_on left warn v none z) in
    let n = length-drop taken left in
    record {
      size = h.size ∙ f.size;
      empty = λ k. h.none;
      low = λ k. omega (arith, o.accepted.sound.run.least, f.size);
      some = λ k. omega (arith, n);
      fewer =
          few calls (least_taken w.state.size) (length left) taken (length (drop taken left)) (length bytes) f.fewer less n
          (λ k. subst (λ (size : ℕ). least_taken size ≤ taken) f.size ((on (f.empty k)).1 less));
    }

-- A caller that offers again what is left comes to an end: each call but the first takes L − 44 bytes or more where it leaves any,
pub offers_end : (w v : Desk) (bytes left : List ℕ) (calls : ℕ) → Offers w bytes calls v left →
    (calls - 1) * least_taken w.state.size + length left ≤ length bytes
offers_end w v bytes left calls x = (offered x).fewer

-- .. so a record of n bytes is finished, or all taken, by n + 1 calls at most.
pub offers_few : (w v : Desk) (bytes left : List ℕ) (calls : ℕ) → Offers w bytes calls v left → calls ≤ length bytes
offers_few w v bytes left calls x = no_more calls w.state.size (length left) (length bytes) (offered x).low (offered x).some (offered x).fewer
