-- No proper call is refused while a number remains: what is kept between the calls of a run, and each chain of refusals passed.
-- Assumes nothing.
use Prim.Native.Nat.{ℕ, ◌+◌, ◌-◌, ◌≤◌}
use native.Mathlib.Omega.{arith}
use mathlib.Core.List.{List}
use mathlib.Core.Bool.{Bool, true, false, cond, not, true≢false}
use mathlib.Core.Path.{◌≡◌, refl, sym, ap, ◌∙◌, subst}
use lib.ListN.{length, length-append, take, drop, length-drop}
use lib.Seq.{length-take-le}
use borrow.Author.Tests.{eq-eqb, le-leb}
use Rattle.group.specs.declared.Kind.TheVariants as kind
use Rattle.group.specs.declared.Phase.{Phase}
use Rattle.group.specs.declared.Phase.TheVariants.{Free, Inside, Owed}
use Rattle.group.specs.Sizes.{information_length, longest_record, last_number, record_kept}
use Rattle.numbers.proofs.Tests.{is_within}
use Rattle.laying.specs.declared.Writer.{Writer}
use Rattle.writer.specs.WriteAnswer.{WriteAnswer}
use Rattle.writer.specs.WriteAnswer.{Finished, Closed, Refused}
use Rattle.sound.specs.State.{writer_sound, is_inside, is_owed, length_kept, offer_kept, none_open_kept, end_remains_kept, record_refusal, separator_refusal, end_refusal}
use Rattle.laying.specs.Laying.{Desk, desk, lay_entry, lay_data, lay_part, moved, lay_skip, zero_gap, shut, warn_state, pay_owed, ready}
use Rattle.laying.specs.Start.{fresh_state}
use Rattle.laying.proofs.Starts.{begun_at}
use Rattle.answer.specs.Answer.{refusal_told}
use Rattle.writer.specs.Calls.{Call, Done, call, told, state_of, refusal_of, finished, closed, record_accepted, record_call, separator_call, end_call}
use Rattle.writer.specs.Calls.Call.{a_record, a_separator, an_end}
use Rattle.sound.proofs.SoundLaws.{Sound, sound}
use Rattle.sound.proofs.Accepted.{Ended, separator_accepted_lem, end_accepted_lem}
use Rattle.writer.proofs.CallLaws.{RecordedFree, recorded_free, RecordedInside, recorded_inside, SeparatorLaid, separator_laid, EndLaid, end_laid}
use Rattle.writer.proofs.Theorems.{sound_start, sound_after, length_stays}
use Rattle.layout.specs.Layout.{Image}
use Rattle.layout.specs.Writing.{Account, in_hand, after_record, noted, AsAsked, Wrote}
use Rattle.layout.proofs.Accounts.{as_given, as_came}
use Rattle.twice.proofs.Paid.{paid_size, paid_free, guarded}
use Rattle.twice.specs.Taking.{Proper}

no : {A : Type 0} → Free ≡ Inside → A
no e = let z : ◌≡◌ {A = ℕ} 0 1 = cc in absurd (omega arith)

no_owed : {A : Type 0} → Owed ≡ Inside → A
no_owed e = let z : ◌≡◌ {A = ℕ} 0 1 = cc in absurd (omega arith)

-- What an answer leaves of an offer.
data Next (size : ℕ) (note : WriteAnswer → Account) : WriteAnswer → Type 0 where
  to_finished : {s : Writer} → s.size ≡ size → (s.phase ≡ Inside → ⊥) → Next size note (Finished s)
  to_closed : {s : Writer} {number entries taken : ℕ} → s.size ≡ size → (s.phase ≡ Inside → s.rest ≡ length (note (Closed s number entries taken)).asked) → Next size note (Closed s number entries taken)
  to_refused : {s : Writer} {refusal : ℕ} → Next size note (Refused s refusal)

of_finished : {size : ℕ} {note : WriteAnswer → Account} {s : Writer} → Next size note (Finished s) → (s.size ≡ size) × (s.phase ≡ Inside → ⊥)
of_finished (to_finished e h) = (e, h)

of_closed : {size : ℕ} {note : WriteAnswer → Account} {s : Writer} {number entries taken : ℕ} → Next size note (Closed s number entries taken) →
    (s.size ≡ size) × (s.phase ≡ Inside → s.rest ≡ length (note (Closed s number entries taken)).asked)
of_closed (to_closed e h) = (e, h)

closed_next : {size : ℕ} {note : WriteAnswer → Account} (taken : ℕ) (v : Desk) → v.state.size ≡ size →
    (v.state.phase ≡ Inside → v.state.rest ≡ length (note (closed taken v).answer).asked) → Next size note (closed taken v).answer
unfolding closed shut zero_gap lay_skip lay_entry
closed_next taken v e h = to_closed e h

finished_next : {size : ℕ} {note : WriteAnswer → Account} (v : Desk) → v.state.size ≡ size → (v.state.phase ≡ Inside → ⊥) → Next size note (finished v).answer
unfolding finished
finished_next v e h = to_finished e h

free_next : {size : ℕ} (a : Account) (bytes : List ℕ) (v : Desk) {d : Done} → v.state.size ≡ size → v.state.phase ≡ Free → a.asked ≡ bytes → RecordedFree bytes v d → Next size (λ o. after_record o a) d.answer
unfolding lay_part lay_data lay_entry moved after_record closed
free_next a bytes v e p q (RecordedFree.entire h) = finished_next (lay_part kind.Entire bytes v) e (λ i. no (sym p ∙ i))
free_next a bytes v e p q (RecordedFree.start r some less h) =
    closed_next r (moved Inside r (length bytes - r) (lay_part kind.Start (take r bytes) v)) e (λ i. sym (ap (λ (l : List ℕ). length (drop r l)) q ∙ length-drop r bytes))
free_next a bytes v e p q (RecordedFree.nothing h) = closed_next 0 v e (λ i. no (sym p ∙ i))

inside_next : {size : ℕ} (a : Account) (bytes : List ℕ) (v : Desk) {d : Done} → v.state.size ≡ size → a.asked ≡ bytes → RecordedInside bytes v d → Next size (λ o. after_record o a) d.answer
unfolding lay_part lay_data lay_entry moved after_record closed
inside_next a bytes v e q (RecordedInside.part n f less) =
    closed_next n (moved Inside (v.state.sum + n) (length bytes - n) (lay_part kind.Middle (take n bytes) v)) e (λ i. sym (ap (λ (l : List ℕ). length (drop n l)) q ∙ length-drop n bytes))
inside_next a bytes v e q (RecordedInside.total h) = finished_next (moved Free 0 0 (lay_entry kind.Total (v.state.sum + length bytes) (lay_part kind.Last bytes v))) e no
inside_next a bytes v e q (RecordedInside.owed h k) = closed_next (length bytes) (moved Owed (v.state.sum + length bytes) 0 (lay_part kind.Last bytes v)) e no_owed

record_next : (bytes : List ℕ) (warn : Bool) (w : Desk) (a : Account) → AsAsked (a_record bytes warn) w.state.phase a →
    Next w.state.size (λ o. noted (a_record bytes warn) w.state.phase o a) (record_accepted w.state.phase bytes (ready warn w)).answer
unfolding record_accepted ready noted in_hand
record_next bytes warn w a = by w.state.phase refl
  where
    by : (p : Phase) → w.state.phase ≡ p → AsAsked (a_record bytes warn) p a →
        Next w.state.size (λ o. after_record o (in_hand p bytes a)) (record_accepted p bytes (pay_owed p (desk (warn_state warn w.state) w.group))).answer
    by Free e q = free_next _ bytes _ (paid_size w.state w.group warn Free) (paid_free w.state w.group warn Free e refl) refl (recorded_free bytes _)
    by Inside e q = inside_next a bytes _ (paid_size w.state w.group warn Inside) (sym q) (recorded_inside bytes _)
    by Owed e q = free_next _ bytes _ (paid_size w.state w.group warn Owed) (paid_free w.state w.group warn Owed e refl) refl (recorded_free bytes _)

separator_next : {size : ℕ} {note : WriteAnswer → Account} (value : ℕ) (v : Desk) {d : Done} → v.state.size ≡ size → v.state.phase ≡ Free → SeparatorLaid value v d → Next size note d.answer
unfolding lay_entry
separator_next value v e p (SeparatorLaid.laid h) = finished_next (lay_entry kind.Separator value v) e (λ i. no (sym p ∙ i))
separator_next value v e p (SeparatorLaid.not_laid h) = closed_next 0 v e (λ i. no (sym p ∙ i))

not_inside : (p : Phase) → is_inside p ≡ false → p ≡ Inside → ⊥
not_inside p n e = true≢false (sym (ap is_inside e) ∙ n)

next : (c : Call) (w : Desk) (a : Account) → AsAsked c w.state.phase a → Next w.state.size (λ o. noted c w.state.phase o a) (call c w).answer
unfolding call record_call separator_call end_call ready
next (a_record bytes warn) w a q = guarded (λ (d : Done). Next w.state.size (λ o. noted (a_record bytes warn) w.state.phase o a) d.answer) _ w _ to_refused (λ e. record_next bytes warn w a q)
next (a_separator value warn) w a q =
    guarded (λ (d : Done). Next w.state.size (λ o. noted (a_separator value warn) w.state.phase o a) d.answer) _ w _ to_refused (λ e. separator_next value _ (paid_size w.state w.group warn w.state.phase) (paid_free w.state w.group warn w.state.phase refl (separator_accepted_lem w.state w.group value e).shut) (separator_laid value _))
next (an_end warn) w a q = guarded (λ (d : Done). Next w.state.size (λ o. noted (an_end warn) w.state.phase o a) d.answer) _ w _ to_refused (λ e. by (end_accepted_lem w.state w.group e) (end_laid warn w))
  where
    by : {d : Done} → Ended w.state w.group → EndLaid warn w d → Next w.state.size (λ o. noted (an_end warn) w.state.phase o a) d.answer
    by o (EndLaid.ends_nothing e) = finished_next w refl (not_inside w.state.phase o.shut)
    by o (EndLaid.ends_group e) =
        closed_next 0 _ (paid_size w.state w.group warn w.state.phase) (λ i. no (sym (paid_free w.state w.group warn w.state.phase refl o.shut) ∙ i))

-- What is kept between calls.
record Kept (size : ℕ) (w : Desk) (a : Account) : Type 0 where
  sized : w.state.size ≡ size
  long : length w.group ≡ size
  fine : writer_sound w.state ≡ true
  rest : w.state.phase ≡ Inside → w.state.rest ≡ length a.asked

sound_then : (c : Call) (w : Desk) (o : WriteAnswer) → (call c w).answer ≡ o → refusal_told (told o) ≡ 0 → writer_sound (state_of o) ≡ true
sound_then c w o e z = subst (λ (x : WriteAnswer). writer_sound (state_of x) ≡ true) e (sound_after c w (ap (λ (x : WriteAnswer). refusal_told (told x)) e ∙ z))

kept : {size first : ℕ} {w : Desk} {run : List Image} {closed now : Account} → Wrote size first w run closed now → Kept size w now
unfolding state_of
kept {size} {first} (Wrote.begins {s} e l) =
    let f : fresh_state size first ≡ s = sym (begun_at size first s e).1 in
    record { sized = sym (ap (λ (x : Writer). x.size) f); long = l; fine = sound_start _ _ s e; rest = λ i. no (ap (λ (x : Writer). x.phase) f ∙ i) }
kept (Wrote.goes_on {w} {s} {now = now} c x q e) =
    let k = kept x in
    let n = of_finished (subst (Next w.state.size (λ o. noted c w.state.phase o now)) e (next c w now q)) in
    record { sized = n.0 ∙ k.sized; long = length_stays c w ∙ k.long; fine = sound_then c w (Finished s) e refl; rest = λ i. absurd (n.1 i) }
kept (Wrote.closes {w} {s} {number} {entries} {taken} {now = now} c information g x q e i l) =
    let k = kept x in
    let n = of_closed (subst (Next w.state.size (λ o. noted c w.state.phase o now)) e (next c w now q)) in
    record { sized = n.0 ∙ k.sized; long = l; fine = sound_then c w (Closed s number entries taken) e refl; rest = n.1 }
kept {size} {now = now} (Wrote.refused {w} {s} {refusal} c lent x e) =
    subst (λ (t : Writer). Kept size (desk t w.group) now) (as_came (desk w.state lent) _ _ s refusal (as_given c (desk w.state lent)) e) (kept x)
kept (Wrote.changed {w} information x i) =
    let k = kept x in
    let l = (sound w.state k.fine).run.least in
    let t : length (take (length w.group - information_length) w.group) ≡ length w.group - information_length = length-take-le (length w.group - information_length) w.group (omega arith) in
    record { sized = k.sized; long = simp length-append (omega (arith, t, k.long, k.sized)); fine = k.fine; rest = k.rest }

-- The chains.
record_let : (s : Writer) (len n : ℕ) → writer_sound s ≡ true → len ≡ s.size → s.next ≤ 65535 → 1 ≤ n → n ≤ 16777215 → offer_kept s n ≡ true → record_refusal s len n ≡ 0
unfolding record_refusal
record_let s len n a b c d e f =
    let r : record_kept n ≡ true = is_within {low = 1} {n = n} {high = longest_record} d e in
    rw (a, eq-eqb len s.size b, le-leb s.next last_number c, r, f)

separator_let : (s : Writer) (len value : ℕ) → writer_sound s ≡ true → len ≡ s.size → s.next ≤ 65535 → is_inside s.phase ≡ false → value ≤ 1 → separator_refusal s len value ≡ 0
unfolding separator_refusal
separator_let s len value a b c d e = rw (a, eq-eqb len s.size b, le-leb s.next last_number c, d, le-leb value 1 e)

end_let : (s : Writer) (len : ℕ) → writer_sound s ≡ true → len ≡ s.size → s.next ≤ 65535 → is_inside s.phase ≡ false → end_refusal s len ≡ 0
unfolding end_refusal
end_let s len a b c d = by (is_owed s.phase) refl
  where
    by : (o : Bool) → is_owed s.phase ≡ o → cond {A = ℕ} (not (writer_sound s)) 1 (cond (not (length_kept s len)) 4 (cond (not (none_open_kept s)) 17 (cond (not (end_remains_kept s)) 14 0))) ≡ 0
    by true e = rw (a, eq-eqb len s.size b, d, e, le-leb s.next last_number c)
    by false e = rw (a, eq-eqb len s.size b, d, e)

offer_free : (s : Writer) (n : ℕ) → is_inside s.phase ≡ false → offer_kept s n ≡ true
offer_free s n e = rw e

offer_rest : (s : Writer) (n : ℕ) → n ≡ s.rest → is_inside s.phase ≡ true → offer_kept s n ≡ true
offer_rest s n e f = rw (f, eq-eqb n s.rest e)

-- Every call.
pub takes : {size first : ℕ} {w : Desk} {run : List Image} {closed now : Account} (c : Call) → Wrote size first w run closed now → w.state.next ≤ 65535 → Proper c w.state.phase now → refusal_of c w ≡ 0
unfolding refusal_of
takes {w = w} {now = now} (a_record bytes warn) x n = by w.state.phase refl
  where
    t : Sound w.state
    t = sound w.state (kept x).fine

    by : (p : Phase) → w.state.phase ≡ p → Proper (a_record bytes warn) p now → record_refusal w.state (length w.group) (length bytes) ≡ 0
    by Free e q = record_let w.state (length w.group) (length bytes) (kept x).fine ((kept x).long ∙ sym (kept x).sized) n q.0 q.1 (offer_free w.state (length bytes) (ap is_inside e))
    by Inside e q =
        let r : length bytes ≡ w.state.rest = ap length q ∙ sym ((kept x).rest e) in
        let m = t.more (ap is_inside e) in
        record_let w.state (length w.group) (length bytes) (kept x).fine ((kept x).long ∙ sym (kept x).sized) n (omega (arith, m)) (omega (arith, m)) (offer_rest w.state (length bytes) r (ap is_inside e))
    by Owed e q = record_let w.state (length w.group) (length bytes) (kept x).fine ((kept x).long ∙ sym (kept x).sized) n q.0 q.1 (offer_free w.state (length bytes) (ap is_inside e))
takes {w = w} {now = now} (a_separator value warn) x n = by w.state.phase refl
  where
    by : (p : Phase) → w.state.phase ≡ p → Proper (a_separator value warn) p now → separator_refusal w.state (length w.group) value ≡ 0
    by Free e q = separator_let w.state (length w.group) value (kept x).fine ((kept x).long ∙ sym (kept x).sized) n (ap is_inside e) q
    by Inside e q = absurd q
    by Owed e q = separator_let w.state (length w.group) value (kept x).fine ((kept x).long ∙ sym (kept x).sized) n (ap is_inside e) q
takes {w = w} {now = now} (an_end warn) x n = by w.state.phase refl
  where
    by : (p : Phase) → w.state.phase ≡ p → Proper (an_end warn) p now → end_refusal w.state (length w.group) ≡ 0
    by Free e q = end_let w.state (length w.group) (kept x).fine ((kept x).long ∙ sym (kept x).sized) n (ap is_inside e)
    by Inside e q = absurd q
    by Owed e q = end_let w.state (length w.group) (kept x).fine ((kept x).long ∙ sym (kept x).sized) n (ap is_inside e)
