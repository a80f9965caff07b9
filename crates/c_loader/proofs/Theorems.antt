-- Change request 2026-11 through C's slices, by what the five calls return and leave: Volume Information and flags that were made are
-- read again, and what reading and the search tell is so.
-- Assumes nothing.
use mathlib.Core.Path.{◌≡◌, refl, sym, ap, ◌∙◌, subst}
use mathlib.Core.Bool.{Bool, true, false, cond}
use mathlib.Core.List.{List, [], ◌∷◌}
use Prim.Native.Nat.{ℕ, ◌+◌, ◌^◌, ◌≤◌, ◌<◌}
use native.Mathlib.Omega.{arith}
use borrow.Author.Tests.{eq-eqb, eqb-true}
use lib.Dec.{eqb}
use lib.ListN.{length}
use Rattle.numbers.specs.Numbers.{number_at, in_bytes, field}
use Rattle.answer.specs.Answer.{Told}
use Rattle.answer.specs.Answer.{numbers_told, refusal_told}
use Rattle.volume.specs.Information.{VolumeAnswer}
use Rattle.volume.specs.Information.{fields_of, length_and_thickness, thickness, make_refusal, read_refusal, answer_of, told, refusal_of, Makes, Reads}
use Rattle.volume.proofs.InformationLaws.{make_kept, none_refused, thickness_most, type_told}
use Rattle.volume.proofs.Theorems.{volume_returned, volume_only_made}
use Rattle.alert.specs.Flags.{AlertAnswer}
use Rattle.alert.specs.Flags as flags
use Rattle.alert.proofs.FlagLaws.{counted_so, raised_most, lowest_most}
use Rattle.alert.proofs.Theorems.{alert_returned}
use Rattle.radio.specs.Search.{RadioAnswer}
use Rattle.radio.specs.Search.{Found, Nothing, Refused}
use Rattle.radio.specs.Search as radio
use Rattle.radio.specs.Search.{MessageAt, First}
use Rattle.radio.proofs.SearchLaws.{find_first, never_refused}
use Rattle.radio.proofs.Theorems.{radio_first}
use Rattle.slices.specs.Call.{Left, answer_length, answer_kept, Tells}
use Rattle.slices.proofs.Calls.{let_through, Leaves, leaves, seen}
use Rattle.c_loader.specs.Calls.{dds_volume_make, volume_made, dds_volume_read, fields_read, dds_alert_make, alert_made, dds_alert_read, dds_radio_find}
use Rattle.c_loader.specs.Seen.{outcome_seen, raised_seen, lowest_seen, high_seen, low_seen, pattern_seen, length_at_seen, FirstSeen}

-- What making and reading were let through to, whatever they answer; and one that returns 0 was let through.
module _ (fields volume answer : List ℕ) (m : Left) (e : m ≡ dds_volume_make fields volume answer) where
  made : answer_kept answer ≡ true
      → Makes fields volume (answer_of (make_refusal fields (length volume)) fields) (volume_made m) × Tells (told (answer_of (make_refusal fields (length volume)) fields)) m.refusal m.answer
  unfolding dds_volume_make
  made kept = let l = leaves _ _ _ answer e kept in (record { answer = refl; volume_left = l.slices 0 }, record { returns = l.returns; numbers = l.numbers })

  make_through : m.refusal ≡ 0 → answer_kept answer ≡ true
  unfolding dds_volume_make
  make_through zero = let_through _ _ _ _ answer e zero

module _ (volume fields answer : List ℕ) (r : Left) (e : r ≡ dds_volume_read volume fields answer) where
  read : answer_kept answer ≡ true
      → Reads volume fields (answer_of (read_refusal volume (length fields)) (fields_of volume)) (fields_read r) × Tells (told (answer_of (read_refusal volume (length fields)) (fields_of volume))) r.refusal r.answer
  unfolding dds_volume_read
  read kept = let l = leaves _ _ _ answer e kept in (record { answer = refl; fields_left = l.slices 0 }, record { returns = l.returns; numbers = l.numbers })

  read_through : r.refusal ≡ 0 → answer_kept answer ≡ true
  unfolding dds_volume_read
  read_through zero = let_through _ _ _ _ answer e zero

-- "the two thickness bits say Type A for 00 and Type B for 01": where making returned 0, the outcome is those two bits.
pub c_volume_type : (fields volume answer : List ℕ) (m : Left) → m ≡ dds_volume_make fields volume answer → m.refusal ≡ 0
    → outcome_seen m ≡ thickness (length_and_thickness fields)
c_volume_type fields volume answer m e zero =
    let w = made fields volume answer m e (make_through fields volume answer m e zero) in
    let none = none_refused (make_refusal fields (length volume)) fields _ refl (sym w.1.returns ∙ zero) in
    let k = (make_kept fields (length volume) none).bytes in
    let bits = type_told (make_refusal fields (length volume)) fields none k in
    let few = thickness_most (length_and_thickness fields) _ k in
    seen m (0 ∷ 0 ∷ thickness (length_and_thickness fields) ∷ 0 ∷ 0 ∷ 0 ∷ []) (w.1.numbers ∙ ap (λ (t : Told). in_bytes (numbers_told t)) bits) 2 (omega arith) (omega arith)

-- Where making returned 0, reading its volume with slices of their lengths returns 0, gives back the fields and tells the same type.
pub c_volume_returned : (fields volume answer : List ℕ) (m : Left) → m ≡ dds_volume_make fields volume answer → m.refusal ≡ 0
    → (fields' answer' : List ℕ) → length fields' ≡ 37 → length answer' ≡ answer_length
    → (r : Left) → r ≡ dds_volume_read (volume_made m) fields' answer'
    → (r.refusal ≡ 0) × ((fields_read r ≡ fields) × (outcome_seen r ≡ thickness (length_and_thickness fields)))
c_volume_returned fields volume answer m e zero fields' answer' l a r f =
    let w = made fields volume answer m e (make_through fields volume answer m e zero) in
    let v = read (volume_made m) fields' answer' r f (eq-eqb (length answer') answer_length a) in
    let z = sym w.1.returns ∙ zero in
    let back = volume_returned fields volume (volume_made m) _ w.0 z fields' l _ (fields_read r) v.0 in
    let same : r.answer ≡ m.answer = v.1.numbers ∙ ap (λ (b : VolumeAnswer). in_bytes (numbers_told (told b))) back.0 ∙ sym w.1.numbers in
    (v.1.returns ∙ ap refusal_of back.0 ∙ z, (back.1, ap (λ (x : List ℕ). field x 2) same ∙ c_volume_type fields volume answer m e zero))

-- Where reading returned 0, making from the fields that it left returns 0, gives that very volume and tells the same type.
pub c_volume_only_made : (volume fields answer : List ℕ) (r : Left) → r ≡ dds_volume_read volume fields answer → r.refusal ≡ 0
    → (volume' answer' : List ℕ) → length volume' ≡ 72 → length answer' ≡ answer_length
    → (m : Left) → m ≡ dds_volume_make (fields_read r) volume' answer' → (m.refusal ≡ 0) × ((volume_made m ≡ volume) × (outcome_seen m ≡ outcome_seen r))
c_volume_only_made volume fields answer r e zero volume' answer' l a m f =
    let v = read volume fields answer r e (read_through volume fields answer r e zero) in
    let w = made (fields_read r) volume' answer' m f (eq-eqb (length answer') answer_length a) in
    let z = sym v.1.returns ∙ zero in
    let back = volume_only_made volume fields (fields_read r) _ v.0 z volume' l _ (volume_made m) w.0 in
    let same : m.answer ≡ r.answer = w.1.numbers ∙ ap (λ (b : VolumeAnswer). in_bytes (numbers_told (told b))) back.0 ∙ sym v.1.numbers in
    (w.1.returns ∙ ap refusal_of back.0 ∙ z, (back.1, ap (λ (x : List ℕ). field x 2) same))

-- "Answer the number of raised flags and the lowest raised one, or none": so of eight bytes that are read.
pub c_alert_counted : (alert answer : List ℕ) → length alert ≡ 8 → length answer ≡ answer_length → (r : Left) → r ≡ dds_alert_read alert answer
    → (r.refusal ≡ 0) × flags.Says alert (raised_seen r) (lowest_seen r)
unfolding dds_alert_read flags.read_call
c_alert_counted alert answer long h r e =
    let l = leaves _ [] [] answer (rw (eq-eqb (length alert) 8 long) at e) (eq-eqb (length answer) answer_length h) in
    let ns : List ℕ = 0 ∷ 0 ∷ flags.raised_count alert ∷ flags.lowest_raised alert ∷ number_at 4 alert 0 ∷ number_at 4 alert 4 ∷ [] in
    let count : raised_seen r ≡ flags.raised_count alert = seen r ns l.numbers 2 (omega arith) (omega (arith, raised_most alert)) in
    let lowest : lowest_seen r ≡ flags.lowest_raised alert = seen r ns l.numbers 3 (omega arith) (omega (arith, lowest_most alert)) in
    (l.returns, rw (count, lowest) (counted_so alert))

-- Making the flags' bytes is accepted where the slice is eight bytes, and nowhere else.
module _ (high low n : ℕ) where
  counted : n ≡ 8 → flags.make_call high low n ≡ flags.counted_in (flags.alert_of high low) high low
  unfolding flags.make_call
  counted e = rw (eq-eqb n 8 e)

  eight : refusal_told (flags.told (flags.make_call high low n)) ≡ 0 → n ≡ 8
  unfolding flags.make_call
  eight = by (eqb n 8) refl
    where
      by : (b : Bool) → eqb n 8 ≡ b → refusal_told (flags.told (cond b (flags.counted_in (flags.alert_of high low) high low) (flags.Refused 60))) ≡ 0 → n ≡ 8
      by true e z = eqb-true n 8 e
      by false e z = absurd (omega arith)

-- Where making returned 0, reading its bytes returns 0 and tells the same six numbers, the flags that were made with them.
pub c_alert_returned : (high low : ℕ) (alert answer : List ℕ) → high < 256 ^ 4 → low < 256 ^ 4 → (m : Left) → m ≡ dds_alert_make high low alert answer → m.refusal ≡ 0
    → (answer' : List ℕ) → length answer' ≡ answer_length → (r : Left) → r ≡ dds_alert_read (alert_made m) answer'
    → (r.refusal ≡ 0) × ((r.answer ≡ m.answer) × ((high_seen r ≡ high) × (low_seen r ≡ low)))
unfolding dds_alert_make dds_alert_read
c_alert_returned high low alert answer hh hl m e zero answer' h r f =
    let t = leaves _ _ _ answer e (let_through _ _ _ _ answer e zero) in
    let long = eight high low (length alert) (sym t.returns ∙ zero) in
    let l = leaves _ [] [] answer' f (eq-eqb (length answer') answer_length h) in
    let back = alert_returned high low alert (flags.make_call high low (length alert)) (alert_made m) hh hl long (record { answer = refl; alert_left = t.slices 0 }) in
    let a = back ∙ counted high low (length alert) long in
    let same : r.answer ≡ m.answer = l.numbers ∙ ap (λ (x : AlertAnswer). in_bytes (numbers_told (flags.told x))) back ∙ sym t.numbers in
    let ns : List ℕ = 0 ∷ 0 ∷ flags.raised_count (flags.alert_of high low) ∷ flags.lowest_raised (flags.alert_of high low) ∷ high ∷ low ∷ [] in
    let is : r.answer ≡ in_bytes ns = l.numbers ∙ ap (λ (x : AlertAnswer). in_bytes (numbers_told (flags.told x))) a in (
      l.returns ∙ ap (λ (x : AlertAnswer). refusal_told (flags.told x)) a,
      (same, (seen r ns is 4 (omega arith) hh, seen r ns is 5 (omega arith) hl)),
    )

not_one : ◌≡◌ {A = ℕ} 0 1 → ⊥
not_one e = omega arith

nothing_found : {place at : ℕ} → Nothing ≡ Found place at → ⊥
nothing_found e = let z : ◌≡◌ {A = ℕ} 0 1 = cc in omega arith

-- "find, in received bytes, the first place where the pattern 00 B2 4D follows at least two zero bytes, and where the length byte stands,
-- or that none does".
pub c_radio_first : (received answer : List ℕ) → length received ≤ 4294967295 → length answer ≡ answer_length → (o : Left) → o ≡ dds_radio_find received answer
    → FirstSeen received o
unfolding dds_radio_find
c_radio_first received answer short h o e =
    by (radio.find_call received) refl (radio_first received (radio.find_call received) short refl) (leaves _ [] [] answer e (eq-eqb (length answer) answer_length h))
  where
    by : (a : RadioAnswer) → radio.find_call received ≡ a → First received a → Leaves (radio.told a) [] [] o → FirstSeen received o
    by (Found place at) f g l =
        let m = g.begins place at refl in
        let behind = g.length_at place at refl in
        let ns : List ℕ = 0 ∷ 0 ∷ 1 ∷ place ∷ at ∷ 0 ∷ [] in
        let outcome : outcome_seen o ≡ 1 = seen o ns l.numbers 2 (omega arith) (omega arith) in
        let p : pattern_seen o ≡ place = seen o ns l.numbers 3 (omega arith) (omega (arith, m.length_byte)) in
        let q : length_at_seen o ≡ at = seen o ns l.numbers 4 (omega arith) (omega (arith, m.length_byte)) in
        record {
          returns = l.returns;
          begins = λ x. subst (MessageAt received) (sym p) m;
          length_at = λ x. q ∙ behind ∙ ap (λ (k : ℕ). k + 3) (sym p);
          least = λ x earlier less. g.least place at refl earlier (subst (λ (k : ℕ). earlier < k) p less);
          found = λ other n. outcome;
          nowhere = λ n. absurd (n place m);
        }
    by Nothing f g l =
        let outcome : outcome_seen o ≡ 0 = seen o (0 ∷ 0 ∷ 0 ∷ 0 ∷ 0 ∷ 0 ∷ []) l.numbers 2 (omega arith) (omega arith) in
        record {
          returns = l.returns;
          begins = λ x. absurd (not_one (sym outcome ∙ x));
          length_at = λ x. absurd (not_one (sym outcome ∙ x));
          least = λ x. absurd (not_one (sym outcome ∙ x));
          found = λ place m. absurd (nothing_found (g.found place m).1);
          nowhere = λ n. outcome;
        }
    by (Refused refusal) f g l = absurd (never_refused received refusal (find_first received short ∙ f))
