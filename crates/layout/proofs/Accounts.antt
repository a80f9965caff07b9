-- What each call does to what is held and to the caller's account: the account says what the pieces say.
-- Assumes nothing.
use Prim.Native.Nat.{ℕ, ◌+◌, ◌-◌, ◌≤◌}
use native.Mathlib.Omega.{arith}
use mathlib.Core.List.{List, [], ◌∷◌, ◌++◌, append-nil}
use mathlib.Core.Bool.{Bool, true, false, cond, true≢false}
use mathlib.Core.Path.{◌≡◌, refl, sym, ap, ◌∙◌}
use lib.ListN.{length, take, drop, length-drop}
use lib.Seq.{length-take-le, take-length, drop-length}
use lib.Dec.{eqb}
use borrow.Author.Tests.{eqb-true, le-leb}
use Rattle.group.specs.declared.Kind.TheVariants as kind
use Rattle.group.specs.declared.Phase.{Phase}
use Rattle.group.specs.declared.Phase.TheVariants as phase
use Rattle.group.specs.Sizes.{least_size, standard_size, information_length, longest_record, last_number, most_owing}
use Rattle.numbers.proofs.Tests.{within}
use Rattle.entry.specs.declared.Stand.{Stand}
use Rattle.entry.specs.declared.Stand.TheVariants as stand
use Rattle.entry.specs.Rules.{may_follow, stand_at, phase_after}
use Rattle.laying.specs.declared.Writer.{Writer}
use Rattle.writer.specs.WriteAnswer.{WriteAnswer}
use Rattle.writer.specs.WriteAnswer.{Finished, Closed, Refused}
use Rattle.sound.specs.State.{is_inside, ends_empty}
use Rattle.laying.specs.Room.{middle_length}
use Rattle.laying.specs.Laying.{Desk, desk, lay_entry, lay_data, lay_part, moved, lay_skip, zero_gap, shut, warn_state, pay_owed, ready}
use Rattle.writer.specs.Calls.{Call, Done, call, finished, closed, or_refused, record_accepted, record_call, separator_accepted, separator_call, end_call}
use Rattle.writer.specs.Calls.Call.{a_record, a_separator, an_end}
use Rattle.laying.specs.Bounds.{span}
use Rattle.sound.proofs.SoundLaws.{Sound}
use Rattle.sound.proofs.Accepted.{Offered, Separated, Ended, record_accepted_lem, separator_accepted_lem, end_accepted_lem}
use Rattle.writer.proofs.CallLaws.{RecordedFree, entire, start, nothing, recorded_free, RecordedInside, part, total, owed, recorded_inside, SeparatorLaid, laid, not_laid, separator_laid, EndLaid, ends_nothing, ends_group, end_laid}
use Rattle.layout.specs.Items.{Item, Piece}
use Rattle.layout.specs.Items.Item.{record_item}
use Rattle.layout.specs.Layout.{Image, kind_of, count_of, data_of}
use Rattle.layout.specs.Reading.{items_after, begun_after}
use Rattle.layout.specs.Writing.{Account, total_laid, in_hand, after_record, after_separator, noted, AsAsked, image_of}
use Rattle.layout.proofs.Grammar.{Fits, Ends}
use Rattle.layout.proofs.Held.{Held, held_warn, held_moved, held_entry, held_part, held_shut}

-- What the account has in hand between calls, by the phase: free, no record is begun; inside, bytes of it are asked for; owed,
-- all its bytes were taken.
abbrev pub Hand : Phase → Account → Type 0
Hand phase.Free a = a.begun ≡ []
Hand phase.Inside a = 1 ≤ length a.asked
Hand phase.Owed a = a.asked ≡ []

pub record Kept (size first : ℕ) (w : Desk) (run : List Image) (a : Account) : Type 0 where
  pub sized : w.state.size ≡ size
  pub holds : Held first (stand_at w.state.phase) w.state.sum w run a.finished a.begun
  pub hand : Hand w.state.phase a

-- What holds after an answer and the buffer that is left, where `note` makes the account of the answer.
pub data Said (size first : ℕ) (run : List Image) (note : WriteAnswer → Account) : WriteAnswer → List ℕ → Type 0 where
  refuses : {s : Writer} {refusal : ℕ} {g : List ℕ} → Said size first run note (Refused s refusal) g
  finishes : {s : Writer} {g : List ℕ} → Kept size first (desk s g) run (note (Finished s)) → Said size first run note (Finished s) g
  closes : {s : Writer} {number entries taken : ℕ} {g : List ℕ} → s.entries ≡ 0 →
      ((information h : List ℕ) → length information ≡ information_length → length h ≡ size →
      Kept size first (desk s h) (run ++ (image_of number entries g information ∷ [])) (note (Closed s number entries taken))) →
      Said size first run note (Closed s number entries taken) g

abbrev pub After : ℕ → ℕ → List Image → (WriteAnswer → Account) → Done → Type 0
After size first run note d = Said size first run note d.answer d.group

held_as : {first sum n : ℕ} {at to : Stand} {w : Desk} {run : List Image} {d e : List Item} {b c : List ℕ} → at ≡ to → sum ≡ n → d ≡ e → b ≡ c →
    Held first at sum w run d b → Held first to n w run e c
held_as p q r s h = rw (← p, ← q, ← r, ← s) h

-- A desk that is free, its owed total laid: a call's work begins.
record Ready (first : ℕ) (v : Desk) (run : List Image) (done : List Item) : Type 0 where
  holds : Held first stand.Free 0 v run done []
  phase : v.state.phase ≡ phase.Free
  sum : v.state.sum ≡ 0
  room : span v.state.filled (v.state.entries + 1) ≤ v.state.size
  small : least_size ≤ v.state.size
  large : v.state.size ≤ standard_size
  low : v.state.next ≤ last_number

hand_free : {p : Phase} (a : Account) → p ≡ phase.Free → a.begun ≡ [] → Hand p a
hand_free a e t = rw e t

-- Back at rest, free.
rest_free : {first : ℕ} {v : Desk} {run : List Image} {a : Account} → Held first stand.Free 0 v run a.finished a.begun → v.state.phase ≡ phase.Free → v.state.sum ≡ 0 → a.begun ≡ [] →
    Kept v.state.size first v run a
rest_free {a} h p s t = record { sized = refl; holds = held_as (sym (ap stand_at p)) (sym s) refl refl h; hand = hand_free a p t }

-- A close of a desk whose phase is already set.
after_close : {first : ℕ} {run : List Image} {note : WriteAnswer → Account} {done : List Item} {begun : List ℕ} {at : Stand} {sum : ℕ} (taken : ℕ) (v : Desk) →
    Held first at sum v run done begun → Ends v.state.size at v.state.filled → stand_at (phase_after at) ≡ stand_at v.state.phase → sum ≡ v.state.sum →
    v.state.next ≤ last_number → least_size ≤ v.state.size → span v.state.filled (v.state.entries + 1) ≤ v.state.size →
    Hand v.state.phase (note (closed taken v).answer) → done ≡ (note (closed taken v).answer).finished → begun ≡ (note (closed taken v).answer).begun →
    After v.state.size first run note (closed taken v)
unfolding closed shut zero_gap lay_skip lay_entry
after_close taken v h may p s low small room t f b =
    let n : information_length ≤ v.state.size = omega arith in
    closes {s = (shut v).state} {g = (shut v).group} refl
    (λ information g i j. record { sized = refl; holds = held_as p s f b (held_shut information g h may low n room i j); hand = t })

-- Free: a record, a separator, an end.
module _ {first : ℕ} {v : Desk} {run : List Image} {done : List Item} (r : Ready first v run done) where
  -- Nothing is laid but the skip.
  close_free : {note : WriteAnswer → Account} → done ≡ (note (closed 0 v).answer).finished → [] ≡ (note (closed 0 v).answer).begun → After v.state.size first run note (closed 0 v)
  unfolding may_follow
  close_free {note} f b = after_close 0 v r.holds (record { follows = refl; owes = refl }) (sym (ap stand_at r.phase)) (sym r.sum) r.low r.small r.room (hand_free (note (closed 0 v).answer) r.phase (sym b)) f b

  record_free_lem : {bs : List ℕ} {d : Done} → 1 ≤ length bs → length bs ≤ longest_record → RecordedFree bs v d →
      After v.state.size first run (λ o. after_record o (record { finished = done; begun = []; asked = bs })) d
  unfolding finished closed after_record moved lay_part lay_data lay_entry kind_of count_of data_of may_follow items_after begun_after
  record_free_lem {bs} low high (entire h) =
      let f : Fits stand.Free 0 (Piece.an_entire bs) = record { follows = refl; kept = (low, high); small = high } in
      finishes (rest_free (held_part (Piece.an_entire bs) r.holds f refl (omega arith)) r.phase r.sum refl)
  record_free_lem {bs} low high (start m some less h) =
      let large = r.large in
      let l : length (take m bs) ≡ m = length-take-le m bs (omega arith) in
      let f : Fits stand.Free 0 (Piece.a_start (take m bs)) = record { follows = refl; kept = (omega arith, omega arith); small = omega arith } in
      let k = held_moved phase.Inside m (length bs - m) (held_part (Piece.a_start (take m bs)) r.holds f refl (omega arith)) in
      let more : 1 ≤ length (drop m bs) = rw length-drop (omega arith) in
      after_close m (moved phase.Inside m (length bs - m) (lay_part kind.Start (take m bs) v)) k (record { follows = refl; owes = refl }) refl l r.low r.small (omega arith) more (append-nil done) refl
  record_free_lem low high (nothing h) = close_free refl refl

separator_free : {first : ℕ} {v : Desk} {run : List Image} (a : Account) → Ready first v run a.finished → a.begun ≡ [] → (value : ℕ) → value ≤ 1 → {d : Done} → SeparatorLaid value v d →
    After v.state.size first run (λ o. after_separator value o a) d
unfolding finished closed after_separator lay_entry kind_of count_of data_of may_follow items_after begun_after
separator_free a r t value low (laid h) =
    let f : Fits stand.Free 0 (Piece.a_separator value) = record { follows = refl; kept = low; small = omega arith } in
    finishes (rest_free (held_entry (Piece.a_separator value) r.holds f refl (omega arith)) r.phase r.sum refl)
separator_free a r t value low (not_laid h) = close_free r refl (sym t)

-- Inside: the rest of a record.
record Inner (first : ℕ) (v : Desk) (run : List Image) (a : Account) : Type 0 where
  holds : Held first stand.Inside v.state.sum v run a.finished a.begun
  filled : v.state.filled ≡ 0
  entries : v.state.entries ≡ 0
  whole : v.state.sum + length a.asked ≤ longest_record
  some : 1 ≤ length a.asked
  small : least_size ≤ v.state.size
  low : v.state.next ≤ last_number

module _ {first : ℕ} {v : Desk} {run : List Image} {a : Account} (r : Inner first v run a) where
  last_part_lem : length a.asked ≤ middle_length v.state →
      Held first stand.AfterLast (v.state.sum + length a.asked) (lay_part kind.Last a.asked v) run a.finished (a.begun ++ a.asked)
  unfolding kind_of count_of data_of may_follow items_after begun_after
  last_part_lem h =
      let c = r.filled in
      let d = r.entries in
      let s = r.whole in
      let t = r.small in
      let f : Fits stand.Inside v.state.sum (Piece.a_last a.asked) =
      record { follows = refl; kept = (r.some, s); small = omega arith } in
      held_as refl refl (append-nil a.finished) refl (held_part (Piece.a_last a.asked) r.holds f refl (omega arith))

  record_inside_lem : {d : Done} → RecordedInside a.asked v d → After v.state.size first run (λ o. after_record o a) d
  unfolding finished closed after_record moved lay_part lay_data lay_entry kind_of count_of data_of may_follow items_after begun_after
  record_inside_lem (part m e less) =
      let c = r.filled in
      let d = r.entries in
      let s = r.whole in
      let t = r.small in
      let bs : List ℕ = take m a.asked in
      let l : length bs ≡ m = length-take-le m a.asked (omega arith) in
      let f : Fits stand.Inside v.state.sum (Piece.a_middle bs) =
      record { follows = refl; kept = (omega arith, omega arith); small = omega arith } in
      let h = held_moved phase.Inside (v.state.sum + m) (length a.asked - m) (held_part (Piece.a_middle bs) r.holds f refl (omega arith)) in
      let more : 1 ≤ length (drop m a.asked) = rw length-drop (omega arith) in
      after_close m (moved phase.Inside (v.state.sum + m) (length a.asked - m) (lay_part kind.Middle bs v)) h (record { follows = refl; owes = refl }) refl (omega arith) r.low r.small (omega arith) more (append-nil a.finished) refl
  record_inside_lem (total h) =
      let c = r.filled in
      let d = r.entries in
      let s = r.whole in
      let t = r.small in
      let n : ℕ = v.state.sum + length a.asked in
      let f : Fits stand.AfterLast n (Piece.a_total n) = record { follows = refl; kept = refl; small = s } in
      finishes (rest_free (held_moved phase.Free 0 0 (held_entry (Piece.a_total n) (last_part_lem (omega arith)) f refl (omega arith))) refl refl refl)
  record_inside_lem (owed h k) =
      let c = r.filled in
      let d = r.entries in
      let t = r.small in
      let n : ℕ = v.state.sum + length a.asked in
      let late = le-leb (v.state.size - (v.state.filled + length a.asked)) most_owing (omega arith) in
      after_close (length a.asked) (moved phase.Owed n 0 (lay_part kind.Last a.asked v)) (held_moved phase.Owed n 0 (last_part_lem h)) (record { follows = refl; owes = late }) refl refl r.low r.small (omega arith) (drop-length a.asked) refl (rw take-length)

-- The same desk in a phase: the calls are gone through phase by phase.
abbrev in_phase : Phase → Desk → Desk
in_phase p w =
    let s = w.state in
    desk (record { size = s.size; next = s.next; phase = p; warned = s.warned; sum = s.sum; rest = s.rest; filled = s.filled; entries = s.entries }) w.group

size_kept_lem : (warn : Bool) (w : Desk) (p : Phase) → (ready warn (in_phase p w)).state.size ≡ w.state.size
unfolding ready pay_owed warn_state moved lay_entry
size_kept_lem warn w phase.Free = refl
size_kept_lem warn w phase.Inside = refl
size_kept_lem warn w phase.Owed = refl

resized : {size n first : ℕ} {run : List Image} {note : WriteAnswer → Account} {o : WriteAnswer} {g : List ℕ} → n ≡ size → Said n first run note o g → Said size first run note o g
resized e h = rw (← e) h

module _ {first : ℕ} {run : List Image} (a : Account) (warn : Bool) (w : Desk) where
  ready_free : Sound (in_phase phase.Free w).state → w.state.next ≤ last_number → Kept w.state.size first (in_phase phase.Free w) run a → Ready first (ready warn (in_phase phase.Free w)) run a.finished
  unfolding ready pay_owed warn_state
  ready_free t low k =
      let z : w.state.sum ≡ 0 = eqb-true w.state.sum 0 t.run.kept in
      record { holds = held_as refl z refl k.hand (held_warn warn k.holds); phase = refl; sum = z; room = t.room refl; small = t.run.least; large = t.run.most; low = low }

  ready_owed : Sound (in_phase phase.Owed w).state → w.state.next ≤ last_number → Kept w.state.size first (in_phase phase.Owed w) run a →
      Ready first (ready warn (in_phase phase.Owed w)) run (a.finished ++ (record_item a.begun ∷ []))
  unfolding ready pay_owed warn_state moved lay_entry kind_of count_of data_of may_follow items_after begun_after
  ready_owed t low k =
      let none = t.empty refl in
      let sum : w.state.sum ≤ longest_record = (within 2 w.state.sum longest_record t.run.kept).1 in
      let small = t.run.least in
      let f : Fits stand.Owed w.state.sum (Piece.a_total w.state.sum) = record { follows = refl; kept = refl; small = sum } in
      record {
        holds = held_moved phase.Free 0 0 (held_entry (Piece.a_total w.state.sum) (held_warn warn k.holds) f refl (omega arith));
        phase = refl;
        sum = refl;
        room = omega arith;
        small = small;
        large = t.run.most;
        low = low;
      }

  inner : Sound (in_phase phase.Inside w).state → w.state.next ≤ last_number → length a.asked ≡ w.state.rest → Kept w.state.size first (in_phase phase.Inside w) run a →
      Inner first (ready warn (in_phase phase.Inside w)) run a
  unfolding ready pay_owed warn_state
  inner t low n k =
      let none = t.empty refl in
      let more = t.more refl in
      record { holds = held_warn warn k.holds; filled = none.0; entries = none.1; whole = omega arith; some = omega arith; small = t.run.least; low = low }

  offered : (p : Phase) (bs : List ℕ) → Offered (in_phase p w).state w.group (length bs) → AsAsked (a_record bs warn) p a → Kept w.state.size first (in_phase p w) run a →
      After (ready warn (in_phase p w)).state.size first run (λ o. noted (a_record bs warn) p o a) (record_accepted p bs (ready warn (in_phase p w)))
  unfolding record_accepted noted in_hand
  offered phase.Free bs o q k = record_free_lem (ready_free o.accepted.sound o.accepted.next k) o.some o.most (recorded_free bs (ready warn (in_phase phase.Free w)))
  offered phase.Inside bs o q k =
      let n : length a.asked ≡ w.state.rest = sym (ap length q) ∙ o.rest refl in
      rw q (record_inside_lem (inner o.accepted.sound o.accepted.next n k) (recorded_inside a.asked (ready warn (in_phase phase.Inside w))))
  offered phase.Owed bs o q k = record_free_lem (ready_owed o.accepted.sound o.accepted.next k) o.some o.most (recorded_free bs (ready warn (in_phase phase.Owed w)))

  separated : (p : Phase) (value : ℕ) → Separated (in_phase p w).state w.group value → Kept w.state.size first (in_phase p w) run a →
      After (ready warn (in_phase p w)).state.size first run (λ o. noted (a_separator value warn) p o a) (separator_accepted value (ready warn (in_phase p w)))
  unfolding noted total_laid
  separated phase.Free value o k = separator_free a (ready_free o.accepted.sound o.accepted.next k) k.hand value o.small (separator_laid value (ready warn (in_phase phase.Free w)))
  separated phase.Inside value o k = absurd (true≢false o.shut)
  separated phase.Owed value o k =
      separator_free (total_laid phase.Owed a) (ready_owed o.accepted.sound o.accepted.next k) refl value o.small (separator_laid value (ready warn (in_phase phase.Owed w)))

  shutting : (p : Phase) → Sound (in_phase p w).state → w.state.next ≤ last_number → is_inside p ≡ false → Kept w.state.size first (in_phase p w) run a →
      After (ready warn (in_phase p w)).state.size first run (λ o. noted (an_end warn) p o a) (closed 0 (ready warn (in_phase p w)))
  unfolding noted total_laid
  shutting phase.Free t low e k = close_free (ready_free t low k) refl (sym k.hand)
  shutting phase.Inside t low e k = absurd (true≢false e)
  shutting phase.Owed t low e k = close_free (ready_owed t low k) refl refl

  -- An end that closes nothing changes nothing.
  resting : (p : Phase) → ends_empty (in_phase p w).state ≡ true → Kept w.state.size first (in_phase p w) run a →
      After w.state.size first run (λ o. noted (an_end warn) p o a) (finished (in_phase p w))
  unfolding finished noted total_laid
  resting phase.Free e k = finishes k
  resting phase.Inside e k = finishes k
  resting phase.Owed e k = absurd (true≢false (sym e))

  ended : (p : Phase) {d : Done} → Ended (in_phase p w).state w.group → Kept w.state.size first (in_phase p w) run a → EndLaid warn (in_phase p w) d →
      After w.state.size first run (λ o. noted (an_end warn) p o a) d
  ended p t k (ends_nothing e) = resting p e k
  ended p t k (ends_group e) = resized (size_kept_lem warn w p) (shutting p t.sound (t.next e) t.shut k)

-- A refusal leaves the desk as it came.
guard : {size first : ℕ} {run : List Image} {note : WriteAnswer → Account} (w : Desk) (refusal : ℕ) (d : Done) → (refusal ≡ 0 → After size first run note d) → After size first run note (or_refused refusal w d)
unfolding or_refused
guard {size} {first} {run} {note} w refusal d h = by (eqb refusal 0) refl
  where
    by : (b : Bool) → eqb refusal 0 ≡ b → After size first run note (cond b d (record { answer = Refused w.state refusal; group = w.group }))
    by true e = h (eqb-true refusal 0 e)
    by false e = refuses

-- Each call, whatever it answers.
pub after_call : {first : ℕ} {run : List Image} (a : Account) (c : Call) (w : Desk) → AsAsked c w.state.phase a → Kept w.state.size first w run a →
    After w.state.size first run (λ o. noted c w.state.phase o a) (call c w)
unfolding call record_call separator_call end_call
after_call a (a_record bs warn) w q k =
    guard w _ _ (λ e. resized (size_kept_lem warn w w.state.phase) (offered a warn w w.state.phase bs (record_accepted_lem w.state w.group (length bs) e) q k))
after_call a (a_separator value warn) w q k =
    guard w _ _ (λ e. resized (size_kept_lem warn w w.state.phase) (separated a warn w w.state.phase value (separator_accepted_lem w.state w.group value e) k))
after_call a (an_end warn) w q k = guard w _ _ (λ e. ended a warn w w.state.phase (end_accepted_lem w.state w.group e) k (end_laid warn w))

-- A refusal leaves the state and the buffer as they came, whatever was offered.
pub data AsGiven (w : Desk) : WriteAnswer → List ℕ → Type 0 where
  given_refused : {refusal : ℕ} → AsGiven w (Refused w.state refusal) w.group
  given_finished : {s : Writer} {g : List ℕ} → AsGiven w (Finished s) g
  given_closed : {s : Writer} {number entries taken : ℕ} {g : List ℕ} → AsGiven w (Closed s number entries taken) g

abbrev Given : Desk → Done → Type 0
Given w d = AsGiven w d.answer d.group

given_free : (w : Desk) {bs : List ℕ} {v : Desk} {d : Done} → RecordedFree bs v d → Given w d
unfolding finished closed
given_free w (entire h) = given_finished
given_free w (start r some less h) = given_closed
given_free w (nothing h) = given_closed

given_inside : (w : Desk) {bs : List ℕ} {v : Desk} {d : Done} → RecordedInside bs v d → Given w d
unfolding finished closed
given_inside w (part n e less) = given_closed
given_inside w (total h) = given_finished
given_inside w (owed h k) = given_closed

given_record : (w : Desk) (p : Phase) (bs : List ℕ) (v : Desk) → Given w (record_accepted p bs v)
unfolding record_accepted
given_record w phase.Free bs v = given_free w (recorded_free bs v)
given_record w phase.Inside bs v = given_inside w (recorded_inside bs v)
given_record w phase.Owed bs v = given_free w (recorded_free bs v)

given_separator : (w : Desk) {value : ℕ} {v : Desk} {d : Done} → SeparatorLaid value v d → Given w d
unfolding finished closed
given_separator w (laid h) = given_finished
given_separator w (not_laid h) = given_closed

given_end : (w : Desk) {warn : Bool} {v : Desk} {d : Done} → EndLaid warn v d → Given w d
unfolding finished closed
given_end w (ends_nothing e) = given_finished
given_end w (ends_group e) = given_closed

given_guard : (w : Desk) (refusal : ℕ) (d : Done) → Given w d → Given w (or_refused refusal w d)
unfolding or_refused
given_guard w refusal d h = by (eqb refusal 0)
  where
    by : (b : Bool) → Given w (cond b d (record { answer = Refused w.state refusal; group = w.group }))
    by true = h
    by false = given_refused

pub as_given : (c : Call) (w : Desk) → AsGiven w (call c w).answer (call c w).group
unfolding call record_call separator_call end_call
as_given (a_record bs warn) w = given_guard w _ _ (given_record w w.state.phase bs (ready warn w))
as_given (a_separator value warn) w = given_guard w _ _ (given_separator w (separator_laid value (ready warn w)))
as_given (an_end warn) w = given_guard w _ _ (given_end w (end_laid warn w))

-- A refused call answers the state as given.
pub as_came : (w : Desk) (a : WriteAnswer) (g : List ℕ) (s : Writer) (refusal : ℕ) → AsGiven w a g → a ≡ Refused s refusal → w.state ≡ s
as_came w a g s refusal AsGiven.given_refused e = cc
as_came w a g s refusal AsGiven.given_finished e = let z : ◌≡◌ {A = ℕ} 0 1 = cc in absurd (omega arith)
as_came w a g s refusal AsGiven.given_closed e = let z : ◌≡◌ {A = ℕ} 0 1 = cc in absurd (omega arith)
