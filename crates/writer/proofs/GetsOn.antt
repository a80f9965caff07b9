-- What a close tells and leaves, and what a group with no entry takes: each sentence of "Writing" by its numbers.
-- Assumes nothing.
use Prim.Native.Nat.{ℕ, zero, suc, ◌+◌, ◌-◌, ◌*◌, ◌≤◌, ◌<◌}
use native.Mathlib.Omega.{arith}
use mathlib.Core.List.{List}
use mathlib.Core.Path.{◌≡◌, refl, sym, ap, ◌∙◌, subst}
use mathlib.Core.Bool.{Bool, true, false, cond, not, ◌&&◌, true≢false}
use lib.Dec.{eqb}
use lib.ListN.{length}
use borrow.Author.Tests.{eqb-true, eq-eqb, le-leb}
use Rattle.numbers.proofs.Tests.{is_within}
use Rattle.answer.specs.Answer.{accepted}
use Rattle.group.specs.declared.Phase.{Phase}
use Rattle.group.specs.declared.Phase.TheVariants.{Free, Inside, Owed}
use Rattle.group.specs.Sizes.{least_size, longest_record, last_number}
use Rattle.laying.specs.declared.Writer.{Writer}
use Rattle.laying.specs.Bounds.{span}
use Rattle.laying.specs.Laying.{Desk, desk, lay_entry, lay_data, lay_part, lay_skip, zero_gap, shut, moved, pay_owed, ready, warn_state}
use Rattle.sound.specs.State.{is_inside, is_owed, writer_sound, offer_kept, record_refusal, separator_refusal}
use Rattle.sound.proofs.SoundLaws.{Sound, choose}
use Rattle.sound.proofs.Accepted.{record_accepted_lem, separator_accepted_lem, end_accepted_lem}
use Rattle.writer.specs.WriteAnswer.{WriteAnswer}
use Rattle.writer.specs.WriteAnswer.{Finished, Closed, Refused}
use Rattle.writer.specs.Calls.{Done, done, finished, closed, or_refused, record_accepted, record_call, separator_call, end_call, Call, call, told}
use Rattle.writer.specs.Calls.Call.{a_record, a_separator, an_end}
use Rattle.writer.specs.Offers.{least_taken, GetsOn}
use Rattle.writer.proofs.CallLaws.{RecordedFree, recorded_free, RecordedInside, recorded_inside, SeparatorLaid, separator_laid, EndLaid, end_laid, record_accepts, separator_accepts}

-- The desk that an accepted call lays from, by the state as it came: b4 is said, and an owed total laid.
record From (s : Writer) (w : Desk) : Type 0 where
  size : w.state.size ≡ s.size
  low : least_size ≤ s.size
  held : 0 < w.state.filled → 0 < w.state.entries
  empty : s.entries ≡ 0 → (w.state.filled ≡ 0) × (w.state.entries ≤ 1)
  inside : is_inside w.state.phase ≡ is_inside s.phase

no_data : (d n : ℕ) → (0 < d → 0 < n) → n ≡ 0 → d ≡ 0
no_data zero n h e = refl
no_data (suc d) n h e = absurd (let k : 0 < n = h (omega arith) in omega arith)

from_ready : {s : Writer} (g : List ℕ) (warn : Bool) → Sound s → From s (ready warn (desk s g))
unfolding ready pay_owed moved lay_entry warn_state
from_ready {s} g warn t = by s.phase refl
  where
    by : (p : Phase) → s.phase ≡ p → From s (pay_owed p (desk (warn_state warn s) g))
    by Free e = record { size = refl; low = t.run.least; held = t.held; empty = λ z. (no_data _ _ t.held z, omega arith); inside = refl }
    by Inside e = record { size = refl; low = t.run.least; held = t.held; empty = λ z. (no_data _ _ t.held z, omega arith); inside = refl }
    by Owed e = record { size = refl; low = t.run.least; held = λ h. omega arith; empty = λ z. (no_data _ _ t.held z, omega arith); inside = sym (ap is_inside e) }

-- Where the room is 0 or less, an entry stands.
stands : {s : Writer} {w : Desk} → From s w → w.state.size ≤ span w.state.filled (w.state.entries + 2) → 1 ≤ w.state.entries
stands {s} {w} f h = by w.state.filled w.state.entries f.held (omega (arith, f.low, f.size))
  where
    by : (d e : ℕ) → (0 < d → 0 < e) → least_size ≤ span d (e + 2) → 1 ≤ e
    by zero e k l = omega arith
    by (suc d) e k l = k (omega arith)

-- What a close tells and leaves.
pub record Shut (s t : Writer) (number entries : ℕ) : Type 0 where
  pub size : t.size ≡ s.size
  pub next : t.next ≡ number + 1
  pub none : t.entries ≡ 0
  pub some : 2 ≤ entries

abbrev pub Closing : Writer → WriteAnswer → Type 0
Closing s (Finished t) = Unit {0}
Closing s (Closed t number entries taken) = Shut s t number entries
Closing s (Refused t refusal) = Unit {0}

shuts : (s : Writer) (taken : ℕ) (w : Desk) → w.state.size ≡ s.size → 1 ≤ w.state.entries → Closing s (closed taken w).answer
unfolding closed shut zero_gap lay_skip lay_entry
shuts s taken w e h = record { size = e; next = refl; none = refl; some = omega arith }

closing_free : {s : Writer} {bs : List ℕ} {w : Desk} {d : Done} → From s w → RecordedFree bs w d → Closing s d.answer
unfolding finished moved lay_part lay_data lay_entry
closing_free f (RecordedFree.entire h) = tt
closing_free {s} f (RecordedFree.start r some less h) = shuts s r _ f.size (omega arith)
closing_free {s} {w} f (RecordedFree.nothing h) = shuts s 0 w f.size (stands f h)

closing_inside : {s : Writer} {bs : List ℕ} {w : Desk} {d : Done} → From s w → RecordedInside bs w d → Closing s d.answer
unfolding finished moved lay_part lay_data lay_entry
closing_inside {s} f (RecordedInside.part n e less) = shuts s n _ f.size (omega arith)
closing_inside f (RecordedInside.total h) = tt
closing_inside {s} {bs} f (RecordedInside.owed h k) = shuts s (length bs) _ f.size (omega arith)

closing_record : {s : Writer} {w : Desk} (p : Phase) (bs : List ℕ) → From s w → Closing s (record_accepted p bs w).answer
unfolding record_accepted
closing_record {s} {w} Free bs f = closing_free f (recorded_free bs w)
closing_record {s} {w} Inside bs f = closing_inside f (recorded_inside bs w)
closing_record {s} {w} Owed bs f = closing_free f (recorded_free bs w)

closing_separator : {s : Writer} {value : ℕ} {w : Desk} {d : Done} → From s w → SeparatorLaid value w d → Closing s d.answer
unfolding finished
closing_separator f (SeparatorLaid.laid h) = tt
closing_separator {s} {w = w} f (SeparatorLaid.not_laid h) = shuts s 0 w f.size (stands f (omega arith))

from_none : (n : ℕ) → eqb n 0 ≡ false → 1 ≤ n
from_none zero e = absurd (true≢false e)
from_none (suc n) e = omega arith

-- An end that closes has an entry to close on: one that stands, or the owed total.
laid_at_end : (s : Writer) (g : List ℕ) (warn : Bool) (p : Phase) → (not (is_owed p) && eqb s.entries 0) ≡ false → 1 ≤ (pay_owed p (desk (warn_state warn s) g)).state.entries
unfolding pay_owed moved lay_entry warn_state
laid_at_end s g warn Free e = from_none s.entries e
laid_at_end s g warn Inside e = from_none s.entries e
laid_at_end s g warn Owed e = omega arith

closing_end : {s : Writer} {g : List ℕ} {warn : Bool} {d : Done} → From s (ready warn (desk s g)) → EndLaid warn (desk s g) d → Closing s d.answer
unfolding finished ready
closing_end f (EndLaid.ends_nothing e) = tt
closing_end {s} {g} {warn} f (EndLaid.ends_group e) = shuts s 0 (ready warn (desk s g)) f.size (laid_at_end s g warn s.phase e)

-- What holds of a refusal, and of the accepted form where it is not refused, holds of the call.
guarded : (P : WriteAnswer → Type 0) (refusal : ℕ) (w : Desk) (d : Done) → P (Refused w.state refusal) → (refusal ≡ 0 → P d.answer) → P (or_refused refusal w d).answer
unfolding or_refused
guarded P refusal w d r h = by (eqb refusal 0) refl
  where
    by : (b : Bool) → eqb refusal 0 ≡ b → P (cond b d (done (Refused w.state refusal) w.group)).answer
    by true e = h (eqb-true refusal 0 e)
    by false e = r

pub closing : (c : Call) (w : Desk) → Closing w.state (call c w).answer
unfolding call record_call separator_call end_call
closing (a_record bs warn) w =
    guarded (Closing w.state) _ w _ tt (λ e. closing_record w.state.phase bs (from_ready w.group warn (record_accepted_lem w.state w.group (length bs) e).accepted.sound))
closing (a_separator value warn) w =
    guarded (Closing w.state) _ w _ tt (λ e. closing_separator (from_ready w.group warn (separator_accepted_lem w.state w.group value e).accepted.sound) (separator_laid value (ready warn w)))
closing (an_end warn) w =
    guarded (Closing w.state) _ w _ tt (λ e. closing_end (from_ready w.group warn (end_accepted_lem w.state w.group e).sound) (end_laid warn w))

-- A record that is offered to a group with no entry.
free_on : {s : Writer} {bs : List ℕ} {w : Desk} {d : Done} → From s w → s.entries ≡ 0 → RecordedFree bs w d → GetsOn s.size (length bs) d.answer
unfolding finished closed
free_on f z (RecordedFree.entire h) = tt
free_on {s} f z (RecordedFree.start r some less h) = let e = f.empty z in (some, λ k. omega (arith, f.size))
free_on f z (RecordedFree.nothing h) = let e = f.empty z in absurd (omega (arith, f.low, f.size))

inside_on : {s : Writer} {bs : List ℕ} {w : Desk} {d : Done} → 1 ≤ length bs → From s w → RecordedInside bs w d → GetsOn s.size (length bs) d.answer
unfolding finished closed
inside_on some f (RecordedInside.part n e less) = (omega (arith, f.low, f.size), λ k. omega (arith, f.size))
inside_on some f (RecordedInside.total h) = tt
inside_on some f (RecordedInside.owed h k) = (some, λ l. absurd (omega arith))

record_on : {s : Writer} {w : Desk} (p : Phase) (bs : List ℕ) → 1 ≤ length bs → From s w → s.entries ≡ 0 → GetsOn s.size (length bs) (record_accepted p bs w).answer
unfolding record_accepted
record_on {s} {w} Free bs some f z = free_on f z (recorded_free bs w)
record_on {s} {w} Inside bs some f z = inside_on some f (recorded_inside bs w)
record_on {s} {w} Owed bs some f z = free_on f z (recorded_free bs w)

pub record_gets_on : (bs : List ℕ) (warn : Bool) (w : Desk) → record_refusal w.state (length w.group) (length bs) ≡ 0 → w.state.entries ≡ 0 →
    GetsOn w.state.size (length bs) (record_call bs warn w).answer
record_gets_on bs warn w e z =
    let o = record_accepted_lem w.state w.group (length bs) e in
    subst (λ (d : Done). GetsOn w.state.size (length bs) d.answer) (sym (record_accepts bs warn w e))
    (record_on w.state.phase bs o.some (from_ready w.group warn o.accepted.sound) z)

-- A separator that is offered to a group with no entry.
separator_on : {s : Writer} {value : ℕ} {w : Desk} {d : Done} → From s w → s.entries ≡ 0 → SeparatorLaid value w d → told d.answer ≡ accepted
unfolding finished closed
separator_on f z (SeparatorLaid.laid h) = refl
separator_on f z (SeparatorLaid.not_laid h) = let e = f.empty z in absurd (omega (arith, f.low, f.size))

pub separator_at_once : (value : ℕ) (warn : Bool) (w : Desk) → separator_refusal w.state (length w.group) value ≡ 0 → w.state.entries ≡ 0 →
    told (separator_call value warn w).answer ≡ accepted
separator_at_once value warn w e z =
    let a = separator_accepted_lem w.state w.group value e in
    subst (λ (d : Done). told d.answer ≡ accepted) (sym (separator_accepts value warn w e))
    (separator_on (from_ready w.group warn a.accepted.sound) z (separator_laid value (ready warn w)))

-- What a record's close leaves to offer, where a record is open: the rest is what was not taken.
abbrev Resting : ℕ → WriteAnswer → Type 0
Resting n (Finished t) = Unit {0}
Resting n (Closed t number entries taken) = is_inside t.phase ≡ true → t.rest ≡ n - taken
Resting n (Refused t refusal) = Unit {0}

rest_free : {s : Writer} {bs : List ℕ} {w : Desk} {d : Done} → From s w → is_inside s.phase ≡ false → RecordedFree bs w d → Resting (length bs) d.answer
unfolding finished closed shut zero_gap lay_skip moved lay_part lay_data lay_entry
rest_free f p (RecordedFree.entire h) = tt
rest_free f p (RecordedFree.start r some less h) = λ i. refl
rest_free f p (RecordedFree.nothing h) = λ i. absurd (true≢false (sym i ∙ f.inside ∙ p))

rest_inside : {bs : List ℕ} {w : Desk} {d : Done} → RecordedInside bs w d → Resting (length bs) d.answer
unfolding finished closed shut zero_gap lay_skip moved lay_part lay_data lay_entry
rest_inside (RecordedInside.part n e less) = λ i. refl
rest_inside (RecordedInside.total h) = tt
rest_inside (RecordedInside.owed h k) = λ i. absurd (true≢false (sym i))

rest_record : {s : Writer} {w : Desk} (p : Phase) (bs : List ℕ) → s.phase ≡ p → From s w → Resting (length bs) (record_accepted p bs w).answer
unfolding record_accepted
rest_record {s} {w} Free bs e f = rest_free f (ap is_inside e) (recorded_free bs w)
rest_record {s} {w} Inside bs e f = rest_inside (recorded_inside bs w)
rest_record {s} {w} Owed bs e f = rest_free f (ap is_inside e) (recorded_free bs w)

resting : (bs : List ℕ) (warn : Bool) (w : Desk) → Resting (length bs) (record_call bs warn w).answer
unfolding record_call
resting bs warn w =
    guarded (Resting (length bs)) _ w _ tt
    (λ e. rest_record w.state.phase bs refl (from_ready w.group warn (record_accepted_lem w.state w.group (length bs) e).accepted.sound))

-- A separator that closes leaves no record open.
abbrev Idle : WriteAnswer → Type 0
Idle (Finished t) = Unit {0}
Idle (Closed t number entries taken) = is_inside t.phase ≡ false
Idle (Refused t refusal) = Unit {0}

idle_separator : {s : Writer} {value : ℕ} {w : Desk} {d : Done} → From s w → is_inside s.phase ≡ false → SeparatorLaid value w d → Idle d.answer
unfolding finished closed shut zero_gap lay_skip lay_entry
idle_separator f p (SeparatorLaid.laid h) = tt
idle_separator f p (SeparatorLaid.not_laid h) = f.inside ∙ p

idle : (value : ℕ) (warn : Bool) (w : Desk) → Idle (separator_call value warn w).answer
unfolding separator_call
idle value warn w =
    guarded Idle _ w _ tt
    (λ e.
    let a = separator_accepted_lem w.state w.group value e in
    idle_separator (from_ready w.group warn a.accepted.sound) a.shut (separator_laid value (ready warn w)))

-- What is left of a record is accepted by a group of the same size, while a number remains; and so is a separator that was not laid.
module _ (w : Desk) (s : Writer) (number entries taken len : ℕ) (sound : writer_sound s ≡ true) (long : len ≡ w.state.size) (remains : number < last_number) where
  pub left_accepted : (bs : List ℕ) (warn : Bool) (n : ℕ) → (record_call bs warn w).answer ≡ Closed s number entries taken → 1 ≤ n → n ≤ longest_record → n ≡ length bs - taken →
      record_refusal s len n ≡ 0
  unfolding call record_refusal
  left_accepted bs warn n e some most all =
      let c : Shut w.state s number entries = subst (Closing w.state) e (closing (a_record bs warn) w) in
      let r : is_inside s.phase ≡ true → s.rest ≡ length bs - taken = subst (Resting (length bs)) e (resting bs warn w) in
      let offer : offer_kept s n ≡ true = choose (is_inside s.phase) (eqb n s.rest) true (λ i. eq-eqb _ _ (all ∙ sym (r i))) (λ i. refl) in
      rw (sound, eq-eqb len s.size (long ∙ sym c.size), le-leb s.next last_number (omega (arith, c.next)), is_within {low = 1} {n = n} {high = longest_record} some most, offer)

  pub laid_again : (value : ℕ) (warn : Bool) → (separator_call value warn w).answer ≡ Closed s number entries taken → value ≤ 1 → separator_refusal s len value ≡ 0
  unfolding call separator_refusal
  laid_again value warn e small =
      let c : Shut w.state s number entries = subst (Closing w.state) e (closing (a_separator value warn) w) in
      let i : is_inside s.phase ≡ false = subst Idle e (idle value warn w) in
      rw (sound, eq-eqb len s.size (long ∙ sym c.size), le-leb s.next last_number (omega (arith, c.next)), i, le-leb value 1 small)

one_more : (m least : ℕ) → suc m * least ≡ m * least + least
one_more m least = omega arith

-- Bytes left after one call more.
pub few : (calls least left taken rest n : ℕ) → (calls - 1) * least + left ≤ n → taken < left → rest ≡ left - taken → (1 ≤ calls → least ≤ taken) →
    (calls + 1 - 1) * least + rest ≤ n
few zero least left taken rest n h l e k = omega arith
few (suc m) least left taken rest n h l e k =
    let now : suc m + 1 - 1 ≡ suc m = omega arith in
    let before : suc m - 1 ≡ m = omega arith in
    let t : least ≤ taken = k (omega arith) in
    let f : m * least + left ≤ n = rw before at h in
    rw (now, one_more m least) (omega (arith, f))

-- At 20 bytes a call and more, the calls are no more than the bytes.
at_least : (m least : ℕ) → 1 ≤ least → m ≤ m * least
at_least zero least h = omega arith
at_least (suc m) least h = let k = at_least m least h in rw (one_more m least) (omega (arith, k))

pub no_more : (calls size left n : ℕ) → (1 ≤ calls → least_size ≤ size) → (1 ≤ calls → 1 ≤ left) → (calls - 1) * least_taken size + left ≤ n → calls ≤ n
no_more zero size left n l s h = omega arith
no_more (suc m) size left n l s h =
    let before : suc m - 1 ≡ m = omega arith in
    let f : m * least_taken size + left ≤ n = rw before at h in
    let a : least_size ≤ size = l (omega arith) in
    let b : 1 ≤ left = s (omega arith) in
    let k : m ≤ m * least_taken size = at_least m (least_taken size) (omega arith) in
    omega (arith, f, k, b)
