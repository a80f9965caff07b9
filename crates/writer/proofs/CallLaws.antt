-- What each accepted call leaves, one constructor for each sentence of document 01's "Writing", with what it says of the numbers.
-- Assumes nothing.
use mathlib.Core.Path.{◌≡◌, refl, sym}
use mathlib.Core.Bool.{Bool, true, false, cond}
use mathlib.Core.List.{List}
use Prim.Native.Nat.{ℕ, ◌+◌, ◌-◌, ◌≤◌, ◌<◌}
use lib.ListN.{length, take}
use lib.Dec.{leb, ltb}
use borrow.Author.Tests.{leb-true, leb-false, ltb-true, ltb-false, eq-eqb}
use Rattle.answer.specs.Answer.{Accepted}
use Rattle.answer.specs.Answer.{accepted}
use Rattle.group.specs.declared.Kind.TheVariants as kind
use Rattle.group.specs.declared.Phase.TheVariants.{Free, Inside, Owed}
use Rattle.laying.specs.declared.Fit.{Fit}
use Rattle.laying.specs.declared.Fit.TheVariants as fit
use Rattle.laying.specs.Room.{room, fit_of, separator_fits, middle_length, last_with_total}
use Rattle.laying.specs.Laying.{Desk, desk, lay_entry, lay_part, moved, shut, ready}
use Rattle.laying.specs.Bounds.{Fitted, span}
use Rattle.laying.proofs.RoomLaws.{fitted, separator_fits_lem, separator_lacks}
use Rattle.sound.specs.State.{ends_empty, record_refusal, separator_refusal, end_refusal}
use Rattle.writer.specs.Calls.{Done, finished, closed, or_refused, by_fit, record_free, record_inside, middle, last, record_accepted, record_call, separator_accepted, separator_call, end_accepted, end_call, told, state_of}

-- "Record of n bytes, free."
pub data RecordedFree (bytes : List ℕ) (w : Desk) : Done → Type 0 where
  entire : span (w.state.filled + length bytes) (w.state.entries + 2) ≤ w.state.size → RecordedFree bytes w (finished (lay_part kind.Entire bytes w))
  start : (r : ℕ) → 1 ≤ r → r < length bytes → span (w.state.filled + r) (w.state.entries + 2) ≡ w.state.size
      → RecordedFree bytes w (closed r (moved Inside r (length bytes - r) (lay_part kind.Start (take r bytes) w)))
  nothing : w.state.size ≤ span w.state.filled (w.state.entries + 2) → RecordedFree bytes w (closed 0 w)

pub recorded_free : (bytes : List ℕ) (w : Desk) → RecordedFree bytes w (record_free bytes w)
unfolding record_free by_fit
recorded_free bytes w = by (fit_of (length bytes) (room w.state)) (fitted (length bytes) w.state)
  where
    by : (f : Fit) → Fitted f (length bytes) w.state → RecordedFree bytes w (by_fit f bytes w)
    by fit.Entire h = entire h
    by (fit.Start r) h = start r h.0 h.1.0 h.1.1
    by fit.Close h = nothing h

-- "Record, inside."
pub data RecordedInside (bytes : List ℕ) (w : Desk) : Done → Type 0 where
  part : (n : ℕ) → n ≡ middle_length w.state → n < length bytes
      → RecordedInside bytes w (closed n (moved Inside (w.state.sum + n) (length bytes - n) (lay_part kind.Middle (take n bytes) w)))
  total : length bytes ≤ last_with_total w.state
      → RecordedInside bytes w (finished (moved Free 0 0 (lay_entry kind.Total (w.state.sum + length bytes) (lay_part kind.Last bytes w))))
  owed : length bytes ≤ middle_length w.state → last_with_total w.state < length bytes
      → RecordedInside bytes w (closed (length bytes) (moved Owed (w.state.sum + length bytes) 0 (lay_part kind.Last bytes w)))

pub recorded_inside : (bytes : List ℕ) (w : Desk) → RecordedInside bytes w (record_inside bytes w)
unfolding record_inside middle last
recorded_inside bytes w =
    by (ltb (middle_length w.state) (length bytes)) refl (leb (length bytes) (last_with_total w.state)) refl
  where
    whole : Desk
    whole = moved Free 0 0 (lay_entry kind.Total (w.state.sum + length bytes) (lay_part kind.Last bytes w))

    by : (p : Bool) → ltb (middle_length w.state) (length bytes) ≡ p → (q : Bool) → leb (length bytes) (last_with_total w.state) ≡ q
        → RecordedInside bytes w (cond p (middle (middle_length w.state) bytes w) (cond q (finished whole) (closed (length bytes) (moved Owed (w.state.sum + length bytes) 0 (lay_part kind.Last bytes w)))))
    by true x q y = part (middle_length w.state) refl (ltb-true _ _ x)
    by false x true y = total (leb-true _ _ y)
    by false x false y = owed (ltb-false _ _ x) (leb-false _ _ y)

-- "Separator: laid if r ≥ 0, else skip, close, not laid."
pub data SeparatorLaid (value : ℕ) (w : Desk) : Done → Type 0 where
  laid : span w.state.filled (w.state.entries + 2) ≤ w.state.size
      → SeparatorLaid value w (finished (lay_entry kind.Separator value w))
  not_laid : w.state.size < span w.state.filled (w.state.entries + 2) → SeparatorLaid value w (closed 0 w)

pub separator_laid : (value : ℕ) (w : Desk) → SeparatorLaid value w (separator_accepted value w)
unfolding separator_accepted
separator_laid value w = by (separator_fits (room w.state)) refl
  where
    by : (p : Bool) → separator_fits (room w.state) ≡ p
        → SeparatorLaid value w (cond p (finished (lay_entry kind.Separator value w)) (closed 0 w))
    by true x = laid (separator_fits_lem w.state x)
    by false x = not_laid (separator_lacks w.state x)

-- "End: free with e = 0, and no total owed, closes nothing. Otherwise skip and close."
pub data EndLaid (warn : Bool) (w : Desk) : Done → Type 0 where
  ends_nothing : ends_empty w.state ≡ true → EndLaid warn w (finished w)
  ends_group : ends_empty w.state ≡ false → EndLaid warn w (closed 0 (ready warn w))

pub end_laid : (warn : Bool) (w : Desk) → EndLaid warn w (end_accepted warn w)
unfolding end_accepted
end_laid warn w = by (ends_empty w.state) refl
  where
    by : (p : Bool) → ends_empty w.state ≡ p → EndLaid warn w (cond p (finished w) (closed 0 (ready warn w)))
    by true e = ends_nothing e
    by false e = ends_group e

-- A call that is not refused is what its accepted form leaves.
accept : (k : ℕ) (w : Desk) (a : Done) → k ≡ 0 → a ≡ or_refused k w a
unfolding or_refused
accept k w a e = rw (eq-eqb k 0 e)

pub record_accepts : (bytes : List ℕ) (warn : Bool) (w : Desk) → record_refusal w.state (length w.group) (length bytes) ≡ 0
    → record_call bytes warn w ≡ record_accepted w.state.phase bytes (ready warn w)
unfolding record_call
record_accepts bytes warn w e = sym (accept _ w (record_accepted w.state.phase bytes (ready warn w)) e)

pub separator_accepts : (value : ℕ) (warn : Bool) (w : Desk) → separator_refusal w.state (length w.group) value ≡ 0
    → separator_call value warn w ≡ separator_accepted value (ready warn w)
unfolding separator_call
separator_accepts value warn w e = sym (accept _ w (separator_accepted value (ready warn w)) e)

pub end_accepts : (warn : Bool) (w : Desk) → end_refusal w.state (length w.group) ≡ 0 → end_call warn w ≡ end_accepted warn w
unfolding end_call
end_accepts warn w e = sym (accept _ w (end_accepted warn w) e)

-- What a finished call and a close tell, and the buffer that each leaves.
pub finished_told : (w : Desk) → told (finished w).answer ≡ accepted
unfolding finished
finished_told w = refl

pub finished_desk : (w : Desk) → desk (state_of (finished w).answer) (finished w).group ≡ w
unfolding finished state_of
finished_desk w = refl

pub closed_told : (taken : ℕ) (w : Desk) → told (closed taken w).answer ≡ Accepted 1 w.state.next (w.state.entries + 1) taken
unfolding closed
closed_told taken w = refl

pub closed_desk : (taken : ℕ) (w : Desk) → desk (state_of (closed taken w).answer) (closed taken w).group ≡ shut w
unfolding closed state_of
closed_desk taken w = refl
