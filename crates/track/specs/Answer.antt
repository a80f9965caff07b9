-- Change request 2026-01: what making and reading a track answer, and what they leave in each lent slice, for every input.
-- Assumes nothing.
use Rattle.std.specs.Prelude.{ℕ, zero, suc, ◌≡◌, List, Bool, Result, Ok, Err, cond, not, ◌&&◌, eqb, length}
use Rattle.answer.specs.Answer.{Told}
use Rattle.answer.specs.Answer as answer
use Rattle.answer.specs.Answer.{accepted, if_accepted}
use Rattle.answer.specs.declared.Refused as refused
use Rattle.answer.specs.declared.refusals.TrackRefusal.{TrackRefusal}
use Rattle.answer.specs.Numbers.{track_number}
use Rattle.header.specs.Header.{area_kept, pack_kept}
use Rattle.items.specs.Items.{numbers_length, numbers_of}
use Rattle.block.specs.Faults.{block_fault}
use Rattle.track.specs.Sizes.{block_count, track_length, packs_length, items_length}
use Rattle.track.specs.Blocks.{pack_in, track_of, block_at, packs_of, items_of}

-- What making and reading answer.
pub data TrackAnswer : Type 0 where
  Accepted : TrackAnswer
  Refused : (refusal place : ℕ) → TrackAnswer

-- The answer that a result of the code is.
abbrev pub answer_of : {A : Type 0} → Result A (refused.Refused TrackRefusal) → TrackAnswer
answer_of (Ok done) = Accepted
answer_of (Err e) = Refused (track_number e.refusal) e.place

-- 30: the buffers are of their lengths.
unfoldable pub lengths_kept : (track packs items numbers : ℕ) → Bool
lengths_kept track packs items numbers =
    eqb track track_length && (eqb packs packs_length && (eqb items items_length && eqb numbers numbers_length))

-- Making's 33: a Pack ID other than 6 or 7.
abbrev pub pack_fault : List ℕ → ℕ → ℕ
pack_fault packs block = cond (pack_kept block (pack_in packs block)) 0 33

-- "block by block from 0": the first block that has a fault, with the refusal that it meets.
abbrev pub onward : (refusal block : ℕ) (rest : TrackAnswer) → TrackAnswer
onward refusal block rest = cond (eqb refusal 0) rest (Refused refusal block)

unfoldable pub fault_from : (fault : ℕ → ℕ) (block n : ℕ) → TrackAnswer
fault_from fault block zero = Accepted
fault_from fault block (suc n) = onward (fault block) block (fault_from fault (suc block) n)

-- "making gives 30, 32 for the Area ID, 33 for a Pack ID other than 6 or 7". Items and the old bytes of a slice are not looked at.
unfoldable pub make_call : (area : ℕ) (packs : List ℕ) (items track numbers : ℕ) → TrackAnswer
make_call area packs items track numbers =
    cond (not (lengths_kept track (length packs) items numbers)) (Refused 30 0)
    (cond (not (area_kept area)) (Refused 32 0) (fault_from (pack_fault packs) 0 block_count))

-- "30 wrong buffer length, then block by block from 0: 31 .., 32 .., 33 .., 34 .."
unfoldable pub read_call : (area : ℕ) (track : List ℕ) (packs items numbers : ℕ) → TrackAnswer
read_call area track packs items numbers =
    cond (not (lengths_kept (length track) packs items numbers)) (Refused 30 0)
    (fault_from (λ (block : ℕ). block_fault area block (block_at track block)) 0 block_count)

-- What the firmware is told of each case.
abbrev pub told : TrackAnswer → Told
told Accepted = accepted
told (Refused refusal place) = answer.RefusedAt refusal place

-- Making a track: what it answers, and what it leaves in the track's slice and the numbers' in place of `old` and `old'`.
pub record Makes (area frame : ℕ) (packs items old old' : List ℕ) (a : TrackAnswer) (track numbers : List ℕ) : Type 0 where
  pub answer : a ≡ make_call area packs (length items) (length old) (length old')
  pub track_left : track ≡ if_accepted (told a) (track_of area packs items) old
  pub numbers_left : numbers ≡ if_accepted (told a) (numbers_of area frame) old'

-- Reading a track: what it answers, and what it leaves in the slices of the Pack IDs, the items and the numbers.
pub record Reads (area frame : ℕ) (track old old' old'' : List ℕ) (a : TrackAnswer) (packs items numbers : List ℕ) : Type 0 where
  pub answer : a ≡ read_call area track (length old) (length old') (length old'')
  pub packs_left : packs ≡ if_accepted (told a) (packs_of track) old
  pub items_left : items ≡ if_accepted (told a) (items_of track) old'
  pub numbers_left : numbers ≡ if_accepted (told a) (numbers_of area frame) old''
