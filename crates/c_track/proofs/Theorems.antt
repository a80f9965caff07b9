-- Change request 2026-01 through C's slices: reading gives back what was made, and what is read is what is made, by what the two
-- calls return and leave.
-- Assumes nothing.
use mathlib.Core.Path.{◌≡◌, refl, sym, ap, ◌∙◌, subst}
use mathlib.Core.List.{List}
use Prim.Native.Nat.{ℕ}
use borrow.Author.Tests.{eq-eqb, eqb-true}
use lib.ListN.{length}
use Rattle.answer.specs.Answer.{refusal_told}
use Rattle.track.specs.Blocks.{items_given_back}
use Rattle.track.specs.Answer.{TrackAnswer, Accepted, make_call, read_call, told, Makes, Reads}
use Rattle.track.proofs.Judged.{make_told, read_told}
use Rattle.track.proofs.Theorems.{subdata_returned, subdata_only_made}
use Rattle.slices.specs.Call.{Left, answer_length}
use Rattle.slices.proofs.Calls.{let_through, leaves}
use Rattle.c_track.specs.Calls.{dds_subdata_make, track_made, numbers_made, dds_subdata_read, packs_read, items_read, numbers_read}

-- A making that C is let through to, whatever it answers.
record MadeC (area frame : ℕ) (packs items track numbers : List ℕ) (m : Left) : Type 0 where
  makes : Makes area frame packs items track numbers (make_call area packs (length items) (length track) (length numbers)) (track_made m) (numbers_made m)
  returns : m.refusal ≡ refusal_told (told (make_call area packs (length items) (length track) (length numbers)))

record ReadC (area frame : ℕ) (track packs items numbers : List ℕ) (r : Left) : Type 0 where
  reads : Reads area frame track packs items numbers (read_call area track (length packs) (length items) (length numbers)) (packs_read r) (items_read r) (numbers_read r)
  returns : r.refusal ≡ refusal_told (told (read_call area track (length packs) (length items) (length numbers)))

module _ (area frame : ℕ) (packs items track numbers answer : List ℕ) (m : Left) (e : m ≡ dds_subdata_make area frame packs items track numbers answer) where
  made : length answer ≡ answer_length → MadeC area frame packs items track numbers m
  unfolding dds_subdata_make
  made h =
      let l = leaves _ _ _ answer e (eq-eqb (length answer) answer_length h) in
      record { makes = record { answer = refl; track_left = l.slices 0; numbers_left = l.slices 1 }; returns = l.returns }

  -- A making that returns 0 was accepted.
  accepted_made : m.refusal ≡ 0 → Makes area frame packs items track numbers Accepted (track_made m) (numbers_made m)
  unfolding dds_subdata_make
  accepted_made zero =
      let w = made (eqb-true (length answer) answer_length (let_through _ _ _ _ answer e zero)) in
      let a = make_told area packs (length items) (length track) (length numbers) (sym w.returns ∙ zero) in
      subst (λ (b : TrackAnswer). Makes area frame packs items track numbers b (track_made m) (numbers_made m)) a w.makes

module _ (area frame : ℕ) (track packs items numbers answer : List ℕ) (r : Left) (e : r ≡ dds_subdata_read area frame track packs items numbers answer) where
  read : length answer ≡ answer_length → ReadC area frame track packs items numbers r
  unfolding dds_subdata_read
  read h =
      let l = leaves _ _ _ answer e (eq-eqb (length answer) answer_length h) in
      record { reads = record { answer = refl; packs_left = l.slices 0; items_left = l.slices 1; numbers_left = l.slices 2 }; returns = l.returns }

  accepted_read : r.refusal ≡ 0 → Reads area frame track packs items numbers Accepted (packs_read r) (items_read r) (numbers_read r)
  unfolding dds_subdata_read
  accepted_read zero =
      let w = read (eqb-true (length answer) answer_length (let_through _ _ _ _ answer e zero)) in
      let a = read_told area track (length packs) (length items) (length numbers) (sym w.returns ∙ zero) in
      subst (λ (b : TrackAnswer). Reads area frame track packs items numbers b (packs_read r) (items_read r) (numbers_read r)) a w.reads

-- Where making returned 0, reading its track with slices of their lengths returns 0 and gives back Pack IDs, Item numbers and
-- items, the closes of Pack ID 6 as zeros.
pub c_subdata_returned : (area frame : ℕ) (packs items track numbers answer : List ℕ) (m : Left) → m ≡ dds_subdata_make area frame packs items track numbers answer → m.refusal ≡ 0
    → (packs' items' numbers' answer' : List ℕ) → length packs' ≡ 8 → length items' ≡ 512 → length numbers' ≡ 256 → length answer' ≡ answer_length
    → (r : Left) → r ≡ dds_subdata_read area frame (track_made m) packs' items' numbers' answer'
    → (r.refusal ≡ 0) × ((packs_read r ≡ packs) × ((items_read r ≡ items_given_back packs items) × (numbers_read r ≡ numbers_made m)))
c_subdata_returned area frame packs items track numbers answer m e zero packs' items' numbers' answer' p i n a r f =
    let w = read area frame (track_made m) packs' items' numbers' answer' r f a in
    let back = subdata_returned area frame packs items track numbers (track_made m) (numbers_made m) (accepted_made area frame packs items track numbers answer m e zero) packs' items' numbers' p i n _ (packs_read r) (items_read r) (numbers_read r) w.reads in
    (w.returns ∙ ap (λ (b : TrackAnswer). refusal_told (told b)) back.0, back.1)

-- Where reading returned 0, making from what it left returns 0 and gives that very track and those numbers.
pub c_subdata_only_made : (area frame : ℕ) (track packs items numbers answer : List ℕ) (r : Left) → r ≡ dds_subdata_read area frame track packs items numbers answer → r.refusal ≡ 0
    → (track' numbers' answer' : List ℕ) → length track' ≡ 560 → length numbers' ≡ 256 → length answer' ≡ answer_length
    → (m : Left) → m ≡ dds_subdata_make area frame (packs_read r) (items_read r) track' numbers' answer'
    → (m.refusal ≡ 0) × ((track_made m ≡ track) × (numbers_made m ≡ numbers_read r))
c_subdata_only_made area frame track packs items numbers answer r e zero track' numbers' answer' t n a m f =
    let w = made area frame (packs_read r) (items_read r) track' numbers' answer' m f a in
    let back = subdata_only_made area frame track packs items numbers (packs_read r) (items_read r) (numbers_read r) (accepted_read area frame track packs items numbers answer r e zero) track' numbers' t n _ (track_made m) (numbers_made m) w.makes in
    (w.returns ∙ ap (λ (b : TrackAnswer). refusal_told (told b)) back.0, back.1)
