-- The theorems of change request 2026-01, each with its sentence above it.
-- Assumes nothing.
use mathlib.Core.Path.{◌≡◌, refl, sym, ap, ◌∙◌}
use mathlib.Core.Bool.{Bool, true, false, cond}
use mathlib.Core.List.{List, [], ◌∷◌}
use Prim.Native.Nat.{ℕ, ◌+◌, ◌*◌, ◌/◌, ◌%◌, ◌<◌}
use native.Mathlib.Omega.{arith}
use borrow.Author.Tests.{eqb-true}
use lib.Dec.{eqb}
use lib.ListN.{length, get_or, take, drop}
use lib.Seq.{drop-cons}
use Rattle.answer.specs.Answer.{if_accepted}
use Rattle.numbers.specs.Numbers.{between}
use Rattle.numbers.proofs.Tests.{both}
use Rattle.header.specs.Header.{even, area_kept, pack_of, pack_kept, sw1_kept}
use Rattle.header.proofs.TakenApart.{pack_small, pack_taken, sw2_apart}
use Rattle.items.specs.Turns.{chunk, in_turn}
use Rattle.items.proofs.Turns.{turns_same, turns_chunks, chunk_of_turns, length_turns, get_of_turns}
use Rattle.block.specs.Block.{data_part_of, block_of, sw1_in, sw2_in, data_part_in}
use Rattle.block.specs.Faults.{block_fault}
use Rattle.block.proofs.OneBlock.{data_part_made, sw2_made_in, made_kept, Sound, sound, block_again}
use Rattle.track.specs.Blocks.{pack_in, places_in, track_of, block_at, packs_of, items_of, items_given_back}
use Rattle.track.specs.Answer.{TrackAnswer, Accepted, read_call, make_call, Makes, Reads, told}
use Rattle.track.proofs.BlockLaws.{length_places, length_block_at, length_data_part_at, blocks_wide}
use Rattle.track.proofs.Judged.{MakeKept, ReadKept, make_kept, make_accepts, pack_right, read_kept, read_accepts, pack_is_kept}

-- Pack IDs one by one.
one_by_one : (packs : List ℕ) → length packs ≡ 8 → in_turn (λ (k : ℕ). get_or packs k 0 ∷ []) 0 8 ≡ packs
one_by_one packs long =
    turns_same (λ (k : ℕ). get_or packs k 0 ∷ []) (chunk 1 packs) 0 8 one ∙ turns_chunks 1 8 packs (long ∙ omega arith)
  where
    one : (k : ℕ) → k < 0 + 8 → get_or packs k 0 ∷ [] ≡ chunk 1 packs k
    one k less =
        let place : 1 * k ≡ k = omega arith in
        sym (ap (λ (n : ℕ). take 1 (drop n packs)) place ∙ ap (take 1) (drop-cons packs k 0 (omega arith)))

-- The Pack ID of block 2k is the k-th.
pack_of_even : (packs : List ℕ) (k : ℕ) → pack_in packs (2 * k) ≡ get_or packs k 0
pack_of_even packs k =
    let none : 2 * k % 2 ≡ 0 = omega arith in
    let half : 2 * k / 2 ≡ k = omega arith in
    rw (none, half)

-- A track that is made: its blocks, and what reading it gives.
module _ (area : ℕ) (packs items : List ℕ) (track numbers : ℕ) (m : MakeKept area packs (length items) track numbers) where
  block_made : (block : ℕ) → block < 16 → block_at (track_of area packs items) block ≡ block_of area (pack_in packs block) block (places_in items block)
  unfolding track_of
  block_made block less = chunk_of_turns _ 35 16 (blocks_wide area packs items m.long.items) block less

  kept : (block : ℕ) → block < 16 → pack_kept block (pack_in packs block) ≡ true
  kept block less = pack_is_kept packs block (m.each block less)

  no_fault_made : (block : ℕ) → block < 16 → block_fault area block (block_at (track_of area packs items) block) ≡ 0
  no_fault_made block less =
      ap (block_fault area block) (block_made block less)
      ∙ made_kept area (pack_in packs block) block (places_in items block) m.allowed (kept block less) less (length_places items m.long.items block less)

  packs_made : packs_of (track_of area packs items) ≡ packs
  unfolding packs_of
  packs_made = turns_same _ (λ (k : ℕ). get_or packs k 0 ∷ []) 0 8 each ∙ one_by_one packs m.long.packs
    where
      each : (k : ℕ) → k < 0 + 8 → pack_of (sw2_in (block_at (track_of area packs items) (2 * k))) ∷ [] ≡ get_or packs k 0 ∷ []
      each k less =
          let h : 2 * k < 16 = omega arith in
          ap (λ (block : List ℕ). pack_of (sw2_in block) ∷ []) (block_made (2 * k) h)
          ∙ ap (λ (sw2 : ℕ). pack_of sw2 ∷ []) (sw2_made_in area (pack_in packs (2 * k)) (2 * k) (places_in items (2 * k)))
          ∙ ap (λ (n : ℕ). n ∷ []) (pack_taken (pack_in packs (2 * k)) (2 * k) (pack_small (2 * k) (pack_in packs (2 * k)) (kept (2 * k) h)) h ∙ pack_of_even packs k)

  length_made : length (track_of area packs items) ≡ 560
  unfolding track_of
  length_made = length_turns _ 35 16 (blocks_wide area packs items m.long.items) 0 16 (omega arith)

  items_made : items_of (track_of area packs items) ≡ items_given_back packs items
  unfolding items_of items_given_back
  items_made = turns_same _ _ 0 16 each
    where
      each : (block : ℕ) → block < 0 + 16 → data_part_in (block_at (track_of area packs items) block) ≡ data_part_of (pack_in packs block) (places_in items block)
      each block less =
          ap data_part_in (block_made block (omega arith)) ∙ data_part_made area (pack_in packs block) block (places_in items block)

-- A track that reading accepts: its blocks are those that are made of what they hold.
module _ (area : ℕ) (track : List ℕ) (packs items numbers : ℕ) (r : ReadKept area track packs items numbers) where
  sound_at : (block : ℕ) → block < 16 → Sound area block (block_at track block)
  sound_at block less = sound area block (block_at track block) (r.each block less)

  pack_kept_at : (block : ℕ) → block < 16 → pack_kept block (pack_of (sw2_in (block_at track block))) ≡ true
  pack_kept_at block less = (sw2_apart block (sw2_in (block_at track block)) (sound_at block less).sw2).pack

  -- The Pack IDs that reading gives are those of the blocks, and so are the places.
  pack_held : (block : ℕ) → block < 16 → pack_in (packs_of track) block ≡ pack_of (sw2_in (block_at track block))
  unfolding packs_of
  pack_held block less = by (even block) refl (pack_kept_at block less)
    where
      by : (b : Bool) → even block ≡ b → cond b (between 6 (pack_of (sw2_in (block_at track block))) 7) (eqb (pack_of (sw2_in (block_at track block))) 0) ≡ true
          → cond b (get_or (packs_of track) (block / 2) 0) 0 ≡ pack_of (sw2_in (block_at track block))
      by true x h =
          let whole : 2 * (block / 2) ≡ block = omega (arith, eqb-true (block % 2) 0 x) in
          get_of_turns (λ (k : ℕ). pack_of (sw2_in (block_at track (2 * k)))) 8 (block / 2) (omega arith)
          ∙ ap (λ (n : ℕ). pack_of (sw2_in (block_at track n))) whole
      by false x h = sym (eqb-true (pack_of (sw2_in (block_at track block))) 0 h)

  places_held : (block : ℕ) → block < 16 → places_in (items_of track) block ≡ data_part_in (block_at track block)
  unfolding items_of
  places_held block less = chunk_of_turns _ 32 16 (length_data_part_at track r.long.track) block less

  track_again : track_of area (packs_of track) (items_of track) ≡ track
  unfolding track_of
  track_again = turns_same _ (block_at track) 0 16 each ∙ turns_chunks 35 16 track r.long.track
    where
      each : (block : ℕ) → block < 0 + 16 → block_of area (pack_in (packs_of track) block) block (places_in (items_of track) block) ≡ block_at track block
      each block h =
          let less : block < 16 = omega arith in
          rw (pack_held block less, places_held block less) (block_again area block (block_at track block) (length_block_at track r.long.track block less) (sound_at block less))

  -- What it holds may be made into a track.
  allowed : area_kept area ≡ true
  unfolding sw1_kept
  allowed = let p = both (eqb (sw1_in (block_at track 0) % 16) 8) _ (sound_at 0 (omega arith)).sw1 in (both (eqb (sw1_in (block_at track 0) / 16) area) _ p.1).1

  length_packs : length (packs_of track) ≡ 8
  unfolding packs_of
  length_packs = length_turns _ 1 8 (λ k less. refl) 0 8 (omega arith)

  length_items : length (items_of track) ≡ 512
  unfolding items_of
  length_items = length_turns _ 32 16 (length_data_part_at track r.long.track) 0 16 (omega arith)

  may_be_made : (t n : ℕ) → t ≡ 560 → n ≡ 256 → MakeKept area (packs_of track) (length (items_of track)) t n
  may_be_made t n e f =
      record {
        long = record { track = e; packs = length_packs; items = length_items; numbers = f };
        allowed = allowed;
        each = λ block less. sym (pack_right (packs_of track) block _ (sym (pack_held block less)) (pack_kept_at block less));
      }

-- A slice after an accepted call.
filled : (a : TrackAnswer) (new old now : List ℕ) → a ≡ Accepted → now ≡ if_accepted (told a) new old → now ≡ new
filled a new old now e f = f ∙ ap (λ (b : TrackAnswer). if_accepted (told b) new old) e

-- "Reading gives back what was made": it accepts, and gives back Pack IDs, Item numbers and items, the closes of Pack ID 6 as zeros.
pub subdata_returned : (area frame : ℕ) (packs items old old' track numbers : List ℕ) → Makes area frame packs items old old' Accepted track numbers
    → (lent lent' lent'' : List ℕ) → length lent ≡ 8 → length lent' ≡ 512 → length lent'' ≡ 256
    → (a : TrackAnswer) (packs' items' numbers' : List ℕ) → Reads area frame track lent lent' lent'' a packs' items' numbers'
    → (a ≡ Accepted) × ((packs' ≡ packs) × ((items' ≡ items_given_back packs items) × (numbers' ≡ numbers)))
subdata_returned area frame packs items old old' track numbers w lent lent' lent'' l l' l'' a packs' items' numbers' r =
    let m = make_kept area packs (length items) (length old) (length old') (sym w.answer) in
    let long : length (track_of area packs items) ≡ 560 = length_made area packs items _ _ m in
    let made : read_call area track (length lent) (length lent') (length lent'') ≡ Accepted =
    rw w.track_left (read_accepts area (track_of area packs items) (length lent) (length lent') (length lent'') (record { long = record { track = long; packs = l; items = l'; numbers = l'' }; each = no_fault_made area packs items _ _ m })) in
    let e : a ≡ Accepted = r.answer ∙ made in (
      e,
      (
        filled a _ _ _ e r.packs_left ∙ ap packs_of w.track_left ∙ packs_made area packs items _ _ m,
        (
          filled a _ _ _ e r.items_left ∙ ap items_of w.track_left ∙ items_made area packs items _ _ m,
          filled a _ _ _ e r.numbers_left ∙ sym w.numbers_left,
        ),
      ),
    )

-- "a track that reading accepts is exactly what making gives from what reading returned"
pub subdata_only_made : (area frame : ℕ) (track lent lent' lent'' packs items numbers : List ℕ) → Reads area frame track lent lent' lent'' Accepted packs items numbers
    → (old old' : List ℕ) → length old ≡ 560 → length old' ≡ 256
    → (a : TrackAnswer) (track' numbers' : List ℕ) → Makes area frame packs items old old' a track' numbers'
    → (a ≡ Accepted) × ((track' ≡ track) × (numbers' ≡ numbers))
subdata_only_made area frame track lent lent' lent'' packs items numbers r old old' l l' a track' numbers' w =
    let k = read_kept area track (length lent) (length lent') (length lent'') (sym r.answer) in
    let made : make_call area packs (length items) (length old) (length old') ≡ Accepted =
    rw (r.packs_left, r.items_left) (make_accepts area (packs_of track) (length (items_of track)) (length old) (length old') (may_be_made area track _ _ _ k (length old) (length old') l l')) in
    let e : a ≡ Accepted = w.answer ∙ made in
    let same : track_of area packs items ≡ track = rw (r.packs_left, r.items_left) (track_again area track _ _ _ k) in (
      e,
      (
        filled a _ _ _ e w.track_left ∙ same,
        filled a _ _ _ e w.numbers_left ∙ sym r.numbers_left,
      ),
    )
