-- Change request 2026-01: a track with the worked header C8 E0 28, made and read, and what is refused of it. What is expected of
-- its block is written out whole, 35 bytes, and of each refusal its number and its place.
-- Assumes nothing.
use Rattle.std.specs.Prelude.{ℕ, ◌+◌, ◌*◌, List, [], ◌∷◌, ◌++◌, replicate, set}
use Rattle.answer.specs.Answer.{numbers_told}
use Rattle.header.specs.Worked.{Row, worked_header}
use Rattle.items.specs.Turns.{in_turn}
use Rattle.block.specs.Worked.{lent_items, lent_close, zero_close, block_expected}
use Rattle.track.specs.Blocks.{track_of, block_at}
use Rattle.track.specs.Answer.{make_call, read_call, told}

-- What a block's header comes to: what making and reading tell, and the block of the track that is made.
pub record Shown : Type 0 where
  pub made : List ℕ
  pub read : List ℕ
  pub bytes : List ℕ

unfoldable pub made_of : Row → List ℕ
made_of row = track_of row.area (replicate 8 row.pack) (in_turn (λ (block : ℕ). lent_items ++ lent_close) 0 16)

unfoldable pub shown : Row → Shown
shown row =
    record {
      made = numbers_told (told (make_call row.area (replicate 8 row.pack) 512 560 256));
      read = numbers_told (told (read_call row.area (made_of row) 8 512 256));
      bytes = block_at (made_of row) row.block;
    }

-- What is expected of an even block with Pack ID 6: both accept, and it closes in zeros.
abbrev pub expected : Row → Shown
expected row =
    record {
      made = 0 ∷ 0 ∷ 0 ∷ 0 ∷ 0 ∷ 0 ∷ [];
      read = 0 ∷ 0 ∷ 0 ∷ 0 ∷ 0 ∷ 0 ∷ [];
      bytes = block_expected zero_close row;
    }

-- What is refused: the six numbers of a refusal.
abbrev pub refused_at : (refusal place : ℕ) → List ℕ
refused_at refusal place = refusal ∷ place ∷ 0 ∷ 0 ∷ 0 ∷ 0 ∷ []

-- The track with other bytes: SW2 and parity of a block, its parity alone, the last byte of its close.
abbrev pub with_sw2 : (block sw2 parity : ℕ) (track : List ℕ) → List ℕ
with_sw2 block sw2 parity track = set (set track (35 * block + 1) sw2) (35 * block + 2) parity

abbrev pub with_parity : (block parity : ℕ) (track : List ℕ) → List ℕ
with_parity block parity track = set track (35 * block + 2) parity

abbrev pub with_close : (block byte : ℕ) (track : List ℕ) → List ℕ
with_close block byte track = set track (35 * block + 34) byte

unfoldable pub told_making : (area : ℕ) (packs : List ℕ) (items : ℕ) → List ℕ
told_making area packs items = numbers_told (told (make_call area packs items 560 256))

unfoldable pub told_reading : (area : ℕ) (track : List ℕ) (packs : ℕ) → List ℕ
told_reading area track packs = numbers_told (told (read_call area track packs 512 256))

-- "making gives 30, 32 for the Area ID, 33 for a Pack ID other than 6 or 7": items one byte short; the Device Area's, and before 33;
-- Pack ID 5 in block 4.
abbrev pub making_refused : List (List ℕ)
making_refused =
    told_making 12 (replicate 8 6) 511
    ∷ told_making 0 (replicate 8 6) 512
    ∷ told_making 0 (replicate 8 5) 512
    ∷ told_making 12 (6 ∷ 7 ∷ 5 ∷ 6 ∷ 6 ∷ 6 ∷ 6 ∷ 5 ∷ []) 512
    ∷ []

abbrev pub making_expected : List (List ℕ)
making_expected = refused_at 30 0 ∷ refused_at 32 0 ∷ refused_at 32 0 ∷ refused_at 33 4 ∷ []

-- "30 wrong buffer length, then block by block from 0: 31 .., 32 .., 33 .., 34 ..": seven Pack IDs; block 3's parity 84 for 83; the
-- track read as another area's; block 5 with the number 6; block 2's close not zero; the same, and block 1's parity; block 5 with the
-- number 6 and its old parity.
unfoldable pub reading_refused : List ℕ → List (List ℕ)
reading_refused track =
    told_reading 12 track 7
    ∷ told_reading 12 (with_parity 3 0x84 track) 8
    ∷ told_reading 10 track 8
    ∷ told_reading 12 (with_sw2 5 0x86 0x86 track) 8
    ∷ told_reading 12 (with_close 2 0x01 track) 8
    ∷ told_reading 12 (with_parity 1 0x80 (with_close 2 0x01 track)) 8
    ∷ told_reading 12 (with_sw2 5 0x86 0x85 track) 8
    ∷ []

abbrev pub reading_expected : List (List ℕ)
reading_expected =
    refused_at 30 0 ∷ refused_at 31 3 ∷ refused_at 32 0 ∷ refused_at 33 5 ∷ refused_at 34 2 ∷ refused_at 31 1 ∷ refused_at 31 5 ∷ []

abbrev pub refused : List (List ℕ)
refused = making_refused ++ reading_refused (made_of worked_header)

abbrev pub refused_expected : List (List ℕ)
refused_expected = making_expected ++ reading_expected
