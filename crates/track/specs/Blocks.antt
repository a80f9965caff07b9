-- Source document 003, 9.4.9: a track of Sub Data Blocks, made of what is lent for it, and what it holds.
-- Assumes nothing.
use Rattle.std.specs.Prelude.{ℕ, ◌*◌, ◌/◌, List, [], ◌∷◌, cond, get_or}
use Rattle.header.specs.Header.{even, pack_of}
use Rattle.items.specs.Turns.{chunk, in_turn}
use Rattle.block.specs.Block.{block_length, data_part_length, data_part_of, block_of, sw2_in, data_part_in}
use Rattle.track.specs.Sizes.{block_count, packs_length}

-- 2026-01, "the block's own Pack ID": among those lent, one for each even block; 000 for an odd one.
abbrev pub pack_in : List ℕ → ℕ → ℕ
pack_in packs block = cond (even block) (get_or packs (block / 2) 0) 0

-- 2026-01, "lent place by place": a block's four places, 32 bytes.
abbrev pub places_in : List ℕ → ℕ → List ℕ
places_in items block = chunk data_part_length items block

-- 9.4.9: the track that is made, its 16 blocks "numbered sequentially".
unfoldable pub track_of : (area : ℕ) (packs items : List ℕ) → List ℕ
track_of area packs items = in_turn (λ (block : ℕ). block_of area (pack_in packs block) block (places_in items block)) 0 block_count

-- A block of a track.
abbrev pub block_at : List ℕ → ℕ → List ℕ
block_at track block = chunk block_length track block

-- What reading gives back: the Pack IDs of a track's even blocks,
unfoldable pub packs_of : List ℕ → List ℕ
packs_of track = in_turn (λ (k : ℕ). pack_of (sw2_in (block_at track (2 * k))) ∷ []) 0 packs_length

-- and what stands at each place, as it stands there.
unfoldable pub items_of : List ℕ → List ℕ
items_of track = in_turn (λ (block : ℕ). data_part_in (block_at track block)) 0 block_count

-- What reading gives back of the items that a track was made of: zeros at the close of each block with Pack ID 6.
unfoldable pub items_given_back : List ℕ → List ℕ → List ℕ
items_given_back packs items =
    in_turn (λ (block : ℕ). data_part_of (pack_in packs block) (places_in items block)) 0 block_count
