-- Laws of the blocks of a track: where each stands, and how long it and its places are.
-- Assumes nothing.
use mathlib.Core.Path.{◌≡◌, refl, ap, ◌∙◌}
use mathlib.Core.List.{List, []}
use Prim.Native.Nat.{ℕ, ◌+◌, ◌*◌, ◌/◌, ◌<◌}
use native.Mathlib.Omega.{arith}
use lib.ListN.{length, get_or, take, drop, length-drop}
use lib.Seq.{length-take-le, take_all, get_or-take, get_or-drop}
use Rattle.std.specs.Simd.{first_chunks}
use Rattle.items.proofs.Turns.{chunk_read, Wide}
use Rattle.block.specs.Block.{block_of, sw2_in, data_part_in}
use Rattle.block.proofs.BlockLaws.{length_block}
use Rattle.track.specs.Blocks.{pack_in, places_in, block_at}

-- The places of a block, as they are lent and as they stand in a track.
pub length_places : (items : List ℕ) → length items ≡ 512 → (block : ℕ) → block < 16 → length (places_in items block) ≡ 32
length_places items long block less = length-take-le 32 (drop (32 * block) items) (omega (arith, length-drop (32 * block) items))

pub sw2_at : (track : List ℕ) (block : ℕ) → sw2_in (block_at track block) ≡ get_or track (35 * block + 1) 0
sw2_at track block = get_or-take 35 (drop (35 * block) track) 1 0 (omega arith) ∙ get_or-drop (35 * block) track 1 0

-- A block, and a block's places, read from the chunks of a whole track and of its items.
pub block_read : (track : List ℕ) (block k : ℕ) → length track ≡ 560 → block < 16 → k ≡ block
    → get_or (first_chunks 35 (length track / 35) track) k [] ≡ block_at track block
block_read track block k long less e = rw (e, long) (chunk_read 35 16 track block less)

pub places_read : (items : List ℕ) (block k : ℕ) → length items ≡ 512 → block < 16 → k ≡ block
    → get_or (first_chunks 32 (length items / 32) items) k [] ≡ places_in items block
places_read items block k long less e = rw (e, long) (chunk_read 32 16 items block less)

-- A block of a whole track.
pub length_block_at : (track : List ℕ) → length track ≡ 560 → (block : ℕ) → block < 16 → length (block_at track block) ≡ 35
length_block_at track long block less = length-take-le 35 (drop (35 * block) track) (omega (arith, length-drop (35 * block) track))

pub length_data_part_at : (track : List ℕ) → length track ≡ 560 → (block : ℕ) → block < 16 → length (data_part_in (block_at track block)) ≡ 32
length_data_part_at track long block less = length-drop 3 (block_at track block) ∙ omega (arith, length_block_at track long block less)

-- What stands at a block's places, read so.
pub data_part_read : (track : List ℕ) → length track ≡ 560 → (block : ℕ) → block < 16
    → take 32 (drop 3 (get_or (first_chunks 35 (length track / 35) track) block [])) ≡ data_part_in (block_at track block)
data_part_read track long block less =
    ap (λ (b : List ℕ). take 32 (drop 3 b)) (block_read track block block long less refl)
    ∙ take_all 32 (data_part_in (block_at track block)) (omega (arith, length_data_part_at track long block less))

-- Each block that is made has its length.
pub blocks_wide : (area : ℕ) (packs items : List ℕ) → length items ≡ 512 → Wide (λ (block : ℕ). block_of area (pack_in packs block) block (places_in items block)) 35 16
blocks_wide area packs items long block less = length_block area (pack_in packs block) block (places_in items block) (length_places items long block less)
