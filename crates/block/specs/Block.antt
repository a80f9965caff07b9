-- Source document 003, 9.4.9.2: the Data Part of a Sub Data Block, and a whole block, made and taken apart.
-- Assumes nothing.
use Rattle.std.specs.Prelude.{ℕ, ◌+◌, ◌*◌, List, ◌++◌, cond, eqb, get_or, take, drop, replicate}
use Rattle.header.specs.Header.{header_length, header_of}

-- 9.4.9: "A Sub Data Block shall consist of thirty five 8-bit bytes."
abbrev pub block_length : ℕ
block_length = 35

-- 9.4.9.2: the Data Part, four places of 8 bytes each: three Pack Items and the close.
abbrev pub item_length : ℕ
item_length = 8

abbrev pub data_part_length : ℕ
data_part_length = 32

-- 9.4.9.2: "either all set to all ZEROs if the Pack ID is set to 6": whatever was lent at that place. Any other close is carried.
abbrev pub close_of : ℕ → List ℕ → List ℕ
close_of pack close = cond (eqb pack 6) (replicate item_length 0) close

-- 9.4.9.2: "the first 24 bytes shall be three 8-byte Pack Items, the last eight bytes .."
abbrev pub data_part_of : ℕ → List ℕ → List ℕ
data_part_of pack places = take (3 * item_length) places ++ close_of pack (drop (3 * item_length) places)

-- 9.4.9: "a 3-byte Header", "three Pack Items", "8 bytes"
unfoldable pub block_of : (area pack block : ℕ) (places : List ℕ) → List ℕ
block_of area pack block places = header_of area pack block ++ data_part_of pack places

-- What stands in a block.
abbrev pub sw1_in : List ℕ → ℕ
sw1_in block = get_or block 0 0

abbrev pub sw2_in : List ℕ → ℕ
sw2_in block = get_or block 1 0

abbrev pub parity_in : List ℕ → ℕ
parity_in block = get_or block 2 0

abbrev pub data_part_in : List ℕ → List ℕ
data_part_in block = drop header_length block

abbrev pub close_in : List ℕ → List ℕ
close_in block = drop (header_length + 3 * item_length) block
