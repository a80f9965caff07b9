-- Source document 003, Table 3: a block of each of its rows. What is expected is written out whole, 35 bytes: its header, the items
-- that were lent, and its close, "(00)" or as it was lent.
-- Assumes nothing.
use Rattle.std.specs.Prelude.{ℕ, List, ◌++◌, replicate}
use Rattle.header.specs.Worked.{Row, own_pack}
use Rattle.block.specs.Block.{block_of}
use Rattle.block.specs.Faults.{block_fault}

-- What is lent at each block's places: three items and a close.
abbrev pub lent_items : List ℕ
lent_items = replicate 8 0x11 ++ replicate 8 0x22 ++ replicate 8 0x33

abbrev pub lent_close : List ℕ
lent_close = replicate 8 0x44

-- "(00)": a close of zeros.
abbrev pub zero_close : List ℕ
zero_close = replicate 8 0

-- The block that is made of it, and the refusal that it meets.
abbrev pub block_made : Row → List ℕ
block_made row = block_of row.area (own_pack row) row.block (lent_items ++ lent_close)

abbrev pub fault_made : Row → ℕ
fault_made row = block_fault row.area row.block (block_made row)

-- What is expected of it.
abbrev pub block_expected : (close : List ℕ) → Row → List ℕ
block_expected close row = row.bytes ++ lent_items ++ close
