-- Source document 003, 9.4.9, and change request 2026-01: the blocks of a track, and the lengths of the slices that are lent for
-- it.
-- Assumes nothing.
use Rattle.std.specs.Prelude.{ℕ}

-- 9.4.9: "There shall be 16 such Sub Data Blocks per track."
abbrev pub block_count : ℕ
block_count = 16

-- 2026-01, the slices: the track, 16 blocks.
abbrev pub track_length : ℕ
track_length = 560

-- The Pack IDs: one byte for each even block.
abbrev pub packs_length : ℕ
packs_length = 8

-- The items, place by place.
abbrev pub items_length : ℕ
items_length = 512
