-- Change request 2026-09: blocks of one size from C, with every byte worked out by hand. 126,632 is 01 EE A8, 513 is 02 01, 300
-- is 01 2C.
-- Assumes nothing.
use Rattle.std.specs.Prelude.{ℕ, List, [], ◌∷◌, ◌++◌, replicate}
use Rattle.slices.specs.Call.{Left, left}
use Rattle.c_blocks.specs.Calls.{dds_blocks_start, dds_blocks_read, dds_blocks_find}

-- Slices of EE: a start with blocks of 300 bytes; block size 0; 16,777,216; first number 0 as well, which is 3; a state slice
-- of 24 bytes.
abbrev pub starts_shown : List Left
starts_shown =
    dds_blocks_start 126632 513 300 (replicate 28 0xEE) (replicate 24 0xEE)
    ∷ dds_blocks_start 64 1 0 (replicate 28 0xEE) (replicate 24 0xEE)
    ∷ dds_blocks_start 64 1 16777216 (replicate 28 0xEE) (replicate 24 0xEE)
    ∷ dds_blocks_start 64 0 0 (replicate 28 0xEE) (replicate 24 0xEE)
    ∷ dds_blocks_start 64 1 1 (replicate 24 0xEE) (replicate 24 0xEE)
    ∷ []

abbrev pub start_refused : ℕ → Left
start_refused refusal = left refusal (replicate 28 0xEE ∷ []) (0 ∷ 0 ∷ 0 ∷ refusal ∷ replicate 20 0)

abbrev pub starts_expected : List Left
starts_expected =
    left 0 ((0x00 ∷ 0x01 ∷ 0xEE ∷ 0xA8 ∷ 0x00 ∷ 0x00 ∷ 0x02 ∷ 0x01 ∷ replicate 16 0 ++ (0x00 ∷ 0x00 ∷ 0x01 ∷ 0x2C ∷ [])) ∷ []) (replicate 24 0)
    ∷ start_refused 50
    ∷ start_refused 50
    ∷ start_refused 3
    ∷ left 1 (replicate 24 0xEE ∷ []) (replicate 24 0xEE)
    ∷ []

-- The state slice with L = 64 that is free, b4 clear: the last bytes of its next number, of accepted and of its block size.
abbrev pub state_with : (next accepted block : ℕ) → List ℕ
state_with next accepted block = 0 ∷ 0 ∷ 0 ∷ 0x40 ∷ 0 ∷ 0 ∷ 0 ∷ next ∷ replicate 15 0 ++ (accepted ∷ 0 ∷ 0 ∷ 0 ∷ block ∷ [])

-- A group of 64 bytes with an entire record of so many bytes, and a second entry of this flag and count.
abbrev pub group_of : (entire flag count : ℕ) → List ℕ
group_of entire flag count = replicate 24 0x41 ++ (flag ∷ 0 ∷ 0 ∷ count ∷ 0x63 ∷ 0 ∷ 0 ∷ entire ∷ replicate 32 0)

-- A read of two entries with number 1, rows and answer of EE.
abbrev pub read_of : (state group : List ℕ) → Left
read_of state group = dds_blocks_read state group 1 2 (replicate 25 0xEE) (replicate 24 0xEE)

-- Five bytes and a skip of 59, in blocks of 5; in blocks of 6; the same record before flag 43, in blocks of 5 and of 6; an
-- entire record of 0 bytes; block size 0; the group once more, as a repeat.
abbrev pub reads_shown : List Left
reads_shown =
    read_of (state_with 1 0 5) (group_of 5 0x80 0x3B)
    ∷ read_of (state_with 1 0 6) (group_of 5 0x80 0x3B)
    ∷ read_of (state_with 1 0 5) (group_of 5 0x43 0x3B)
    ∷ read_of (state_with 1 0 6) (group_of 5 0x43 0x3B)
    ∷ read_of (state_with 1 0 6) (group_of 0 0x80 0x3B)
    ∷ read_of (state_with 1 0 0) (group_of 5 0x80 0x3B)
    ∷ read_of (state_with 2 1 6) (group_of 5 0x80 0x3B)
    ∷ []

abbrev pub read_refused : (refusal place : ℕ) (state : List ℕ) → Left
read_refused refusal place state = left refusal (state ∷ replicate 25 0xEE ∷ []) (0 ∷ 0 ∷ 0 ∷ refusal ∷ 0 ∷ 0 ∷ 0 ∷ place ∷ replicate 16 0)

-- The rows: entire at 0 of 5 bytes, skip at 5 of 59. 51 at 1 comes before 8 at 2, and 19 at 1 before 51 there.
abbrev pub reads_expected : List Left
reads_expected =
    left 0
    (state_with 2 1 5
    ∷ (0 ∷ 0 ∷ 0 ∷ 6 ∷ 0 ∷ 0 ∷ 0 ∷ 0 ∷ 0 ∷ 0 ∷ 0 ∷ 5 ∷ 0 ∷ 0 ∷ 0 ∷ 7 ∷ 0 ∷ 0 ∷ 0 ∷ 5 ∷ 0 ∷ 0 ∷ 0 ∷ 0x3B ∷ 0xEE ∷ [])
    ∷ [])
    (replicate 24 0)
    ∷ read_refused 51 1 (state_with 1 0 6)
    ∷ read_refused 8 2 (state_with 1 0 5)
    ∷ read_refused 51 1 (state_with 1 0 6)
    ∷ read_refused 19 1 (state_with 1 0 6)
    ∷ read_refused 1 0 (state_with 1 0 0)
    ∷ left 0 (state_with 2 1 6 ∷ replicate 25 0xEE ∷ []) (replicate 11 0 ++ (2 ∷ replicate 12 0))
    ∷ []

-- Rows as bytes: a last of 5 bytes at 0, an entire record at 5, a start at 10; one byte too few for a fourth.
abbrev pub rows : List ℕ
rows =
    replicate 3 0 ++ (5 ∷ replicate 7 0) ++ (5 ∷ replicate 3 0) ++ (6 ∷ replicate 3 0) ++ (5 ∷ replicate 3 0) ++ (5 ∷ replicate 3 0) ++ (4 ∷ replicate 3 0)
    ++ (10 ∷ replicate 3 0) ++ (9 ∷ replicate 3 0) ++ (4 ∷ replicate 7 0)

-- Seven blocks were begun before: block 6, 7, 8, 9; an answer of 23 bytes.
abbrev pub finds_shown : List Left
finds_shown =
    dds_blocks_find rows 7 6 (replicate 24 0xEE)
    ∷ dds_blocks_find rows 7 7 (replicate 24 0xEE)
    ∷ dds_blocks_find rows 7 8 (replicate 24 0xEE)
    ∷ dds_blocks_find rows 7 9 (replicate 24 0xEE)
    ∷ dds_blocks_find rows 7 7 (replicate 23 0xEE)
    ∷ []

abbrev pub begins_at : ℕ → Left
begins_at offset = left 0 [] (replicate 11 0 ++ (1 ∷ 0 ∷ 0 ∷ 0 ∷ offset ∷ replicate 8 0))

abbrev pub finds_expected : List Left
finds_expected =
    left 0 [] (replicate 24 0)
    ∷ begins_at 5
    ∷ begins_at 10
    ∷ left 0 [] (replicate 24 0)
    ∷ left 1 [] (replicate 23 0xEE)
    ∷ []
