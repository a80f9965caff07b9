-- Source document 003, 9.4.9.1: the Area IDs and the Pack IDs that are allowed, one after another, and headers of blocks of each
-- row of Table 3, with the worked header C8 E0 28 of change request 2026-01. What is expected is written out whole.
-- Assumes nothing.
use Rattle.std.specs.Prelude.{ℕ, List, [], ◌∷◌, ◌++◌, Bool, true, false, cond}
use Rattle.numbers.specs.Numbers.{listed}
use Rattle.header.specs.Header.{even, area_kept, pack_kept, header_of}

-- The Area IDs from 0000 to 1111, and one of five bits.
abbrev pub areas : List Bool
areas = listed area_kept 0 17

-- "0000 : Device Area", left out by 2026-01; then X001, X010, X100 and X101 without X; the same with X; five bits never.
abbrev pub areas_allowed : List Bool
areas_allowed =
    false
    ∷ true
    ∷ true
    ∷ false
    ∷ true
    ∷ true
    ∷ false
    ∷ false
    ∷ false
    ∷ true
    ∷ true
    ∷ false
    ∷ true
    ∷ true
    ∷ false
    ∷ false
    ∷ false
    ∷ []

-- The Pack IDs from 0 to 8 in an even and in an odd block.
abbrev pub packs : List (List Bool)
packs = listed (pack_kept 0) 0 9 ∷ listed (pack_kept 1) 0 9 ∷ []

-- "either 6 or 7"; "set to 000".
abbrev pub packs_allowed : List (List Bool)
packs_allowed =
    (false ∷ false ∷ false ∷ false ∷ false ∷ false ∷ true ∷ true ∷ false ∷ [])
    ∷ (true ∷ false ∷ false ∷ false ∷ false ∷ false ∷ false ∷ false ∷ false ∷ [])
    ∷ []

-- A block: its number, its Pack ID (an odd block's is that of the even block before it), the track's Area ID, and the header's
-- three bytes.
pub record Row : Type 0 where
  pub block : ℕ
  pub pack : ℕ
  pub area : ℕ
  pub bytes : List ℕ

abbrev pub row : (block pack area : ℕ) (bytes : List ℕ) → Row
row block pack area bytes = record { block = block; pack = pack; area = area; bytes = bytes }

-- The Pack ID that the block itself has, and the header that is made for it.
abbrev pub own_pack : Row → ℕ
own_pack r = cond (even r.block) r.pack 0

abbrev pub made : Row → List ℕ
made r = header_of r.area (own_pack r) r.block

abbrev pub bytes_of_row : Row → List ℕ
bytes_of_row r = r.bytes

-- 2026-01: "area 1100, pack 6, block 0 gives C8 E0 28".
abbrev pub worked_header : Row
worked_header = row 0 6 12 (0xC8 ∷ 0xE0 ∷ 0x28 ∷ [])

-- Even blocks, Pack ID 6: the Data Area, the System Area twice, the Reference and the EOD Area.
abbrev pub even_six : List Row
even_six =
    worked_header
    ∷ row 2 6 10 (0xA8 ∷ 0xE2 ∷ 0x4A ∷ [])
    ∷ row 4 6 2 (0x28 ∷ 0xE4 ∷ 0xCC ∷ [])
    ∷ row 6 6 9 (0x98 ∷ 0xE6 ∷ 0x7E ∷ [])
    ∷ row 8 6 5 (0x58 ∷ 0xE8 ∷ 0xB0 ∷ [])
    ∷ []

-- Even blocks, Pack ID 7: the same areas.
abbrev pub even_seven : List Row
even_seven =
    row 10 7 4 (0x48 ∷ 0xFA ∷ 0xB2 ∷ [])
    ∷ row 12 7 2 (0x28 ∷ 0xFC ∷ 0xD4 ∷ [])
    ∷ row 14 7 10 (0xA8 ∷ 0xFE ∷ 0x56 ∷ [])
    ∷ row 0 7 1 (0x18 ∷ 0xF0 ∷ 0xE8 ∷ [])
    ∷ row 2 7 13 (0xD8 ∷ 0xF2 ∷ 0x2A ∷ [])
    ∷ []

-- Odd blocks, Pack ID 6: the same areas.
abbrev pub odd_six : List Row
odd_six =
    row 1 6 12 (0x00 ∷ 0x81 ∷ 0x81 ∷ [])
    ∷ row 3 6 10 (0x00 ∷ 0x83 ∷ 0x83 ∷ [])
    ∷ row 5 6 10 (0x00 ∷ 0x85 ∷ 0x85 ∷ [])
    ∷ row 7 6 9 (0x00 ∷ 0x87 ∷ 0x87 ∷ [])
    ∷ row 9 6 13 (0x00 ∷ 0x89 ∷ 0x89 ∷ [])
    ∷ []

-- Odd blocks, Pack ID 7: the same areas.
abbrev pub odd_seven : List Row
odd_seven =
    row 11 7 4 (0x00 ∷ 0x8B ∷ 0x8B ∷ [])
    ∷ row 13 7 2 (0x00 ∷ 0x8D ∷ 0x8D ∷ [])
    ∷ row 15 7 2 (0x00 ∷ 0x8F ∷ 0x8F ∷ [])
    ∷ row 1 7 1 (0x00 ∷ 0x81 ∷ 0x81 ∷ [])
    ∷ row 3 7 5 (0x00 ∷ 0x83 ∷ 0x83 ∷ [])
    ∷ []

abbrev pub headers : List Row
headers = even_six ++ even_seven ++ odd_six ++ odd_seven
