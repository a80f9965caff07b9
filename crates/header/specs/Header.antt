-- Source document 003, 9.4.9.1: the Header of a Sub Data Block, SW1, SW2 and parity, made and taken apart.
-- Assumes nothing.
use Rattle.std.specs.Prelude.{ℕ, ◌+◌, ◌*◌, ◌/◌, ◌%◌, List, [], ◌∷◌, Bool, cond, ◌&&◌, ◌||◌, eqb, leb}
use Rattle.std.specs.Int.Bits.{bit_xor}
use Rattle.numbers.specs.Numbers.{between}

-- 9.4.9: "a 3-byte Header"
abbrev pub header_length : ℕ
header_length = 3

-- 9.4.9.1: "Even Block Number", and otherwise odd.
abbrev pub even : ℕ → Bool
even block = eqb (block % 2) 0

-- 9.4.9.1.1: the Area ID's four bits without the first, X.
abbrev pub tape_area : ℕ → ℕ
tape_area area = area % 8

-- 9.4.9.1.1: "X001 : Reference Area"
abbrev pub reference_area : ℕ
reference_area = 1

-- 9.4.9.1.1: "X010 : System Area"
abbrev pub system_area : ℕ
system_area = 2

-- 9.4.9.1.1: "X100 : Data Area"
abbrev pub data_area : ℕ
data_area = 4

-- 9.4.9.1.1: "X101 : EOD Area"
abbrev pub eod_area : ℕ
eod_area = 5

-- 9.4.9.1.1: four bits, those of one of these areas. The Device Area's 0000 is left out by 2026-01; "Other settings .. are prohibited".
unfoldable pub area_kept : ℕ → Bool
area_kept area =
    leb area 15
    && (eqb (tape_area area) reference_area
    || (eqb (tape_area area) system_area
    || (eqb (tape_area area) data_area || eqb (tape_area area) eod_area)))

-- 9.4.9.1.1, figure 42: the Area ID in b8 to b5 over 1000 in an even block, zero in an odd one.
abbrev pub sw1_of : ℕ → ℕ → ℕ
sw1_of area block = cond (even block) (16 * area + 8) 0

-- 9.4.9.1.2, figure 43: b8 set, the Pack ID in b7 to b5, the block number in b4 to b1. An odd block's Pack ID is 000.
abbrev pub sw2_of : ℕ → ℕ → ℕ
sw2_of pack block = 128 + 16 * pack + block

-- 9.4.9.1.3: "(SW1 + SW2), where + is the Exclusive OR operator"
abbrev pub parity_of : ℕ → ℕ → ℕ
parity_of sw1 sw2 = bit_xor sw1 sw2

-- 9.4.9.1: "2 bytes: Sub ID, SW1 and SW2", "1 byte: Sub ID, Parity"
unfoldable pub header_of : (area pack block : ℕ) → List ℕ
header_of area pack block =
    sw1_of area block ∷ sw2_of pack block ∷ parity_of (sw1_of area block) (sw2_of pack block) ∷ []

-- 9.4.9.1.2: the Pack ID, b7 to b5 of SW2.
abbrev pub pack_of : ℕ → ℕ
pack_of sw2 = sw2 / 16 % 8

-- 9.4.9.1.2: "This number shall be either 6 or 7"; "on blocks with odd Block Numbers these bits shall be set to 000".
abbrev pub pack_kept : ℕ → ℕ → Bool
pack_kept block pack = cond (even block) (between 6 pack 7) (eqb pack 0)

-- 9.4.9.1.1: SW1 is that of a block of a track with this Area ID, which is one of those allowed.
unfoldable pub sw1_kept : (area block sw1 : ℕ) → Bool
sw1_kept area block sw1 =
    cond (even block) (eqb (sw1 % 16) 8 && (eqb (sw1 / 16) area && area_kept area)) (eqb sw1 0)

-- 9.4.9.1.2: SW2 is that of a block with this number.
unfoldable pub sw2_kept : ℕ → ℕ → Bool
sw2_kept block sw2 = eqb (sw2 / 128) 1 && (pack_kept block (pack_of sw2) && eqb (sw2 % 16) block)
