-- Source document 003, 9.4.9.4: Table 3, the Pack Item number of each place of a track.
-- Assumes nothing.
use Rattle.std.specs.Prelude.{ℕ, ◌+◌, ◌/◌, ◌%◌, List, [], ◌∷◌, cond, ◌&&◌, eqb, get_or}
use Rattle.numbers.specs.Numbers.{bytes_of, between}
use Rattle.header.specs.Header.{tape_area, system_area, data_area}
use Rattle.items.specs.Turns.{in_turn}

-- Place 4b + p of a track is place p of block b.
abbrev pub place_count : ℕ
place_count = 64

-- The Item numbers, four bytes for each place.
abbrev pub numbers_length : ℕ
numbers_length = 256

-- Table 3, column "Contents", 0 for a close: an even and an odd block of the Data Area, of the System Log, of all other rows.
unfoldable pub contents : List (List ℕ)
contents =
    (1 ∷ 2 ∷ 3 ∷ 0 ∷ [])
    ∷ (1 ∷ 2 ∷ 4 ∷ 0 ∷ [])
    ∷ (5 ∷ 7 ∷ 3 ∷ 0 ∷ [])
    ∷ (6 ∷ 8 ∷ 4 ∷ 0 ∷ [])
    ∷ (3 ∷ 3 ∷ 3 ∷ 0 ∷ [])
    ∷ (4 ∷ 4 ∷ 4 ∷ 0 ∷ [])
    ∷ []

-- 14.4.2: the System Log, "having the Absolute Frame Numbers 71 to 95".
abbrev pub log_first : ℕ
log_first = 71

abbrev pub log_last : ℕ
log_last = 95

-- Table 3: the even block's row, "X100"; "X010" and "70 < n < 96"; all others. The odd block's stands under it.
unfoldable pub row_of : ℕ → ℕ → ℕ
row_of area frame =
    cond (eqb (tape_area area) data_area) 0
    (cond (eqb (tape_area area) system_area && between log_first frame log_last) 2 4)

-- The Item number of place 4b + p: p is 0, 1 or 2 for block b's items and 3 for its close.
unfoldable pub item_number : (area frame place : ℕ) → ℕ
item_number area frame place = get_or (get_or contents (row_of area frame + place / 4 % 2) []) (place % 4) 0

-- All of them in the places' order, each as four bytes.
unfoldable pub numbers_of : ℕ → ℕ → List ℕ
numbers_of area frame = in_turn (λ (place : ℕ). bytes_of 4 (item_number area frame place)) 0 place_count
