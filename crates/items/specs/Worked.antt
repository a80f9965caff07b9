-- Source document 003, Table 3, "Pack Item Location": the Item numbers of a block of each of its rows, with both values of X. The
-- Pack ID, which changes none of them, stands in the headings alone. What is expected is written out whole.
-- Assumes nothing.
use Rattle.std.specs.Prelude.{ℕ, ◌*◌, List, [], ◌∷◌, ◌++◌}
use Rattle.numbers.specs.Numbers.{listed}
use Rattle.items.specs.Items.{item_number}

-- A row of Table 3: a block's number, the track's Area ID and frame number, and the contents, 0 for a close.
pub record Row : Type 0 where
  pub block : ℕ
  pub area : ℕ
  pub frame : ℕ
  pub contents : List ℕ

abbrev pub row : (block area frame : ℕ) (contents : List ℕ) → Row
row block area frame contents = record { block = block; area = area; frame = frame; contents = contents }

-- The Item numbers of the block's four places.
abbrev pub numbers_of_row : Row → List ℕ
numbers_of_row r = listed (item_number r.area r.frame) (4 * r.block) 4

abbrev pub contents_of_row : Row → List ℕ
contents_of_row r = r.contents

-- Even blocks, Pack ID 6: the Data Area, the System Area in its log and outside it, the Reference and the EOD Area.
abbrev pub even_six : List Row
even_six =
    row 0 12 1000 (1 ∷ 2 ∷ 3 ∷ 0 ∷ [])
    ∷ row 2 10 71 (5 ∷ 7 ∷ 3 ∷ 0 ∷ [])
    ∷ row 4 2 70 (3 ∷ 3 ∷ 3 ∷ 0 ∷ [])
    ∷ row 6 9 20 (3 ∷ 3 ∷ 3 ∷ 0 ∷ [])
    ∷ row 8 5 2000 (3 ∷ 3 ∷ 3 ∷ 0 ∷ [])
    ∷ []

-- Even blocks, Pack ID 7: the same areas.
abbrev pub even_seven : List Row
even_seven =
    row 10 4 71 (1 ∷ 2 ∷ 3 ∷ 0 ∷ [])
    ∷ row 12 2 95 (5 ∷ 7 ∷ 3 ∷ 0 ∷ [])
    ∷ row 14 10 96 (3 ∷ 3 ∷ 3 ∷ 0 ∷ [])
    ∷ row 0 1 95 (3 ∷ 3 ∷ 3 ∷ 0 ∷ [])
    ∷ row 2 13 80 (3 ∷ 3 ∷ 3 ∷ 0 ∷ [])
    ∷ []

-- Odd blocks, Pack ID 6: the same areas.
abbrev pub odd_six : List Row
odd_six =
    row 1 12 95 (1 ∷ 2 ∷ 4 ∷ 0 ∷ [])
    ∷ row 3 10 95 (6 ∷ 8 ∷ 4 ∷ 0 ∷ [])
    ∷ row 5 10 96 (4 ∷ 4 ∷ 4 ∷ 0 ∷ [])
    ∷ row 7 9 71 (4 ∷ 4 ∷ 4 ∷ 0 ∷ [])
    ∷ row 9 13 90 (4 ∷ 4 ∷ 4 ∷ 0 ∷ [])
    ∷ []

-- Odd blocks, Pack ID 7: the same areas.
abbrev pub odd_seven : List Row
odd_seven =
    row 11 4 0 (1 ∷ 2 ∷ 4 ∷ 0 ∷ [])
    ∷ row 13 2 71 (6 ∷ 8 ∷ 4 ∷ 0 ∷ [])
    ∷ row 15 2 70 (4 ∷ 4 ∷ 4 ∷ 0 ∷ [])
    ∷ row 1 1 72 (4 ∷ 4 ∷ 4 ∷ 0 ∷ [])
    ∷ row 3 5 94 (4 ∷ 4 ∷ 4 ∷ 0 ∷ [])
    ∷ []

abbrev pub table_three : List Row
table_three = even_six ++ even_seven ++ odd_six ++ odd_seven
