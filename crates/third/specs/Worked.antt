-- Change request 2026-08: worked columns, two in one buffer, and worked refusals. What is expected is written out whole.
-- Assumes nothing.
use Rattle.std.specs.Prelude.{ℕ, List, [], ◌∷◌, ◌++◌, map, replicate}
use Rattle.answer.specs.Answer.{numbers_told}
use Rattle.column.specs.Column.{last_row, Column, column, restored_one, restored_two, mended}
use Rattle.restoring.specs.Rows.{each_column}
use Rattle.third.specs.Answer.{first_check_row, make_call, one_call, two_call, mend_call, check_call, told}

-- 46 rows of two bytes: the two bytes of row 0, of row 43 and of the two rows of check bytes; the others are zeros.
abbrev pub rows : (first last check check' : List ℕ) → List ℕ
rows first last check check' = first ++ replicate 84 0 ++ last ++ check ++ check'

-- Column 0 has 80 in row 0, column 1 has 01 in row 43. Their check bytes are 87, 07 and 03, 02 by the two sums, whose weights are
-- α^45, α^2, α and 1 there: 80 + 87 + 07 = 0 and 14 + 13 + 07 = 0; 01 + 03 + 02 = 0 and 04 + 06 + 02 = 0.
abbrev pub written : List ℕ
written = rows (0x80 ∷ 0x00 ∷ []) (0x00 ∷ 0x01 ∷ []) (0x87 ∷ 0x03 ∷ []) (0x07 ∷ 0x02 ∷ [])

-- "make the two check rows": the whole buffer, whatever they held.
abbrev pub made : List ℕ
made = each_column (restored_two first_check_row last_row) 2 (rows (0x80 ∷ 0x00 ∷ []) (0x00 ∷ 0x01 ∷ []) (0xEE ∷ 0xEE ∷ []) (0xDD ∷ 0xDD ∷ []))

-- What f makes of rows 0, 43, 44 and 45, column by column.
abbrev pub after : (f : Column → Column) (lent : List ℕ) → List (List ℕ)
after f lent = map (f (column lent 2 0)) (0 ∷ 43 ∷ 44 ∷ 45 ∷ []) ∷ map (f (column lent 2 1)) (0 ∷ 43 ∷ 44 ∷ 45 ∷ []) ∷ []

-- Row 43 restored, and rows 0 and 43, whatever they held; one wrong byte of each column mended.
abbrev pub columns : List (List (List ℕ))
columns =
    after (restored_one 43) (rows (0x80 ∷ 0x00 ∷ []) (0xEE ∷ 0xEE ∷ []) (0x87 ∷ 0x03 ∷ []) (0x07 ∷ 0x02 ∷ []))
    ∷ after (restored_two 0 43) (rows (0xEE ∷ 0xEE ∷ []) (0xDD ∷ 0xDD ∷ []) (0x87 ∷ 0x03 ∷ []) (0x07 ∷ 0x02 ∷ []))
    ∷ after mended (rows (0x80 ∷ 0xEE ∷ []) (0x00 ∷ 0x01 ∷ []) (0x87 ∷ 0x03 ∷ []) (0xDD ∷ 0x02 ∷ []))
    ∷ []

abbrev pub as_written : List (List ℕ)
as_written = (0x80 ∷ 0x00 ∷ 0x87 ∷ 0x07 ∷ []) ∷ (0x00 ∷ 0x01 ∷ 0x03 ∷ 0x02 ∷ []) ∷ []

abbrev pub columns_expected : List (List (List ℕ))
columns_expected = as_written ∷ as_written ∷ as_written ∷ []

-- Rows with EE added to two bytes of column 1: its bytes still add to zero, and no single change mends it.
abbrev pub hopeless : List ℕ
hopeless = rows (0x80 ∷ 0xEE ∷ []) (0x00 ∷ 0xEF ∷ []) (0x87 ∷ 0x03 ∷ []) (0x07 ∷ 0x02 ∷ [])

-- What checking and mending tell: of the written rows, of one wrong byte, and of those; 43 tells the column.
abbrev pub answers : List (List ℕ)
answers =
    numbers_told (told (check_call written 2))
    ∷ numbers_told (told (mend_call written 2))
    ∷ numbers_told (told (check_call (rows (0x80 ∷ 0x00 ∷ []) (0x00 ∷ 0x01 ∷ []) (0x87 ∷ 0x03 ∷ []) (0xDD ∷ 0x02 ∷ [])) 2))
    ∷ numbers_told (told (check_call hopeless 2))
    ∷ numbers_told (told (mend_call hopeless 2))
    ∷ []

abbrev pub answers_expected : List (List ℕ)
answers_expected =
    (0 ∷ 0 ∷ 0 ∷ 0 ∷ 0 ∷ 0 ∷ [])
    ∷ (0 ∷ 0 ∷ 0 ∷ 0 ∷ 0 ∷ 0 ∷ [])
    ∷ (0 ∷ 0 ∷ 1 ∷ 0 ∷ 0 ∷ 0 ∷ [])
    ∷ (0 ∷ 0 ∷ 1 ∷ 0 ∷ 0 ∷ 0 ∷ [])
    ∷ (43 ∷ 1 ∷ 0 ∷ 0 ∷ 0 ∷ 0 ∷ [])
    ∷ []

-- The refusals by lengths and rows: 40 for no row length, for one byte too few, and before 41; 41 for row 46; 41 before 42, "in that
-- order", for the same row twice above 45; 42 for the same row twice.
abbrev pub refusals : List (List ℕ)
refusals =
    numbers_told (told (make_call 0 0))
    ∷ numbers_told (told (make_call 91 2))
    ∷ numbers_told (told (one_call 91 2 46))
    ∷ numbers_told (told (one_call 92 2 46))
    ∷ numbers_told (told (two_call 92 2 46 46))
    ∷ numbers_told (told (two_call 92 2 45 46))
    ∷ numbers_told (told (two_call 92 2 45 45))
    ∷ []

abbrev pub refusals_expected : List (List ℕ)
refusals_expected =
    (40 ∷ 0 ∷ 0 ∷ 0 ∷ 0 ∷ 0 ∷ [])
    ∷ (40 ∷ 0 ∷ 0 ∷ 0 ∷ 0 ∷ 0 ∷ [])
    ∷ (40 ∷ 0 ∷ 0 ∷ 0 ∷ 0 ∷ 0 ∷ [])
    ∷ (41 ∷ 0 ∷ 0 ∷ 0 ∷ 0 ∷ 0 ∷ [])
    ∷ (41 ∷ 0 ∷ 0 ∷ 0 ∷ 0 ∷ 0 ∷ [])
    ∷ (41 ∷ 0 ∷ 0 ∷ 0 ∷ 0 ∷ 0 ∷ [])
    ∷ (42 ∷ 0 ∷ 0 ∷ 0 ∷ 0 ∷ 0 ∷ [])
    ∷ []
