-- Change request 2026-08: a column of the third code, its two rules, and what restoring and mending make of it. A column gives
-- the byte of each row i, "from 0 to 45".
-- Assumes nothing.
use Rattle.std.specs.Prelude.{◌≡◌, Bool, cond, ◌&&◌, List, ℕ, zero, suc, ◌+◌, ◌-◌, ◌*◌, ◌%◌, eqb, leb, ltb, get_or}
use Rattle.field.specs.Field.{◌⊕◌, times}
use Rattle.field.specs.Tables.{power_at, logarithm_at}

-- "46 rows"
abbrev pub row_count : ℕ
row_count = 46

-- "rows i, from 0 to 45"
abbrev pub last_row : ℕ
last_row = 45

abbrev pub Column : Type 0
Column = ℕ → ℕ

-- "46 rows of equal length in one lent buffer": row i of row length n stands from i * n on. Column c is its byte of each row.
unfoldable pub column : (rows : List ℕ) (n c : ℕ) → Column
column rows n c i = get_or rows (i * n + c) 0

-- f 0 + f 1 + .. + f (n − 1)
unfoldable pub total : (ℕ → ℕ) → ℕ → ℕ
total f zero = 0
total f (suc n) = total f n ⊕ f n

-- "the 46 bytes"
unfoldable pub first_sum : Column → ℕ
first_sum col = total col row_count

-- "the bytes of rows i, from 0 to 45, times α^(45 − i)"
unfoldable pub second_sum : Column → ℕ
second_sum col = total (λ i. times (last_row - i) (col i)) row_count

-- "In each column the 46 bytes add to zero, and so do the bytes of rows i .. times α^(45 − i)."
pub record Lawful (col : Column) : Type 0 where
  pub first : first_sum col ≡ 0
  pub second : second_sum col ≡ 0

unfoldable pub lawful : Column → Bool
lawful col = eqb (first_sum col) 0 && eqb (second_sum col) 0

-- A column with another byte in row j.
unfoldable pub with_row : (col : Column) (j byte : ℕ) → Column
with_row col j byte i = cond (eqb i j) byte (col i)

-- A column whose row j is taken out: what it held is not looked at.
unfoldable pub without : (j : ℕ) → Column → Column
without j col = with_row col j 0

-- "restore any one .. named row": it is what the others add to, so that the 46 bytes add to zero.
unfoldable pub restored_one : ℕ → Column → Column
restored_one j col = with_row (without j col) j (first_sum (without j col))

-- The k of which α^k is α^(45 − i) + α^(45 − j).
unfoldable pub apart : ℕ → ℕ → ℕ
apart i j = logarithm_at (power_at (last_row - i) ⊕ power_at (last_row - j))

-- What row i lacks where rows i and j are to be restored and the sums are s and t: (t + α^(45 − j) s) / (α^(45 − i) + α^(45 − j)).
unfoldable pub lacking : (i j s t : ℕ) → ℕ
lacking i j s t = times (255 - apart i j) (t ⊕ times (last_row - j) s)

-- "restore any .. two named rows": by the sums of the others; row j is what row i leaves of the first.
unfoldable pub restored_two : ℕ → ℕ → Column → Column
restored_two i j col =
    let others = without j (without i col) in
    let x = lacking i j (first_sum others) (second_sum others) in
    with_row (with_row others i x) j (first_sum others ⊕ x)

-- What stands for a row where none is wrong, and where no single change mends: no row has these numbers.
abbrev pub none_wrong : ℕ
none_wrong = row_count

abbrev pub none_mends : ℕ
none_mends = row_count + 1

-- The row whose weight is α^d, if any has it.
unfoldable pub row_of_weight : ℕ → ℕ
row_of_weight d = cond (leb d last_row) (last_row - d) none_mends

-- "one wrong byte a column": its row where the sums are s and t.
unfoldable pub wrong_row : ℕ → ℕ → ℕ
wrong_row s t =
    cond (eqb s 0) (cond (eqb t 0) none_wrong none_mends)
    (cond (eqb t 0) none_mends (row_of_weight ((logarithm_at t + (255 - logarithm_at s)) % 255)))

abbrev pub wrong_in : Column → ℕ
wrong_in col = wrong_row (first_sum col) (second_sum col)

-- "mend one wrong byte a column": the first sum is what was added to it.
unfoldable pub mended : Column → Column
mended col = with_row col (wrong_in col) (col (wrong_in col) ⊕ first_sum col)

-- A column that at most a single change mends.
unfoldable pub mendable : Column → Bool
mendable col = ltb (wrong_in col) none_mends
