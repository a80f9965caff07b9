-- Change request 2026-08: what the theorems speak of. "the written rows", what 43 tells, what checking tells.
-- Assumes nothing.
use Rattle.std.specs.Prelude.{◌≡◌, ◌⊎◌, List, ℕ, ◌*◌, ◌<◌, length}
use Rattle.numbers.specs.Numbers.{Bytes}
use Rattle.column.specs.Column.{row_count, column, Lawful}
use Rattle.column.specs.Alike.{Hopeless}
use Rattle.third.specs.Answer.{ThirdAnswer}
use Rattle.third.specs.Answer.{Accepted, Refused}

-- 46 rows of bytes, of a row length that is not 0.
pub record Lent (n : ℕ) (rows : List ℕ) : Type 0 where
  pub some : 0 < n
  pub long : length rows ≡ row_count * n
  pub bytes : Bytes rows

-- Written rows: every column keeps both rules.
pub record Written (n : ℕ) (rows : List ℕ) : Type 0 where
  pub lent : Lent n rows
  pub law : (c : ℕ) → c < n → Lawful (column rows n c)

-- The first column that no single change mends.
abbrev pub FirstHopeless : ℕ → List ℕ → ℕ → Type 0
FirstHopeless n rows c = Hopeless (column rows n c) × ((d : ℕ) → d < c → Hopeless (column rows n d) → ⊥)

-- "43 a column that no single change mends (the whole buffer then stays)": either every column is mended, or 43 tells the first
-- column that none mends.
abbrev pub MendTold : (n : ℕ) (old : List ℕ) (a : ThirdAnswer) (rows : List ℕ) → Type 0
MendTold n old a rows =
    ((a ≡ Accepted 0) × Written n rows)
    ⊎ ((c : ℕ) × ((c < n) × ((a ≡ Refused 43 c) × ((rows ≡ old) × FirstHopeless n old c))))

-- "check": outcome 0, and every column keeps both rules, or 1, and some column does not.
abbrev pub CheckTold : ℕ → List ℕ → ThirdAnswer → Type 0
CheckTold n rows a =
    ((a ≡ Accepted 0) × Written n rows) ⊎ ((a ≡ Accepted 1) × ((c : ℕ) × ((c < n) × (Lawful (column rows n c) → ⊥))))
