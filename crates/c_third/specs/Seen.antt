-- Change request 2026-08: what the caller from C sees of a call of the third code: the number that it returns, the rows that it
-- leaves, and two numbers of the answer slice.
-- Assumes nothing.
use Rattle.std.specs.Prelude.{◌≡◌, ◌⊎◌, List, ℕ, ◌<◌}
use Rattle.numbers.specs.Numbers.{field}
use Rattle.column.specs.Column.{column, Lawful}
use Rattle.third.specs.Written.{Written, FirstHopeless}
use Rattle.slices.specs.Call.{Left, slice}

-- The rows that a call leaves.
abbrev pub rows_left : Left → List ℕ
rows_left o = slice o 0

-- The place and the outcome in the answer slice.
abbrev pub place_seen : Left → ℕ
place_seen o = field o.answer 1

abbrev pub outcome_seen : Left → ℕ
outcome_seen o = field o.answer 2

-- "43 a column that no single change mends (the whole buffer then stays)": either every column is mended, or 43 tells the first
-- column that none mends.
abbrev pub MendSeen : (n : ℕ) (old : List ℕ) (o : Left) → Type 0
MendSeen n old o =
    ((o.refusal ≡ 0) × Written n (rows_left o))
    ⊎ ((o.refusal ≡ 43) × ((place_seen o < n) × ((rows_left o ≡ old) × FirstHopeless n old (place_seen o))))

-- "check": outcome 0, and every column keeps both rules, or 1, and some column does not.
abbrev pub CheckSeen : (n : ℕ) (rows : List ℕ) (o : Left) → Type 0
CheckSeen n rows o =
    (o.refusal ≡ 0)
    × (((outcome_seen o ≡ 0) × Written n rows) ⊎ ((outcome_seen o ≡ 1) × ((c : ℕ) × ((c < n) × (Lawful (column rows n c) → ⊥)))))
