-- Change request 2026-09: where a block begins, from a group's rows, "any at all".
-- Assumes nothing.
use Rattle.std.specs.Prelude.{ℕ, zero, suc, ◌+◌, ◌-◌, ◌/◌, List, Bool, cond, ◌||◌, eqb, ltb, length, Option, Some, None}
use Rattle.numbers.specs.Numbers.{number_at}

-- "counting whole start and entire rows alone": whether a row of this kind, 4 or 6, is one.
abbrev pub begins : (kind : ℕ) → Bool
begins kind = eqb kind 4 || eqb kind 6

-- The offset in the row with which the b-th block of these rows begins, b from 0, none where it begins elsewhere: of `left` rows of 12
-- bytes from byte `at` on.
unfoldable pub beginning : (rows : List ℕ) (at left b : ℕ) → Option ℕ
beginning rows at zero b = None
beginning rows at (suc left) b =
    cond (begins (number_at 4 rows at)) (cond (eqb b 0) (Some (number_at 4 rows (at + 4))) (beginning rows (at + 12) left (b - 1)))
    (beginning rows (at + 12) left b)

-- "From a group's rows, any at all, and the number of blocks begun before it, the profile answers the offset in the row of
-- block b, .. or that b doesn't begin there." Up to 11 bytes at the end are no whole row.
unfoldable pub find_call : (rows : List ℕ) (before b : ℕ) → Option ℕ
find_call rows before b = cond (ltb b before) None (beginning rows 0 (length rows / 12) (b - before))
