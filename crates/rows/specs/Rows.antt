-- Document 01, "Reading": the rows of a group's entries.
-- Assumes nothing.
use Rattle.std.specs.Prelude.{ℕ, List, [], ◌∷◌}
use Rattle.group.specs.declared.Entry.{Entry}
use Rattle.group.specs.Flags.{Meaning}
use Rattle.std.specs.Prelude.{Some, None}
use Rattle.group.specs.Flags.{kind_number, meaning_of}
use Rattle.entry.specs.Scan.{reached_by}

-- The first number of a row.
abbrev pub row_kind : Meaning → ℕ
row_kind None = 0
row_kind (Some (k, warned)) = kind_number k

-- "three 32-bit numbers per entry: kind, data offset reached before this entry, count"
unfoldable pub rows_from : ℕ → List Entry → List ℕ
rows_from reached [] = []
rows_from reached (e ∷ es) =
    row_kind (meaning_of e.flag) ∷ reached ∷ e.count ∷ rows_from (reached_by (meaning_of e.flag) reached e.count) es
