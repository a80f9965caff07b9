-- Document 01, "The group": an entry as it stands in a group, and the table of a group's entries.
-- Assumes nothing.
use Rattle.std.specs.Prelude.{ℕ, zero, suc, ◌+◌, ◌-◌, List, [], ◌∷◌, ◌++◌, get_or}
use Rattle.group.specs.declared.Entry.{Entry}
use Rattle.group.specs.Sizes.{entry_length}
use Rattle.numbers.specs.Numbers.{number_at, bytes_of}

-- "An entry is a flag byte, then a count, most significant byte first."
abbrev pub entry : ℕ → ℕ → Entry
entry flag count = record { flag = flag; count = count }

-- The entry that stands at `at`.
unfoldable pub entry_at : List ℕ → ℕ → Entry
entry_at group at = entry (get_or group at 0) (number_at 3 group (at + 1))

-- An entry's four bytes.
unfoldable pub entry_bytes : Entry → List ℕ
entry_bytes e = e.flag ∷ bytes_of 3 e.count

-- n entries, one below the other; the first ends where `top` begins.
unfoldable pub entries_below : List ℕ → ℕ → ℕ → List Entry
entries_below group top zero = []
entries_below group top (suc n) = entry_at group (top - entry_length) ∷ entries_below group (top - entry_length) n

-- The bytes of a table: each entry stands below the one before it.
unfoldable pub table_bytes : List Entry → List ℕ
table_bytes [] = []
table_bytes (e ∷ es) = table_bytes es ++ entry_bytes e
