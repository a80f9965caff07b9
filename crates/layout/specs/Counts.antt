-- Document 01, "The group": what the counts of a group's entries come to.
-- Assumes nothing.
use Rattle.std.specs.Prelude.{ℕ, ◌+◌, ◌-◌, List, [], ◌∷◌, ◌≡◌, cond, leb}
use Rattle.group.specs.declared.Entry.{Entry}
use Rattle.group.specs.Flags.{Meaning}
use Rattle.std.specs.Prelude.{Some, None}
use Rattle.group.specs.Sizes.{information_length}
use Rattle.group.specs.Flags.{kind_number, meaning_of}
use Rattle.group.specs.Entries.{entries_below}
use Rattle.layout.specs.Layout.{Image}

-- What an entry adds: its count, where its kind is one of 3 to 7.
abbrev pub adds : Meaning → ℕ → ℕ
adds (Some (k, warned)) count = cond (leb 3 (kind_number k)) count 0
adds None count = 0

-- What entries add together.
unfoldable pub add_up : List Entry → ℕ
add_up [] = 0
add_up (e ∷ es) = adds (meaning_of e.flag) e.count + add_up es

-- "Counts of kinds 3 to 7 add up to L": of the entries that stand in a group's table.
abbrev pub AddsUp : ℕ → Image → Type 0
AddsUp size g = add_up (entries_below g.bytes (size - information_length) g.entries) ≡ size
