-- Document 01, "Reading" and "Numbers the firmware sees": the scan of a group's table.
-- Assumes nothing.
use Rattle.std.specs.Prelude.{ℕ, suc, List, [], ◌∷◌, Bool, true, false, cond, eqb}
use Rattle.group.specs.declared.Entry.{Entry}
use Rattle.group.specs.Flags.{Meaning}
use Rattle.std.specs.Prelude.{Some, None}
use Rattle.group.specs.Flags.{meaning_of}
use Rattle.entry.specs.declared.Cursor.{Cursor}
use Rattle.entry.specs.ScanEnd.{ScanEnd}
use Rattle.entry.specs.ScanEnd.{Reached, Refused}
use Rattle.entry.specs.Rules.{entry_fault, advance, reached_after}

-- Where the scan stands after an entry.
abbrev pub after : Cursor → Meaning → ℕ → Cursor
after c None count = c
after c (Some (k, warned)) count = advance c k warned count

-- Entry n has none behind it.
abbrev pub is_last : List Entry → Bool
is_last [] = true
is_last (e ∷ es) = false

-- "the scan stopping at the first entry that breaks a rule": its number, its place and where the scan stood.
abbrev pub onward : (fault place : ℕ) → Cursor → ScanEnd → ScanEnd
onward fault place c rest = cond (eqb fault 0) rest (Refused fault place c)

-- "entry by entry from 1". `limit` is L − 32 − 4n.
unfoldable pub scan : (size limit : ℕ) → List Entry → (place : ℕ) → Cursor → ScanEnd
scan size limit [] place c = Reached c
scan size limit (e ∷ es) place c =
    onward (entry_fault size limit (is_last es) c (meaning_of e.flag) e.count) place c
    (scan size limit es (suc place) (after c (meaning_of e.flag) e.count))

-- The data offset reached after an entry.
abbrev pub reached_by : Meaning → ℕ → ℕ → ℕ
reached_by None reached count = reached
reached_by (Some (k, warned)) reached count = reached_after k reached count
