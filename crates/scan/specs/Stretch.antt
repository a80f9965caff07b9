-- Serves contracts and proofs only: the scan from where some entries are left, and the separators and entire records of a
-- stretch, which leave it as it was.
-- Assumes nothing.
use Rattle.std.specs.Prelude.{ℕ, ◌+◌, ◌*◌, ◌-◌, ◌≤◌, ◌≡◌, List, Bool}
use Rattle.group.specs.declared.Entry.{Entry}
use Rattle.group.specs.declared.Kind.TheVariants.{Separator, Entire}
use Rattle.group.specs.Sizes.{entry_length, entry_offset}
use Rattle.group.specs.Flags.{flag_of}
use Rattle.group.specs.Entries.{entries_below}
use Rattle.entry.specs.declared.Stand.TheVariants.{Free}
use Rattle.entry.specs.declared.Cursor.{Cursor}
use Rattle.entry.specs.ScanEnd.{ScanEnd}
use Rattle.entry.specs.Scan.{scan}

-- The scan from where `left` of a group's n entries are left.
abbrev pub scan_left : (size n : ℕ) (group : List ℕ) (left : ℕ) → Cursor → ScanEnd
scan_left size n group left c =
    scan size (entry_offset size n) (entries_below group (entry_offset size n + entry_length * left) left) (n + 1 - left) c

-- A cursor at the same stand and b4, with these numbers.
abbrev pub moved_to : Cursor → (sum reached : ℕ) → Cursor
moved_to c sum reached = record { stand = c.stand; warned = c.warned; sum = sum; reached = reached }

-- Between records.
abbrev pub free_at : (warned : Bool) (sum reached : ℕ) → Cursor
free_at warned sum reached = record { stand = Free; warned = warned; sum = sum; reached = reached }

-- A separator or an entire record whose b4 and count keep their rules, and its bytes of data in the group.
pub data Single (warned : Bool) (e : Entry) (bytes : ℕ) : Type 0 where
  separates : e.flag ≡ flag_of Separator warned → e.count ≤ 1 → bytes ≡ 0 → Single warned e bytes
  is_entire : e.flag ≡ flag_of Entire warned → 1 ≤ e.count → bytes ≡ e.count → Single warned e bytes
