-- Change request 2026-09: the rule of a block, and the scan that judges it after the reader's own rules.
-- Assumes nothing.
use Rattle.std.specs.Prelude.{ℕ, suc, List, [], ◌∷◌, Bool, true, false, cond, not, eqb}
use Rattle.group.specs.declared.Entry.{Entry}
use Rattle.group.specs.declared.Kind.TheVariants.{Total, Entire}
use Rattle.group.specs.Flags.{Meaning}
use Rattle.std.specs.Prelude.{Some, None}
use Rattle.group.specs.Flags.{meaning_of}
use Rattle.counts.specs.Counts.{is_among}
use Rattle.entry.specs.declared.Cursor.{Cursor}
use Rattle.entry.specs.ScanEnd.{ScanEnd}
use Rattle.entry.specs.ScanEnd.{Reached}
use Rattle.entry.specs.Rules.{entry_fault, or_else}
use Rattle.entry.specs.Scan.{after, is_last, onward}

-- The entries whose count is the length of a whole record: an entire one, and a total.
abbrev pub is_length : Meaning → Bool
is_length None = false
is_length (Some (k, warned)) = is_among k (Total ∷ Entire ∷ [])

-- "every entire entry has that count, every total equals it, separators are allowed"
abbrev pub block_kept : (block : ℕ) → Meaning → (count : ℕ) → Bool
block_kept block m count = cond (is_length m) (eqb count block) true

-- "51 another record length"
abbrev pub block_fault : (block : ℕ) → Meaning → (count : ℕ) → ℕ
block_fault block m count = cond (not (block_kept block m count)) 51 0

-- ".. at its entry after 13 and 23": entry by entry the reader's rules, and then this one.
unfoldable pub block_scan : (block size limit : ℕ) → List Entry → (place : ℕ) → Cursor → ScanEnd
block_scan block size limit [] place c = Reached c
block_scan block size limit (e ∷ es) place c =
    let m = meaning_of e.flag in
    onward (or_else (entry_fault size limit (is_last es) c m e.count) (block_fault block m e.count)) place c
    (block_scan block size limit es (suc place) (after c m e.count))
