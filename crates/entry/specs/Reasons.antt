-- Change request 2026-02: "four reasons .. of which no two apply at once", and "what is accepted stays as it was". How 11 was told before
-- it, so that this can be said; and what change request 2026-06 takes from it. No other definition uses these.
-- Assumes nothing.
use Rattle.std.specs.Prelude.{ℕ, suc, ◌≡◌, List, [], ◌∷◌, Bool, true, false, cond, not, ◌||◌}
use Rattle.numbers.specs.Numbers.{between}
use Rattle.group.specs.declared.Entry.{Entry}
use Rattle.group.specs.declared.Kind.{Kind}
use Rattle.group.specs.Flags.{Meaning}
use Rattle.std.specs.Prelude.{Some, None}
use Rattle.group.specs.Flags.{meaning_of}
use Rattle.group.specs.State.{sum_kept}
use Rattle.entry.specs.declared.Cursor.{Cursor}
use Rattle.entry.specs.declared.Stand.{Stand}
use Rattle.entry.specs.ScanEnd.{ScanEnd}
use Rattle.entry.specs.ScanEnd.{Reached, Refused}
use Rattle.counts.specs.Counts.{zero_part, above_one, too_long, differs}
use Rattle.entry.specs.Rules.{phase_after, b4_kept, follow_kept, room_kept, skip_kept, or_else}
use Rattle.entry.specs.Scan.{after, is_last, onward}

-- How many of these hold.
abbrev pub held : List Bool → ℕ
held [] = 0
held (true ∷ more) = suc (held more)
held (false ∷ more) = held more

-- The four reasons at one entry.
abbrev pub reasons : Kind → (sum count : ℕ) → List Bool
reasons k sum count = zero_part k count ∷ above_one k count ∷ too_long k sum count ∷ differs k sum count ∷ []

-- "the sum is 0 when free, 1 to 16,777,214 inside, 2 to 16,777,215 owed": so wherever a scan stands.
abbrev pub Suits : Stand → (sum : ℕ) → Type 0
Suits stand sum = sum_kept (phase_after stand) sum ≡ true

-- "11 covers a zero part, separator above 1, an over-long sum and a total that differs."
abbrev pub count_fault_before : Kind → (sum count : ℕ) → ℕ
count_fault_before k sum count =
    cond (zero_part k count || (above_one k count || (too_long k sum count || differs k sum count))) 11 0

-- 12, then 13.
abbrev pub data_fault_before : (size limit reached : ℕ) → Kind → (count : ℕ) → ℕ
data_fault_before size limit reached k count =
    cond (not (room_kept k reached count limit)) 12 (cond (not (skip_kept k reached count size)) 13 0)

-- "at one entry 8 to 13 in number order"
unfoldable pub entry_fault_before : (size limit : ℕ) (last : Bool) → Cursor → Meaning → (count : ℕ) → ℕ
entry_fault_before size limit last c None count = 8
entry_fault_before size limit last c (Some (k, warned)) count =
    cond (not (b4_kept c.warned warned)) 9
    (cond (not (follow_kept c.stand k last)) 10
    (or_else (count_fault_before k c.sum count) (data_fault_before size limit c.reached k count)))

unfoldable pub scan_before : (size limit : ℕ) → List Entry → (place : ℕ) → Cursor → ScanEnd
scan_before size limit [] place c = Reached c
scan_before size limit (e ∷ es) place c =
    onward (entry_fault_before size limit (is_last es) c (meaning_of e.flag) e.count) place c
    (scan_before size limit es (suc place) (after c (meaning_of e.flag) e.count))

-- A number as it was told: 11 for 19 to 22; and so in how a scan ends.
abbrev pub as_eleven : ℕ → ℕ
as_eleven fault = cond (between 19 fault 22) 11 fault

abbrev pub end_as_eleven : ScanEnd → ScanEnd
end_as_eleven (Reached c) = Reached c
end_as_eleven (Refused fault place c) = Refused (as_eleven fault) place c

-- How a scan's end of before has become its end of today: it is told anew, or the scan then passed a total owed too early.
pub data Became (before now : ScanEnd) : Type 0 where
  told_anew : end_as_eleven now ≡ before → Became before now
  owed_early_lem : (c d : Cursor) (place : ℕ) → before ≡ Reached d → now ≡ Refused 23 place c → Became before now
