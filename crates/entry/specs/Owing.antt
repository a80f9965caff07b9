-- Change request 2026-06, said by a group's table and not by where a scan stands: the groups that it refuses, and both ends of the
-- freedom that is left, worked out at L = 64 and at the standard's size.
-- Assumes nothing.
use Rattle.std.specs.Prelude.{ℕ, ◌≤◌, List, [], ◌∷◌, ◌++◌, Bool, false, ◌≡◌}
use Rattle.group.specs.declared.Entry.{Entry}
use Rattle.group.specs.declared.Kind.TheVariants.{Last, Skip}
use Rattle.std.specs.Prelude.{Some}
use Rattle.group.specs.Sizes.{entry_offset}
use Rattle.group.specs.Flags.{meaning_of}
use Rattle.group.specs.Entries.{entry}
use Rattle.entry.specs.declared.Stand.TheVariants.{Inside}
use Rattle.entry.specs.ScanEnd.{ScanEnd}
use Rattle.entry.specs.ScanEnd.{Reached, Refused}
use Rattle.entry.specs.Scan.{scan}

-- "a group of two entries, last then skip, whose skip count is 44 or more"
pub data OwedEarly : List Entry → Type 0 where
  last_then_skip : {first second : Entry} (b4 b4Behind : Bool) →
      meaning_of first.flag ≡ Some (Last, b4) → meaning_of second.flag ≡ Some (Skip, b4Behind) → 44 ≤ second.count → OwedEarly (first ∷ second ∷ [])

-- The refusal and the place of a scan, zeros where it reached its end.
abbrev pub told_of : ScanEnd → ℕ × ℕ
told_of (Reached c) = (0, 0)
told_of (Refused refusal place c) = (refusal, place)

-- What is told of a last and a skip of these counts, alone in a group of L bytes, in a record of which one byte stands before it.
unfoldable pub judged : (size last skip : ℕ) → ℕ × ℕ
judged size last skip =
    told_of
    (scan size (entry_offset size 2) (entry 0x60 last ∷ entry 0x80 skip ∷ []) 1 (record { stand = Inside; warned = false; sum = 1; reached = 0 }))

-- Skips of 43, 42, 41 and 40; a last of one byte more; skips of 44 and of L − 1; 44 told as 45, and 43 told as 44.
abbrev pub judged_shown : List (ℕ × ℕ)
judged_shown =
    (judged 64 21 43 ∷ judged 64 22 42 ∷ judged 64 23 41 ∷ judged 64 24 40 ∷ [])
    ++ (judged 64 25 39 ∷ judged 64 20 44 ∷ judged 64 1 63 ∷ judged 64 20 45 ∷ judged 64 21 44 ∷ [])
    ++ (judged 126632 126589 43 ∷ judged 126632 126590 42 ∷ judged 126632 126591 41 ∷ judged 126632 126592 40 ∷ [])
    ++ (judged 126632 126593 39 ∷ judged 126632 126588 44 ∷ judged 126632 1 126631 ∷ judged 126632 126588 45 ∷ judged 126632 126589 44 ∷ [])

-- Accepted; 12 at the last; 23 at the skip; 13 before 23.
abbrev pub judged_expected : List (ℕ × ℕ)
judged_expected =
    ((0, 0) ∷ (0, 0) ∷ (0, 0) ∷ (0, 0) ∷ (12, 1) ∷ (23, 2) ∷ (23, 2) ∷ (13, 2) ∷ (13, 2) ∷ [])
    ++ ((0, 0) ∷ (0, 0) ∷ (0, 0) ∷ (0, 0) ∷ (12, 1) ∷ (23, 2) ∷ (23, 2) ∷ (13, 2) ∷ (13, 2) ∷ [])
