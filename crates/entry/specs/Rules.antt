-- Document 01, "Which entry may follow" and "Numbers the firmware sees": the rules of one entry, 8 to 10, then 19 to 22 of its count,
-- then 12 and 13, then 23 of change request 2026-06.
-- Assumes nothing.
use Rattle.std.specs.Prelude.{ℕ, ◌+◌, ◌-◌, List, [], ◌∷◌, Bool, true, cond, not, ◌&&◌, ◌||◌, eqb, leb}
use Rattle.group.specs.declared.Kind.{Kind}
use Rattle.group.specs.declared.Kind.TheVariants.{Total, Separator, Middle, Start, Last, Entire, Skip}
use Rattle.group.specs.declared.Phase.{Phase}
use Rattle.group.specs.declared.Phase.TheVariants as phase
use Rattle.group.specs.Flags.{Meaning}
use Rattle.std.specs.Prelude.{Some, None}
use Rattle.group.specs.Sizes.{most_owing}
use Rattle.counts.specs.Counts.{is_among, holds_data, count_fault}
use Rattle.entry.specs.declared.Stand.{Stand}
use Rattle.entry.specs.declared.Stand.TheVariants.{Free, AfterPart, Inside, AfterLast, Owed}
use Rattle.entry.specs.declared.Cursor.{Cursor}

-- "Which entry may follow", state by state.
abbrev pub allowed_at : Stand → List Kind
allowed_at Free = Start ∷ Separator ∷ Entire ∷ Skip ∷ []
allowed_at AfterPart = Skip ∷ []
allowed_at Inside = Middle ∷ Last ∷ []
allowed_at AfterLast = Total ∷ Skip ∷ []
allowed_at Owed = Total ∷ []

unfoldable pub may_follow : Stand → Kind → Bool
may_follow stand k = is_among k (allowed_at stand)

-- "Skip is always the last entry and stands nowhere else."
abbrev pub is_skip : Kind → Bool
is_skip k = is_among k (Skip ∷ [])

-- How a group's beginning stands, by what the group before it left.
abbrev pub stand_at : Phase → Stand
stand_at phase.Free = Free
stand_at phase.Inside = Inside
stand_at phase.Owed = Owed

-- What a group leaves, by where its skip stood: "The next group begins inside the record", "With skip the total is owed".
abbrev pub phase_after : Stand → Phase
phase_after Free = phase.Free
phase_after AfterPart = phase.Inside
phase_after Inside = phase.Inside
phase_after AfterLast = phase.Owed
phase_after Owed = phase.Owed

-- Free "after total, separator and entire"; after start or middle; after last.
abbrev pub stand_after : Stand → Kind → Stand
stand_after stand Total = Free
stand_after stand Separator = Free
stand_after stand Middle = AfterPart
stand_after stand Start = AfterPart
stand_after stand Last = AfterLast
stand_after stand Entire = Free
stand_after stand Skip = stand

-- "the sum of parts so far"
abbrev pub sum_after : Kind → ℕ → ℕ → ℕ
sum_after Total sum count = 0
sum_after Separator sum count = 0
sum_after Middle sum count = sum + count
sum_after Start sum count = count
sum_after Last sum count = sum + count
sum_after Entire sum count = 0
sum_after Skip sum count = sum

-- "User data stands from offset 0 upward without holes, in entry order."
abbrev pub reached_after : Kind → ℕ → ℕ → ℕ
reached_after k reached count = cond (holds_data k) (reached + count) reached

-- Where the scan stands after an entry of this kind, with this b4 and count.
abbrev pub advance : Cursor → Kind → Bool → ℕ → Cursor
advance c k warned count =
    record {
      stand = stand_after c.stand k;
      warned = warned;
      sum = sum_after k c.sum count;
      reached = reached_after k c.reached count;
    }

-- 9: once an entry has it set, "all following entries of this and all following groups" have it.
abbrev pub b4_kept : Bool → Bool → Bool
b4_kept before warned = not before || warned

-- 10: the kind may follow, and a skip stands at entry n and nowhere else.
abbrev pub follow_kept : Stand → Kind → Bool → Bool
follow_kept stand k last = may_follow stand k && cond last (is_skip k) (not (is_skip k))

-- 12: the data that this entry reaches stays within the limit, L − 32 − 4n.
abbrev pub room_kept : Kind → (reached count limit : ℕ) → Bool
room_kept k reached count limit = leb (reached_after k reached count) limit

-- 13: a skip's count is "L less all data bytes before it".
abbrev pub skip_kept : Kind → (reached count size : ℕ) → Bool
skip_kept k reached count size = cond (is_skip k) (eqb count (size - reached)) true

-- "The freedom "a skip after a last" narrows to skip counts 40 to 43." A skip elsewhere owes no total. (40 is the least that 12 and 13
-- leave a group of two entries.)
abbrev pub may_owe : Stand → (count : ℕ) → Bool
may_owe Free count = true
may_owe AfterPart count = true
may_owe Inside count = true
may_owe AfterLast count = leb count most_owing
may_owe Owed count = true

-- 23, a total owed too early: "a group of two entries, last then skip, whose skip count is 44 or more".
abbrev pub owed_kept : Kind → Stand → (count : ℕ) → Bool
owed_kept k stand count = cond (is_skip k) (may_owe stand count) true

-- A fault that is one, or else what comes after it in the order.
abbrev pub or_else : ℕ → ℕ → ℕ
or_else fault rest = cond (eqb fault 0) rest fault

-- "23 total owed too early, at entry 2, after 13": 13, then 23.
abbrev pub skip_fault : (size : ℕ) → Stand → (reached : ℕ) → Kind → (count : ℕ) → ℕ
skip_fault size stand reached k count =
    cond (not (skip_kept k reached count size)) 13 (cond (not (owed_kept k stand count)) 23 0)

-- 12, then 13 and 23.
abbrev pub data_fault : (size limit : ℕ) → Stand → (reached : ℕ) → Kind → (count : ℕ) → ℕ
data_fault size limit stand reached k count =
    cond (not (room_kept k reached count limit)) 12 (skip_fault size stand reached k count)

-- "at one entry 8 to 13 in number order", where "in its place in the order come" 19 to 22 for 11, and 23 "after 13": the number of the
-- first rule that is broken, 0 if none is.
unfoldable pub entry_fault : (size limit : ℕ) (last : Bool) → Cursor → Meaning → (count : ℕ) → ℕ
entry_fault size limit last c None count = 8
entry_fault size limit last c (Some (k, warned)) count =
    cond (not (b4_kept c.warned warned)) 9
    (cond (not (follow_kept c.stand k last)) 10
    (or_else (count_fault k c.sum count) (data_fault size limit c.stand c.reached k count)))
