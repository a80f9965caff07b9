-- Document 01, "Writing": when a writer's state is sound. "Numbers the firmware sees": what each call refuses, in its order.
-- Assumes nothing.
use Rattle.std.specs.Prelude.{ℕ, ◌+◌, ◌*◌, Bool, true, false, cond, not, ◌&&◌, eqb, leb, ltb}
use Rattle.group.specs.declared.Phase.{Phase}
use Rattle.group.specs.declared.Phase.TheVariants.{Free, Inside, Owed}
use Rattle.group.specs.Sizes.{information_length, entry_length, longest_record, last_number, record_kept}
use Rattle.group.specs.State.{run_sound}
use Rattle.laying.specs.declared.Writer.{Writer}

-- "free / inside / owed": whether the phase is the one that is named.
abbrev pub is_free : Phase → Bool
is_free Free = true
is_free Inside = false
is_free Owed = false

abbrev pub is_inside : Phase → Bool
is_inside Free = false
is_inside Inside = true
is_inside Owed = false

abbrev pub is_owed : Phase → Bool
is_owed Free = false
is_owed Inside = false
is_owed Owed = true

-- ".. means ..", ".. needs ..": where the first holds, the second does.
abbrev pub implies : Bool → Bool → Bool
implies a b = cond a b true

-- "d = e = 0"
abbrev pub is_empty : Writer → Bool
is_empty s = eqb s.filled 0 && eqb s.entries 0

-- "free means d + 32 + 4(e + 1) ≤ L"
unfoldable pub room_kept : Writer → Bool
room_kept s = implies (is_free s.phase) (leb (s.filled + information_length + entry_length * (s.entries + 1)) s.size)

-- "inside or owed means d = e = 0"
unfoldable pub empty_kept : Writer → Bool
empty_kept s = implies (not (is_free s.phase)) (is_empty s)

-- "inside, the rest is 1 or more and sum plus rest at most 16,777,215, else the rest is 0"
unfoldable pub rest_kept : Writer → Bool
rest_kept s = cond (is_inside s.phase) (leb 1 s.rest && leb (s.sum + s.rest) longest_record) (eqb s.rest 0)

-- "d > 0 needs e > 0"
unfoldable pub data_kept : Writer → Bool
data_kept s = implies (ltb 0 s.filled) (ltb 0 s.entries)

-- "at number 65,536 d = e = 0"
unfoldable pub spent_kept : Writer → Bool
spent_kept s = implies (eqb s.next (last_number + 1)) (is_empty s)

-- "It is sound if the reader's conditions hold and, further: .."
unfoldable pub writer_sound : Writer → Bool
writer_sound s =
    run_sound s.size s.next s.phase s.sum
    && (room_kept s && (empty_kept s && (rest_kept s && (data_kept s && spent_kept s))))

-- 4, "group buffer length not L": that it is.
abbrev pub length_kept : Writer → ℕ → Bool
length_kept s len = eqb len s.size

-- 14, "no group number remains": that one does.
abbrev pub remains_kept : Writer → Bool
remains_kept s = leb s.next last_number

-- 16, "offer isn't the rest": "Record, inside. The caller offers exactly the rest."
abbrev pub offer_kept : Writer → ℕ → Bool
offer_kept s n = implies (is_inside s.phase) (eqb n s.rest)

-- 17, "a record is open (inside)": that none is.
abbrev pub none_open_kept : Writer → Bool
none_open_kept s = not (is_inside s.phase)

-- 18, "separator value over 1": that it is not.
abbrev pub value_kept : ℕ → Bool
value_kept value = leb value 1

-- "End 1, 4, 17, 14, where 14 is given only if a total is owed."
abbrev pub end_remains_kept : Writer → Bool
end_remains_kept s = implies (is_owed s.phase) (remains_kept s)

-- "End: free with e = 0, and no total owed, closes nothing."
abbrev pub ends_empty : Writer → Bool
ends_empty s = not (is_owed s.phase) && eqb s.entries 0

-- "Record 1, 4, 14, 15, 16." The number of a record's refusal, 0 if it is accepted, by the lengths of the group and of the data.
unfoldable pub record_refusal : Writer → (len n : ℕ) → ℕ
record_refusal s len n =
    cond (not (writer_sound s)) 1
    (cond (not (length_kept s len)) 4
    (cond (not (remains_kept s)) 14
    (cond (not (record_kept n)) 15
    (cond (not (offer_kept s n)) 16 0))))

-- "Separator 1, 4, 14, 17, 18."
unfoldable pub separator_refusal : Writer → (len value : ℕ) → ℕ
separator_refusal s len value =
    cond (not (writer_sound s)) 1
    (cond (not (length_kept s len)) 4
    (cond (not (remains_kept s)) 14
    (cond (not (none_open_kept s)) 17
    (cond (not (value_kept value)) 18 0))))

-- "End 1, 4, 17, 14."
unfoldable pub end_refusal : Writer → ℕ → ℕ
end_refusal s len =
    cond (not (writer_sound s)) 1
    (cond (not (length_kept s len)) 4
    (cond (not (none_open_kept s)) 17
    (cond (not (end_remains_kept s)) 14 0)))
