-- Document 01, "Which entry may follow", and change request 2026-02: the rules of an entry's count, 19 to 22, which stand in the place
-- of 11.
-- Assumes nothing.
use Rattle.std.specs.Prelude.{ℕ, ◌+◌, ◌-◌, List, [], ◌∷◌, Bool, false, cond, not, ◌&&◌, ◌||◌, eqb, leb}
use Rattle.group.specs.declared.Kind.{Kind}
use Rattle.group.specs.declared.Kind.TheVariants.{Total, Separator, Middle, Start, Last, Entire, Skip}
use Rattle.group.specs.Sizes.{longest_record}
use Rattle.group.specs.Flags.{kind_number}

-- A kind is one of these.
abbrev pub is_among : Kind → List Kind → Bool
is_among k [] = false
is_among k (j ∷ js) = eqb (kind_number k) (kind_number j) || is_among k js

-- The kinds whose count is bytes of user data of this group: kinds 3 to 6.
abbrev pub holds_data : Kind → Bool
holds_data k = is_among k (Middle ∷ Start ∷ Last ∷ Entire ∷ [])

-- 19, a zero part: "Counts of kinds 3 to 6 are at least 1."
abbrev pub zero_part : Kind → ℕ → Bool
zero_part k count = holds_data k && not (leb 1 count)

-- 20, a separator above 1: "0 for Separator 1, 1 for Separator 2".
abbrev pub above_one : Kind → ℕ → Bool
above_one k count = is_among k (Separator ∷ []) && not (leb count 1)

-- 21, a record too long: "The parts of a record after a start or middle add to at most 16,777,214; after its last, to at most
-- 16,777,215." "A record is 1 to 16,777,215 bytes."
abbrev pub too_long : Kind → (sum count : ℕ) → Bool
too_long Total sum count = false
too_long Separator sum count = false
too_long Middle sum count = not (leb (sum + count) (longest_record - 1))
too_long Start sum count = not (leb count (longest_record - 1))
too_long Last sum count = not (leb (sum + count) longest_record)
too_long Entire sum count = not (leb count longest_record)
too_long Skip sum count = false

-- 22, a total that differs: "A total equals the sum of its parts."
abbrev pub differs : Kind → (sum count : ℕ) → Bool
differs k sum count = is_among k (Total ∷ []) && not (eqb count sum)

-- "19 zero part, 20 separator above 1, 21 record too long, 22 total differs": which of them, 0 if the count keeps its rule.
abbrev pub count_fault : Kind → (sum count : ℕ) → ℕ
count_fault k sum count =
    cond (zero_part k count) 19
    (cond (above_one k count) 20
    (cond (too_long k sum count) 21
    (cond (differs k sum count) 22 0)))
