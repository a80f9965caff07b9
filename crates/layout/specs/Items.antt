-- Document 01, "Which entry may follow": items, the freedoms that a layout takes with them, and the pieces and group ends
-- that they come to.
-- Assumes nothing.
use Rattle.std.specs.Prelude.{ℕ, ◌-◌, ◌≤◌, List, [], ◌∷◌, ◌++◌, map, Bool, true, false, length}
use Rattle.group.specs.Sizes.{longest_record, most_owing}

-- What a host writes: a record of bytes, or a Separator 1 (0) or Separator 2 (1).
pub data Item : Type 0 where
  record_item : List ℕ → Item
  separator_item : ℕ → Item

-- An item as it is laid, with the freedoms it takes: a record entire, or broken into a first part, middles and a last part,
-- its total in the last part's group or, after a skip, in the next; and the free end of a group.
pub data Laid : Type 0 where
  laid_entire : List ℕ → Laid
  laid_spanned : List ℕ → List (List ℕ) → List ℕ → Bool → Laid
  laid_separator : ℕ → Laid
  ended_early : Laid

-- How a run ends: with no record open, with one broken off inside, or with one whose total is owed.
pub data Tail : Type 0 where
  none_open : Tail
  broken_inside : List ℕ → List (List ℕ) → Tail
  broken_owed : List ℕ → List (List ℕ) → List ℕ → Tail

-- The bytes of parts, one after the other.
unfoldable pub joined : List (List ℕ) → List ℕ
joined [] = []
joined (p ∷ ps) = p ++ joined ps

-- The bytes of a record from its first part, its middles and its last part.
unfoldable pub whole_of : List ℕ → List (List ℕ) → List ℕ → List ℕ
whole_of p ps q = p ++ joined ps ++ q

-- The items alone, the freedoms forgotten. "A record is finished at its entire entry or at its total."
unfoldable pub items : List Laid → List Item
items [] = []
items (laid_entire bs ∷ ls) = record_item bs ∷ items ls
items (laid_spanned p ps q late ∷ ls) = record_item (whole_of p ps q) ∷ items ls
items (laid_separator v ∷ ls) = separator_item v ∷ items ls
items (ended_early ∷ ls) = items ls

-- The bytes so far of a record that is "broken off if the run ends before".
unfoldable pub so_far : Tail → List ℕ
so_far none_open = []
so_far (broken_inside p ps) = p ++ joined ps
so_far (broken_owed p ps q) = whole_of p ps q

-- A group's pieces: one for each entry but its skip.
pub data Piece : Type 0 where
  a_total a_separator : ℕ → Piece
  a_middle a_start a_last an_entire : List ℕ → Piece

-- What stands on the tape in order: a piece, or the end of a group.
pub data Token : Type 0 where
  piece : Piece → Token
  group_end : Token

-- "After start or middle: skip only. The next group begins inside the record."
unfoldable pub middles : List (List ℕ) → List Token → List Token
middles [] rest = rest
middles (p ∷ ps) rest = piece (a_middle p) ∷ group_end ∷ middles ps rest

-- "After last: total, or skip. With skip the total is owed."
unfoldable pub late_by : Bool → List Token → List Token
late_by true rest = group_end ∷ rest
late_by false rest = rest

unfoldable pub tail_tokens : Tail → List Token
tail_tokens none_open = []
tail_tokens (broken_inside p ps) = piece (a_start p) ∷ group_end ∷ middles ps []
tail_tokens (broken_owed p ps q) = piece (a_start p) ∷ group_end ∷ middles ps (piece (a_last q) ∷ group_end ∷ [])

-- The pieces and group ends of laid items, and of what is open at the end. "A total equals the sum of its parts."
unfoldable pub tokens : List Laid → Tail → List Token
tokens [] t = tail_tokens t
tokens (laid_entire bs ∷ ls) t = piece (an_entire bs) ∷ tokens ls t
tokens (laid_spanned p ps q late ∷ ls) t =
    piece (a_start p) ∷ group_end ∷ middles ps (piece (a_last q) ∷ late_by late (piece (a_total (length (whole_of p ps q))) ∷ tokens ls t))
tokens (laid_separator v ∷ ls) t = piece (a_separator v) ∷ tokens ls t
tokens (ended_early ∷ ls) t = group_end ∷ tokens ls t

-- Groups of pieces, each followed by its end.
unfoldable pub grouped : List (List Piece) → List Token
grouped [] = []
grouped (ps ∷ gs) = map piece ps ++ (group_end ∷ grouped gs)

-- Each of a list.
pub data Each {A : Type 0} (P : A → Type 0) : List A → Type 0 where
  each_none : Each P []
  each_more : {a : A} {l : List A} → P a → Each P l → Each P (a ∷ l)

-- "Counts of kinds 3 to 6 are at least 1."
abbrev pub Part : List ℕ → Type 0
Part p = 1 ≤ length p

-- Change request 2026-06: "The freedom "a skip after a last" narrows to skip counts 40 to 43." When a total may be owed, by L and the
-- last part, beside which the skip is all the rest of the group. (40 is the least that a picture of the group has room for.)
abbrev pub MayOwe : ℕ → List ℕ → Type 0
MayOwe size q = size - length q ≤ most_owing

-- .. asked where the total is late.
abbrev pub LateKept : ℕ → List ℕ → Bool → Type 0
LateKept size q true = MayOwe size q
LateKept size q false = Unit {0}

-- "A record is 1 to 16,777,215 bytes", no part is empty, a separator is 0 or 1.
pub data SoundLaid (size : ℕ) : Laid → Type 0 where
  sound_entire : {bs : List ℕ} → Part bs → length bs ≤ longest_record → SoundLaid size (laid_entire bs)
  sound_spanned : {p : List ℕ} {ps : List (List ℕ)} {q : List ℕ} {late : Bool} → Part p → Each Part ps → Part q → length (whole_of p ps q) ≤ longest_record
      → LateKept size q late → SoundLaid size (laid_spanned p ps q late)
  sound_separator : {v : ℕ} → v ≤ 1 → SoundLaid size (laid_separator v)
  sound_early : SoundLaid size ended_early

-- "The parts of a record after a start or middle add to at most 16,777,214; after its last, to at most 16,777,215."
pub data SoundTail (size : ℕ) : Tail → Type 0 where
  sound_none : SoundTail size none_open
  sound_inside : {p : List ℕ} {ps : List (List ℕ)} → Part p → Each Part ps → length (p ++ joined ps) ≤ longest_record - 1 → SoundTail size (broken_inside p ps)
  sound_owed : {p : List ℕ} {ps : List (List ℕ)} {q : List ℕ} → Part p → Each Part ps → Part q → length (whole_of p ps q) ≤ longest_record → MayOwe size q
      → SoundTail size (broken_owed p ps q)
