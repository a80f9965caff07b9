-- Document 01, "The group" and "Freedoms of a lawful layout": from items and freedoms to groups. Nothing here speaks of a
-- reader's or a writer's steps.
-- Assumes nothing.
use Rattle.std.specs.Prelude.{ℕ, zero, suc, ◌-◌, ◌≤◌, List, [], ◌∷◌, ◌++◌, Bool, true, false, ◌≡◌, length}
use Rattle.group.specs.declared.Kind.{Kind}
use Rattle.group.specs.declared.Kind.TheVariants.{Total, Separator, Middle, Start, Last, Entire, Skip}
use Rattle.group.specs.declared.Entry.{Entry}
use Rattle.group.specs.Sizes.{information_length, last_number, size_kept, number_kept}
use Rattle.group.specs.Flags.{flag_of}
use Rattle.group.specs.Entries.{entry, table_bytes}
use Rattle.layout.specs.Items.{Item, Laid, Tail, Piece, Each, SoundLaid, SoundTail, items, so_far, tokens, grouped}
use Rattle.layout.specs.Items.Piece.{a_total, a_separator, a_middle, a_start, a_last, an_entire}

-- A group as the firmware hands it in: its number, its entry count and its bytes.
pub record Image : Type 0 where
  pub number : ℕ
  pub entries : ℕ
  pub bytes : List ℕ

-- A piece's kind, its count and its bytes of user data.
unfoldable pub kind_of : Piece → Kind
kind_of (a_total n) = Total
kind_of (a_separator v) = Separator
kind_of (a_middle bs) = Middle
kind_of (a_start bs) = Start
kind_of (a_last bs) = Last
kind_of (an_entire bs) = Entire

unfoldable pub data_of : Piece → List ℕ
data_of (a_total n) = []
data_of (a_separator v) = []
data_of (a_middle bs) = bs
data_of (a_start bs) = bs
data_of (a_last bs) = bs
data_of (an_entire bs) = bs

unfoldable pub count_of : Piece → ℕ
count_of (a_total n) = n
count_of (a_separator v) = v
count_of (a_middle bs) = length bs
count_of (a_start bs) = length bs
count_of (a_last bs) = length bs
count_of (an_entire bs) = length bs

-- "User data stands from offset 0 upward without holes, in entry order."
unfoldable pub user_data : List Piece → List ℕ
user_data [] = []
user_data (p ∷ ps) = data_of p ++ user_data ps

-- b4 of the next entry, where it is still clear in `plain` entries; and in how many after it.
unfoldable pub b4_after : ℕ → Bool
b4_after zero = true
b4_after (suc plain) = false

unfoldable pub plain_left : ℕ → ℕ
plain_left zero = zero
plain_left (suc plain) = plain

-- A group's entries in order, the skip last: "L less all data bytes before it". b4 is clear in the first `plain` of them and
-- set in the others.
unfoldable pub entries_of : ℕ → ℕ → List Piece → List Entry
entries_of plain over [] = entry (flag_of Skip (b4_after plain)) over ∷ []
entries_of plain over (p ∷ ps) = entry (flag_of (kind_of p) (b4_after plain)) (count_of p) ∷ entries_of (plain_left plain) over ps

-- A group's bytes: data, gap, table, the 32 bytes that are the firmware's. Free: the gap and the 32 bytes.
pub record Pictures (size plain : ℕ) (ps : List Piece) (g : Image) : Type 0 where
  pub gap : List ℕ
  pub information : List ℕ
  pub thirty_two : length information ≡ information_length
  pub counted : g.entries ≡ suc (length ps)
  pub filled : length g.bytes ≡ size
  pub stands : g.bytes ≡ user_data ps ++ (gap ++ (table_bytes (entries_of plain (size - length (user_data ps)) ps) ++ information))

-- A run's groups: "Numbers then rise by one", and none is above 65,535. b4 is clear in the first `plain` entries of the whole run
-- and set in the others: "one entry of the whole run, or none, where b4 begins".
pub data Run (size : ℕ) : ℕ → ℕ → List (List Piece) → List Image → Type 0 where
  run_none : {plain number : ℕ} → Run size plain number [] []
  run_more : {plain number : ℕ} {ps : List Piece} {pss : List (List Piece)} {g : Image} {gs : List Image} →
      number ≤ last_number → g.number ≡ number → Pictures size plain ps g → Run size (plain - g.entries) (suc number) pss gs →
      Run size plain number (ps ∷ pss) (g ∷ gs)

-- These items, with these bytes of a record broken off, are a lawful layout of these groups.
pub record Lays (size first : ℕ) (finished : List Item) (begun : List ℕ) (run : List Image) : Type 0 where
  pub sized : size_kept size ≡ true
  pub numbered : number_kept first ≡ true
  pub laid : List Laid
  pub tail : Tail
  pub groups : List (List Piece)
  pub plain : ℕ
  pub sound : Each (SoundLaid size) laid
  pub sound_tail : SoundTail size tail
  pub finishes : items laid ≡ finished
  pub breaks : so_far tail ≡ begun
  pub groups_of : tokens laid tail ≡ grouped groups
  pub images : Run size plain first groups run
