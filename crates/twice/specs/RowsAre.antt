-- Document 01, "Reading": "three 32-bit numbers per entry: kind, data offset reached before this entry, count. Rows after the n-th
-- are untouched." Row by row, by the bytes of the entry at L − 32 − 4k and the table of flags.
-- Assumes nothing.
use Rattle.std.specs.Prelude.{ℕ, zero, suc, ◌+◌, ◌*◌, ◌-◌, ◌<◌, List, [], ◌∷◌, cond, ◌&&◌, ◌≡◌, eqb, leb, take, drop}
use Rattle.group.specs.declared.Entry.{Entry}
use Rattle.group.specs.Entries.{entry_at}

-- The table of "The group": each flag with the number of its kind.
abbrev pub flag_rows : List (ℕ × ℕ)
flag_rows =
    (0x01, 1) ∷ (0x09, 1) ∷ (0x07, 2) ∷ (0x0F, 2) ∷ (0x40, 3) ∷ (0x48, 3) ∷ (0x42, 4) ∷ (0x4A, 4)
    ∷ (0x60, 5) ∷ (0x68, 5) ∷ (0x63, 6) ∷ (0x6B, 6) ∷ (0x80, 7) ∷ (0x88, 7) ∷ []

-- The kind that a flag has by such rows, 0 where it is not among them.
abbrev pub kind_among : List (ℕ × ℕ) → ℕ → ℕ
kind_among [] flag = 0
kind_among (row ∷ rows) flag = cond (eqb flag row.0) row.1 (kind_among rows flag)

-- The kind of an entry.
unfoldable pub kind_is : Entry → ℕ
kind_is e = kind_among flag_rows e.flag

-- The bytes of user data that an entry of this kind and count stands for: its count, of kinds 3 to 6.
abbrev pub data_of : (kind count : ℕ) → ℕ
data_of kind count = cond (leb 3 kind && leb kind 6) count 0

-- .. that an entry stands for.
abbrev pub data_is : Entry → ℕ
data_is e = data_of (kind_is e) e.count

-- "Entry k (k from 1) is the four bytes from L − 32 − 4k."
abbrev pub entry_of : List ℕ → (size k : ℕ) → Entry
entry_of group size k = entry_at group (size - 32 - 4 * k)

-- The bytes of user data that entries 1 to k stand for.
unfoldable pub data_to : List ℕ → (size k : ℕ) → ℕ
data_to group size zero = 0
data_to group size (suc k) = data_to group size k + data_is (entry_of group size (suc k))

-- The rows of a group of n entries: row k + 1 is kind, data before and count of entry k + 1; behind row n stands what stood.
pub record RowsAre (size n : ℕ) (group old rows : List ℕ) : Type 0 where
  pub row : (k : ℕ) → k < n →
      take 3 (drop (3 * k) rows) ≡ kind_is (entry_of group size (suc k)) ∷ data_to group size k ∷ (entry_of group size (suc k)).count ∷ []
  pub behind : drop (3 * n) rows ≡ drop (3 * n) old
