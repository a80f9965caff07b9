-- Serves contracts and proofs only: the table that the code is lent, how a group's table is cut, and how large numbers are where the
-- code adds them.
-- Assumes nothing.
use Rattle.std.specs.Prelude.{ℕ, ◌+◌, ◌*◌, ◌≤◌, ◌≡◌, List, [], ◌∷◌, map, Bool, false, length}
use Rattle.group.specs.declared.Entry.{Entry}
use Rattle.group.specs.Sizes.{standard_size, information_length, entry_length, longest_record}
use Rattle.group.specs.Flags.{kinds, meaning_of}
use Rattle.group.specs.ForContracts.{Meant}
use Rattle.entry.specs.declared.Stand.{Stand}
use Rattle.entry.specs.declared.Stand.TheVariants.{Free, AfterPart, Inside, AfterLast, Owed}
use Rattle.entry.specs.declared.Cursor.{Cursor}
use Rattle.entry.specs.Rules.{may_follow}
use Rattle.entry.specs.Scan.{reached_by}

-- A stand's row in the table, and the stands in that order.
abbrev pub stand_number : Stand → ℕ
stand_number Free = 0
stand_number AfterPart = 1
stand_number Inside = 2
stand_number AfterLast = 3
stand_number Owed = 4

abbrev pub stands : List Stand
stands = Free ∷ AfterPart ∷ Inside ∷ AfterLast ∷ Owed ∷ []

-- By the stand's number and the kind's: whether an entry of that kind may follow. No kind has the number 0.
unfoldable pub follow_table : List (List Bool)
follow_table = map (λ (stand : Stand). false ∷ map (may_follow stand) kinds) stands

-- How a group's table is cut: the buffer is L bytes, and n entries have room in it.
pub record Cut (group : List ℕ) (size n : ℕ) : Type 0 where
  pub long : length group ≡ size
  pub room : information_length + entry_length * n ≤ size
  pub some : 1 ≤ n
  pub most : size ≤ standard_size

-- How large a cursor's numbers are.
pub record Bounded (limit : ℕ) (c : Cursor) : Type 0 where
  pub sum : c.sum ≤ longest_record
  pub reached : c.reached ≤ limit

-- The flags of these entries have a meaning, and their data, from this offset on, stays within the limit.
unfoldable pub Within : ℕ → ℕ → List Entry → Type 0
Within limit reached [] = Unit {0}
Within limit reached (e ∷ es) =
    ((reached ≤ limit) × Meant e.flag) × Within limit (reached_by (meaning_of e.flag) reached e.count) es
