-- Change request 2026-06, by the bytes of a group's entries and the table of flags.
-- Assumes nothing.
use Rattle.std.specs.Prelude.{ℕ, ◌≤◌, List, ◌≡◌}
use Rattle.twice.specs.RowsAre.{kind_is, entry_of}

-- "a group of two entries, last then skip, whose skip count is 44 or more": last is kind 5, skip is kind 7.
pub record OwedEarlyIn (size n : ℕ) (group : List ℕ) : Type 0 where
  pub two : n ≡ 2
  pub last : kind_is (entry_of group size 1) ≡ 5
  pub skip : kind_is (entry_of group size 2) ≡ 7
  pub early : 44 ≤ (entry_of group size 2).count
