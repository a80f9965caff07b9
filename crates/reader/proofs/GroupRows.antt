-- How many numbers a group's rows are.
-- Assumes nothing.
use mathlib.Core.Path.{◌≡◌}
use mathlib.Core.List.{List}
use Prim.Native.Nat.{ℕ, ◌*◌, ◌-◌}
use native.Mathlib.Omega.{arith}
use lib.ListN.{length}
use Rattle.group.specs.Sizes.{information_length}
use Rattle.group.specs.Entries.{entries_below}
use Rattle.group.proofs.EntryLaws.{length_entries}
use Rattle.rows.proofs.Filling.{length_rows}
use Rattle.reader.specs.declared.Reader.{Reader}
use Rattle.reader.specs.Answer.{group_rows}

pub length_group_rows : (s : Reader) (group : List ℕ) (n : ℕ) → length (group_rows s group n) ≡ 3 * n
unfolding group_rows
length_group_rows s group n =
    omega (arith, length_rows 0 (entries_below group (s.size - information_length) n), length_entries group (s.size - information_length) n)
