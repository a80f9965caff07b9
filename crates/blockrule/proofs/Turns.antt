-- The first entry of another length, by how many entries of a group are left.
-- Assumes nothing.
use Prim.Native.Nat.{ℕ, zero, suc, ◌+◌, ◌*◌, ◌-◌, ◌≤◌}
use native.Mathlib.Omega.{arith}
use mathlib.Core.Path.{◌≡◌, ap}
use mathlib.Core.List.{List}
use mathlib.Core.Bool.{true, false}
use Rattle.std.specs.Prelude.{Option, Some, None}
use Rattle.group.specs.declared.Entry.{Entry}
use Rattle.group.specs.Sizes.{entry_offset}
use Rattle.group.specs.Flags.{meaning_of}
use Rattle.group.specs.Entries.{entry_at, entries_below}
use Rattle.blockrule.specs.Rule.{block_kept}
use Rattle.blockrule.specs.Bounds.{other_at}

-- The first of those that are left.
abbrev pub other_left : (block size n : ℕ) (group : List ℕ) (left : ℕ) → Option ℕ
other_left block size n group left = other_at block (entries_below group (entry_offset size n + 4 * left) left) (n + 1 - left)

-- With none left there is none.
pub none_left : (block size n : ℕ) (group : List ℕ) (left : ℕ) → left ≡ 0 → None ≡ other_left block size n group left
unfolding other_at entries_below
none_left block size n group left e = rw e

module _ (block size n : ℕ) (group : List ℕ) (left : ℕ) (e : Entry) (some : 1 ≤ left) (most : left ≤ n) (is : e ≡ entry_at group (entry_offset size n + 4 * (left - 1))) where
  below : entry_offset size n + 4 * left - 4 ≡ entry_offset size n + 4 * (left - 1)
  below = omega arith

  pub found_here : block_kept block (meaning_of e.flag) e.count ≡ false → Some (n - (left - 1)) ≡ other_left block size n group left
  unfolding other_at entries_below
  found_here h = by left some is
    where
      by : (m : ℕ) → 1 ≤ m → e ≡ entry_at group (entry_offset size n + 4 * (m - 1)) → Some (n - (m - 1)) ≡ other_left block size n group m
      by zero z i = absurd (omega arith)
      by (suc m) z i =
          let at : entry_offset size n + 4 * suc m - 4 ≡ entry_offset size n + 4 * (suc m - 1) = omega arith in
          rw (at, ← i, h) (ap Some (omega arith))

  pub kept_here : block_kept block (meaning_of e.flag) e.count ≡ true → other_left block size n group left ≡ other_left block size n group (left - 1)
  unfolding other_at entries_below
  kept_here h = by left some most is
    where
      by : (m : ℕ) → 1 ≤ m → m ≤ n → e ≡ entry_at group (entry_offset size n + 4 * (m - 1)) → other_left block size n group m ≡ other_left block size n group (m - 1)
      by zero z k i = absurd (omega arith)
      by (suc m) z k i =
          let at : entry_offset size n + 4 * suc m - 4 ≡ entry_offset size n + 4 * (suc m - 1) = omega arith in
          let less : suc m - 1 ≡ m = omega arith in
          let place : suc (n + 1 - suc m) ≡ n + 1 - m = omega arith in
          rw (at, ← i, h, less, place)
