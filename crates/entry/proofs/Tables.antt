-- The entries of a group are those of its table: groups whose tables are alike have the same.
-- Assumes nothing.
use Prim.Native.Nat.{ℕ, zero, suc, ◌+◌, ◌*◌, ◌-◌, ◌≤◌, ◌<◌}
use native.Mathlib.Omega.{arith}
use mathlib.Core.List.{List}
use mathlib.Core.Path.{◌≡◌, refl}
use lib.ListN.{get_or}
use Rattle.numbers.specs.Numbers.{number_at}
use Rattle.group.specs.Sizes.{information_length, entry_length}
use Rattle.group.specs.Entries.{entry_at, entries_below}
use Rattle.entry.specs.Table.{SameTable}

number_same : (width : ℕ) (g h : List ℕ) (at : ℕ) → ((i : ℕ) → at ≤ i → i < at + width → get_or g i 0 ≡ get_or h i 0) → number_at width g at ≡ number_at width h at
unfolding number_at
number_same zero g h at e = refl
number_same (suc more) g h at e = rw (e at (omega arith) (omega arith), number_same more g h (at + 1) (λ i a b. e i (omega arith) (omega arith)))

entries_same : (g h : List ℕ) (top n : ℕ) → 4 * n ≤ top → ((i : ℕ) → top - 4 * n ≤ i → i < top → get_or g i 0 ≡ get_or h i 0) → entries_below g top n ≡ entries_below h top n
unfolding entries_below entry_at
entries_same g h top zero f e = refl
entries_same g h top (suc n) f e =
    rw (
      e (top - 4) (omega arith) (omega arith),
      number_same 3 g h (top - 4 + 1) (λ i a b. e i (omega arith) (omega arith)),
      entries_same g h (top - 4) n (omega arith) (λ i a b. e i (omega arith) (omega arith)),
    )

pub same_entries : (size n : ℕ) (g h : List ℕ) → information_length + entry_length * n ≤ size → SameTable size n g h →
    entries_below g (size - information_length) n ≡ entries_below h (size - information_length) n
same_entries size n g h fits t = entries_same g h (size - information_length) n (omega arith) (λ i a b. t.table i (omega arith) (omega arith))
