-- One turn of the scan, by how many entries are left, and what its fault leads to.
-- Assumes nothing.
use mathlib.Core.Path.{◌≡◌, refl, sym}
use mathlib.Core.List.{List}
use Prim.Native.Nat.{ℕ, zero, suc, ◌+◌, ◌*◌, ◌-◌, ◌≤◌}
use native.Mathlib.Nat.{not-suc-le-zero}
use native.Mathlib.Numerals.{add-one}
use native.Mathlib.Omega.{arith}
use lib.Dec.{eqb, eqb-suc-zero}
use Rattle.answer.specs.declared.refusals.Refusal.{Refusal}
use Rattle.answer.specs.Numbers.{refusal_number}
use Rattle.answer.specs.NotZero.{refusal_not_zero}
use Rattle.group.specs.declared.Entry.{Entry}
use Rattle.group.specs.Sizes.{entry_offset}
use Rattle.group.specs.Entries.{entry_at, entries_below}
use Rattle.group.specs.Flags.{Meaning, meaning_of}
use Rattle.entry.specs.declared.Cursor.{Cursor}
use Rattle.entry.specs.ScanEnd.{Reached, Refused}
use Rattle.entry.specs.Rules.{entry_fault}
use Rattle.entry.specs.Scan.{after, is_last, onward, scan}
use Rattle.scan.specs.Stretch.{scan_left}

-- Entry n is the last, by how many are left.
last_is : (group : List ℕ) (top n : ℕ) → is_last (entries_below group top n) ≡ eqb n 0
unfolding entries_below
last_is group top zero = refl
last_is group top (suc n) = sym (eqb-suc-zero n)

-- One turn of the scan, where e is the entry below the top.
pub turn : (group : List ℕ) (size limit top left place : ℕ) (c : Cursor) (e : Entry) (fault : ℕ) → 1 ≤ left → e ≡ entry_at group (top - 4)
    → fault ≡ entry_fault size limit (eqb (left - 1) 0) c (meaning_of e.flag) e.count
    → scan size limit (entries_below group top left) place c
    ≡ onward fault place c (scan size limit (entries_below group (top - 4) (left - 1)) (place + 1) (after c (meaning_of e.flag) e.count))
unfolding scan entries_below
turn group size limit top zero place c e fault some is found = absurd (not-suc-le-zero some)
turn group size limit top (suc n) place c e fault some is found =
    let less : suc n - 1 ≡ n = omega arith in
    rw (found, less, add-one place, is, ← last_is group (top - 4) n)

-- The scan of no entries.
pub ended : (group : List ℕ) (size limit top left place : ℕ) (c : Cursor) → left ≡ 0 → Reached c ≡ scan size limit (entries_below group top left) place c
unfolding scan entries_below
ended group size limit top left place c e = rw e

-- The same, by how many entries are left.
pub left_turn : (group : List ℕ) (size n left : ℕ) (c : Cursor) (e : Entry) (fault : ℕ) → 1 ≤ left → left ≤ n → e ≡ entry_at group (entry_offset size n + 4 * (left - 1))
    → fault ≡ entry_fault size (entry_offset size n) (eqb (left - 1) 0) c (meaning_of e.flag) e.count
    → scan_left size n group left c ≡ onward fault (n + 1 - left) c (scan_left size n group (left - 1) (after c (meaning_of e.flag) e.count))
left_turn group size n left c e fault some most is found =
    let below : entry_offset size n + 4 * left - 4 ≡ entry_offset size n + 4 * (left - 1) = omega arith in
    let next : n + 1 - left + 1 ≡ n + 1 - (left - 1) = omega arith in
    rw (← next, ← below)
    (turn group size (entry_offset size n) (entry_offset size n + 4 * left) left (n + 1 - left) c e fault some (rw below is) found)

-- With no entry left it has reached its end.
pub none_left : (group : List ℕ) (size n left : ℕ) (c : Cursor) → left ≡ 0 → Reached c ≡ scan_left size n group left c
none_left group size n left c e = ended group size (entry_offset size n) (entry_offset size n + 4 * left) left (n + 1 - left) c e

-- The entry that stands below the top, and what its flag means.
pub record At (group : List ℕ) (size n left : ℕ) (e : Entry) (m : Meaning) : Type 0 where
  pub some : 1 ≤ left
  pub most : left ≤ n
  pub is : e ≡ entry_at group (entry_offset size n + 4 * (left - 1))
  pub means : m ≡ meaning_of e.flag

-- Where it keeps its rules the scan goes on, and where it breaks one it stops.
module _ (group : List ℕ) (size n left : ℕ) (c : Cursor) (e : Entry) (m : Meaning) (a : At group size n left e m) where
  from : (fault : ℕ) → fault ≡ entry_fault size (entry_offset size n) (eqb (left - 1) 0) c m e.count
      → scan_left size n group left c ≡ onward fault (n + 1 - left) c (scan_left size n group (left - 1) (after c m e.count))
  from fault f = rw a.means (left_turn group size n left c e fault a.some a.most a.is (rw (← a.means) f))

  pub passes : 0 ≡ entry_fault size (entry_offset size n) (eqb (left - 1) 0) c m e.count
      → scan_left size n group (left - 1) (after c m e.count) ≡ scan_left size n group left c
  passes f = sym (from 0 f)

  pub stops : (r : Refusal) → refusal_number r ≡ entry_fault size (entry_offset size n) (eqb (left - 1) 0) c m e.count
      → Refused (refusal_number r) (n - (left - 1)) c ≡ scan_left size n group left c
  stops r f =
      let place : n - (left - 1) ≡ n + 1 - left = omega (arith, a.some) in
      rw (from (refusal_number r) f, refusal_not_zero r, place)
