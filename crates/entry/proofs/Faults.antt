-- What each test of an entry tells of its fault, and what an entry without a fault leaves.
-- Assumes nothing.
use mathlib.Core.Path.{◌≡◌, refl}
use mathlib.Core.Bool.{Bool, true, false, cond, not, ◌||◌}
use Prim.Native.Nat.{ℕ, ◌-◌, ◌≤◌}
use native.Mathlib.Omega.{arith}
use borrow.Author.Tests.{eq-eqb, ne_eqb, eqb-true, eqb-false, leb-true, not-false}
use lib.Dec.{eqb}
use Rattle.group.specs.declared.Kind.{Kind}
use Rattle.group.specs.declared.Kind.TheVariants.{Total, Separator, Middle, Start, Last, Entire, Skip}
use Rattle.group.specs.Flags.{Meaning}
use Rattle.std.specs.Prelude.{Some, None}
use Rattle.group.specs.Sizes.{longest_record}
use Rattle.group.specs.Flags.{meaning_of}
use Rattle.group.specs.ForContracts.{Meant}
use Rattle.group.proofs.FlagLaws.{meant_or}
use Rattle.numbers.proofs.Tests.{passed}
use Rattle.entry.specs.declared.Cursor.{Cursor}
use Rattle.entry.specs.declared.Stand.{Stand}
use Rattle.counts.specs.Counts.{count_fault}
use Rattle.entry.specs.Rules.{is_skip, b4_kept, follow_kept, room_kept, skip_kept, may_owe, owed_kept, data_fault, entry_fault, or_else, sum_after, reached_after}
use Rattle.entry.specs.Scan.{after}
use Rattle.counts.proofs.Counts.{CountKept, count_kept, no_count_fault}
use Rattle.entry.specs.Bounds.{Bounded}

-- Whatever the `||` of a list's end adds, it is nothing.
pub or_false : (b : Bool) → b || false ≡ b
or_false true = refl
or_false false = refl

-- The number of an entry's fault, test by test, where its flag means a kind.
module _ (size limit : ℕ) (last : Bool) (c : Cursor) (k : Kind) (w : Bool) (count : ℕ) where
  pub dropped : b4_kept c.warned w ≡ false → 9 ≡ entry_fault size limit last c (Some (k, w)) count
  unfolding entry_fault
  dropped h = rw h

  pub misplaced : b4_kept c.warned w ≡ true → follow_kept c.stand k last ≡ false → 10 ≡ entry_fault size limit last c (Some (k, w)) count
  unfolding entry_fault
  misplaced h i = rw (h, i)

  pub miscounted : b4_kept c.warned w ≡ true → follow_kept c.stand k last ≡ true → (n : ℕ) → n ≡ count_fault k c.sum count → (n ≡ 0 → ⊥)
      → n ≡ entry_fault size limit last c (Some (k, w)) count
  unfolding entry_fault
  miscounted h i n f z = rw (h, i, ← f, ne_eqb n 0 z)

  pub counted : b4_kept c.warned w ≡ true → follow_kept c.stand k last ≡ true → count_fault k c.sum count ≡ 0
      → data_fault size limit c.stand c.reached k count ≡ entry_fault size limit last c (Some (k, w)) count
  unfolding entry_fault
  counted h i f = rw (h, i, f)

-- A skip's count, against L less the data before it, and against what may owe a total.
module _ (size limit : ℕ) (stand : Stand) (reached : ℕ) (k : Kind) (count : ℕ) (h : room_kept k reached count limit ≡ true) (i : is_skip k ≡ true) where
  pub skip_differs : (count ≡ size - reached → ⊥) → 13 ≡ data_fault size limit stand reached k count
  skip_differs e = rw (h, i, ne_eqb count (size - reached) e)

  pub skip_early : count ≡ size - reached → may_owe stand count ≡ false → 23 ≡ data_fault size limit stand reached k count
  skip_early e o = rw (h, i, eq-eqb count (size - reached) e, o)

  pub skip_counted : count ≡ size - reached → may_owe stand count ≡ true → 0 ≡ data_fault size limit stand reached k count
  skip_counted e o = rw (h, i, eq-eqb count (size - reached) e, o)

-- Every rule of an entry is kept.
pub record Kept (size limit : ℕ) (last : Bool) (c : Cursor) (k : Kind) (w : Bool) (count : ℕ) : Type 0 where
  pub b4 : b4_kept c.warned w ≡ true
  pub follow : follow_kept c.stand k last ≡ true
  pub counted : CountKept k c.sum count
  pub room : room_kept k c.reached count limit ≡ true
  pub skip : skip_kept k c.reached count size ≡ true
  pub owed : owed_kept k c.stand count ≡ true

or_none : (fault rest : ℕ) → or_else fault rest ≡ 0 → (fault ≡ 0) × (rest ≡ 0)
or_none fault rest e = by (eqb fault 0) refl e
  where
    by : (t : Bool) → eqb fault 0 ≡ t → cond t rest fault ≡ 0 → (fault ≡ 0) × (rest ≡ 0)
    by true x h = (eqb-true fault 0 x, h)
    by false x h = absurd (eqb-false fault 0 x h)

-- No fault is every rule kept, and the other way round.
module _ (size limit : ℕ) (last : Bool) (c : Cursor) (k : Kind) (w : Bool) (count : ℕ) where
  pub kept : entry_fault size limit last c (Some (k, w)) count ≡ 0 → Kept size limit last c k w count
  unfolding entry_fault
  kept e =
      let a = passed (not (b4_kept c.warned w)) 8 e in
      let b = passed (not (follow_kept c.stand k last)) 9 a.1 in
      let d = or_none (count_fault k c.sum count) (data_fault size limit c.stand c.reached k count) b.1 in
      let f = passed (not (room_kept k c.reached count limit)) 11 d.1 in
      let g = passed (not (skip_kept k c.reached count size)) 12 f.1 in
      let o = passed (not (owed_kept k c.stand count)) 22 g.1 in
      record {
        b4 = not-false _ a.0;
        follow = not-false _ b.0;
        counted = count_kept k c.sum count d.0;
        room = not-false _ f.0;
        skip = not-false _ g.0;
        owed = not-false _ o.0;
      }

  pub no_fault : Kept size limit last c k w count → entry_fault size limit last c (Some (k, w)) count ≡ 0
  unfolding entry_fault
  no_fault h = rw (h.b4, h.follow, no_count_fault k c.sum count h.counted, h.room, h.skip, h.owed)

-- A flag without a meaning is a fault.
pub unknown_fault : (size limit : ℕ) (last : Bool) (c : Cursor) (count : ℕ) → entry_fault size limit last c None count ≡ 0 → ⊥
unfolding entry_fault
unknown_fault size limit last c count e = omega arith

pub has_meaning : (size limit : ℕ) (last : Bool) (c : Cursor) (flag count : ℕ) → entry_fault size limit last c (meaning_of flag) count ≡ 0 → Meant flag
has_meaning size limit last c flag count e =
    meant_or flag (λ u. absurd (unknown_fault size limit last c count (rw u at e))) (λ m. m)

-- The sum stays within the longest record.
pub sum_small : (k : Kind) (sum count : ℕ) → CountKept k sum count → sum ≤ longest_record → sum_after k sum count ≤ longest_record
sum_small Total sum count r h = omega arith
sum_small Separator sum count r h = omega arith
sum_small Middle sum count r h = omega arith
sum_small Start sum count r h = omega arith
sum_small Last sum count r h = omega arith
sum_small Entire sum count r h = omega arith
sum_small Skip sum count r h = h

-- An entry without a fault leaves the scan's numbers as small as they were.
pub stays : (size limit : ℕ) (last : Bool) (c : Cursor) (m : Meaning) (count : ℕ) → Bounded limit c → entry_fault size limit last c m count ≡ 0
    → Bounded limit (after c m count)
stays size limit last c None count b e = b
stays size limit last c (Some (k, w)) count b e =
    let h = kept size limit last c k w count e in
    record {
      sum = sum_small k c.sum count h.counted b.sum;
      reached = leb-true (reached_after k c.reached count) limit h.room;
    }
