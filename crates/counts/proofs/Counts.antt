-- A count that keeps its rule, as facts on numbers: what the crates above cite, so that none of them writes out a refusal's number.
-- Assumes nothing.
use mathlib.Core.Path.{◌≡◌, refl}
use mathlib.Core.Bool.{Bool, true, false, cond, not}
use Prim.Native.Nat.{ℕ, suc, ◌+◌, ◌-◌, ◌≤◌}
use native.Mathlib.Omega.{arith}
use borrow.Author.Tests.{eq-eqb, ne_eqb, le-leb, eqb-true, leb-true, not-false}
use lib.Dec.{eqb, leb}
use Rattle.group.specs.declared.Kind.{Kind}
use Rattle.group.specs.declared.Kind.TheVariants.{Total, Separator, Middle, Start, Last, Entire, Skip}
use Rattle.group.specs.Sizes.{longest_record}
use Rattle.numbers.proofs.Tests.{passed}
use Rattle.counts.specs.Counts.{count_fault}
use Rattle.counts.specs.Parts.{part_fault}

-- A part of 1 byte or more, up to which the parts add to at most so much.
abbrev pub PartKept : (count parts most : ℕ) → Type 0
PartKept count parts most = (1 ≤ count) × (parts ≤ most)

abbrev pub CountKept : Kind → (sum count : ℕ) → Type 0
CountKept Total sum count = count ≡ sum
CountKept Separator sum count = count ≤ 1
CountKept Middle sum count = PartKept count (sum + count) (longest_record - 1)
CountKept Start sum count = PartKept count count (longest_record - 1)
CountKept Last sum count = PartKept count (sum + count) longest_record
CountKept Entire sum count = PartKept count count longest_record
CountKept Skip sum count = Unit {0}

-- A test that gives 0 was passed.
passes : (b : Bool) (k : ℕ) → cond (not b) (suc k) 0 ≡ 0 → b ≡ true
passes true k e = refl
passes false k e = absurd (omega arith)

part_kept : (count parts most : ℕ) → part_fault count parts most ≡ 0 → PartKept count parts most
part_kept count parts most e =
    let a = passed (not (leb 1 count)) 18 e in
    (leb-true 1 count (not-false _ a.0), leb-true parts most (passes (leb parts most) 20 a.1))

-- No fault of a count is its rule kept, and the other way round.
pub count_kept : (k : Kind) (sum count : ℕ) → count_fault k sum count ≡ 0 → CountKept k sum count
count_kept Total sum count e = eqb-true count sum (passes (eqb count sum) 21 e)
count_kept Separator sum count e = leb-true count 1 (passes (leb count 1) 19 e)
count_kept Middle sum count e = part_kept count (sum + count) (longest_record - 1) e
count_kept Start sum count e = part_kept count count (longest_record - 1) e
count_kept Last sum count e = part_kept count (sum + count) longest_record e
count_kept Entire sum count e = part_kept count count longest_record e
count_kept Skip sum count e = tt

part_fits : (count parts most : ℕ) → PartKept count parts most → part_fault count parts most ≡ 0
part_fits count parts most h = rw (le-leb 1 count h.0, le-leb parts most h.1)

pub no_count_fault : (k : Kind) (sum count : ℕ) → CountKept k sum count → count_fault k sum count ≡ 0
no_count_fault Total sum count h = rw (eq-eqb count sum h)
no_count_fault Separator sum count h = rw (le-leb count 1 h)
no_count_fault Middle sum count h = part_fits count (sum + count) (longest_record - 1) h
no_count_fault Start sum count h = part_fits count count (longest_record - 1) h
no_count_fault Last sum count h = part_fits count (sum + count) longest_record h
no_count_fault Entire sum count h = part_fits count count longest_record h
no_count_fault Skip sum count h = refl

-- A total's count, against the sum of its parts.
module _ (sum count : ℕ) where
  pub total_kept : count ≡ sum → 0 ≡ count_fault Total sum count
  total_kept e = rw (eq-eqb count sum e)

  pub total_differs : (count ≡ sum → ⊥) → 22 ≡ count_fault Total sum count
  total_differs e = rw (ne_eqb count sum e)
