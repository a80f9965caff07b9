-- Document 01, "Bench program": the sections of a run before its images.
-- Assumes nothing.
use Rattle.std.specs.Prelude.{ℕ, ◌+◌, ◌*◌, ◌≤◌, ◌<◌, ◌≡◌, List, Bool, cond, not, eqb, ltb, length, take}
use Rattle.group.specs.Sizes.{least_size}
use Rattle.numbers.specs.Numbers.{number_at, between}
use Rattle.sections.specs.declared.Sections.{Sections}
use Rattle.sections.specs.declared.Sections.TheVariants.{Next, Bad, Whole}
use Rattle.sections.specs.declared.Pair.{Pair}

-- "4-byte L (64 to 4,096)", "4-byte count G (1 to 1,024)"
abbrev pub largest_size : ℕ
largest_size = 4096

abbrev pub most_groups : ℕ
most_groups = 1024

-- The sections before the images where there are the most groups: three counts, L, and the pairs.
abbrev pub longest_sections : ℕ
longest_sections = 16 + 4 * most_groups

-- One section among the bytes of a run that were read so far: short of byte `to`, where the section ends; out of range; or
-- kept, and then what the rest is.
unfoldable pub section : List ℕ → ℕ → Bool → Sections → Sections
section s to kept rest = cond (ltb (length s) to) (Next to) (cond (not kept) Bad rest)

-- "4-byte count G × L, then the images"; it stands after the pairs.
unfoldable pub images_section : (s : List ℕ) (size groups : ℕ) → Sections
images_section s size groups =
    section s (12 + 4 * groups + 4) (eqb (number_at 4 s (12 + 4 * groups)) (groups * size)) (Whole size groups)

-- "4-byte count G (1 to 1,024), then G pairs of 2-byte group number and 2-byte entry count"
unfoldable pub groups_section : List ℕ → ℕ → Sections
groups_section s size = section s 12 (between 1 (number_at 4 s 8) most_groups) (images_section s size (number_at 4 s 8))

-- "then 4-byte L (64 to 4,096)"
unfoldable pub size_section : List ℕ → Sections
size_section s = section s 8 (between least_size (number_at 4 s 4) largest_size) (groups_section s (number_at 4 s 4))

-- "4-byte count 1"
unfoldable pub sections_of : List ℕ → Sections
sections_of s = section s 4 (eqb (number_at 4 s 0) 1) (size_section s)

-- Reading is over on an input: no section is asked for, or one that the input is too short for ("short input").
abbrev pub Over : List ℕ → Sections → Type 0
Over input r = (to : ℕ) → r ≡ Next to → length input < to

-- "G pairs of 2-byte group number and 2-byte entry count": the pair of group i, counted from 0.
unfoldable pub pair_at : List ℕ → ℕ → Pair
pair_at s i = record { number = number_at 2 s (12 + 4 * i); entries = number_at 2 s (12 + 4 * i + 2) }

-- Serves contracts: L and G in range; whole sections found at the beginning of some bytes; and a next section that ends further
-- on, no further than the longest sections do.
abbrev pub InRange : ℕ → ℕ → Type 0
InRange size groups = (size ≤ largest_size) × ((1 ≤ groups) × (groups ≤ most_groups))

pub record Found (size groups : ℕ) (s : List ℕ) : Type 0 where
  pub to : ℕ
  pub whole : sections_of (take to s) ≡ Whole size groups
  pub range : InRange size groups

abbrev pub Ahead : ℕ → Sections → Type 0
Ahead have (Next to) = (have < to) × (to ≤ longest_sections)
Ahead have Bad = Unit {0}
Ahead have (Whole size groups) = InRange size groups
