-- What the sections are found to be on as much of an input as was read is what they are on all of it.
-- Assumes nothing.
use Prim.Native.Nat.{ℕ, zero, suc, ◌+◌, ◌*◌, ◌≤◌}
use mathlib.Core.Path.{◌≡◌, refl, sym, ap, ◌∙◌}
use mathlib.Core.Bool.{Bool, true, false, cond, not}
use mathlib.Core.List.{List}
use native.Mathlib.Omega.{arith}
use borrow.Author.Tests.{ltb-false}
use lib.Dec.{eqb, ltb}
use lib.ListN.{length, take, length-take}
use lib.Seq.{get_or-take}
use Rattle.group.specs.Sizes.{least_size}
use Rattle.numbers.specs.Numbers.{number_at, between}
use Rattle.sections.specs.declared.Sections.{Sections}
use Rattle.sections.specs.declared.Sections.TheVariants.{Next, Bad}
use Rattle.sections.specs.Sections.{largest_size, most_groups, section, images_section, groups_section, size_section, sections_of, Over}
use Rattle.sections.proofs.SectionLaws.{short, spoilt, kept}

-- A number that stands among the bytes that were read.
number_read : (width : ℕ) (s : List ℕ) (n at : ℕ) → at + width ≤ n → number_at width (take n s) at ≡ number_at width s at
unfolding number_at
number_read zero s n at h = refl
number_read (suc more) s n at h = rw (get_or-take n s at 0 (omega arith), number_read more s n (at + 1) (omega arith))

-- One section: where its bytes were read, and what is kept and what follows are the same on all of the input, so is what it is.
one : (s : List ℕ) (n to : ℕ) (kept_read kept_all : Bool) (rest_read rest_all r : Sections)
    → (to ≤ n → (kept_read ≡ kept_all) × (rest_read ≡ r → rest_all ≡ r))
    → section (take n s) to kept_read rest_read ≡ r → Over s r → section s to kept_all rest_all ≡ r
unfolding section
one s n to kept_read kept_all rest_read rest_all r same e over = by (ltb (length (take n s)) to) refl kept_read refl e
  where
    by : (b₀ : Bool) → ltb (length (take n s)) to ≡ b₀ → (b : Bool) → kept_read ≡ b → cond b₀ (Next to) (cond (not b) Bad rest_read) ≡ r → section s to kept_all rest_all ≡ r
    by true x b y h = sym (short s to kept_all rest_all (over to (sym h))) ∙ h
    by false x b y h = on b y h
      where
        long : to ≤ length (take n s)
        long = ltb-false (length (take n s)) to x

        read : to ≤ n
        read = let m = length-take n s in omega (arith, long, m)

        there : to ≤ length s
        there = let m = length-take n s in omega (arith, long, m)

        on : (b : Bool) → kept_read ≡ b → cond (not b) Bad rest_read ≡ r → section s to kept_all rest_all ≡ r
        on false y h = sym (spoilt s to kept_all rest_all there (sym (same read).0 ∙ y)) ∙ h
        on true y h = sym (kept s to kept_all rest_all there (sym (same read).0 ∙ y)) ∙ (same read).1 h

images_read : (s : List ℕ) (n size groups : ℕ) (r : Sections) → images_section (take n s) size groups ≡ r → Over s r → images_section s size groups ≡ r
unfolding images_section
images_read s n size groups r e over =
    one s n _ _ _ _ _ r
    (λ h. (ap (λ (k : ℕ). eqb k (groups * size)) (number_read 4 s n (12 + 4 * groups) (omega (arith, h))), λ x. x))
    e over

groups_read : (s : List ℕ) (n size : ℕ) (r : Sections) → groups_section (take n s) size ≡ r → Over s r → groups_section s size ≡ r
unfolding groups_section
groups_read s n size r e over =
    one s n _ _ _ _ _ r
    (λ h.
    let same = number_read 4 s n 8 (omega (arith, h)) in (
      ap (λ (k : ℕ). between 1 k most_groups) same,
      λ x. images_read s n size (number_at 4 s 8) r (ap (λ (k : ℕ). images_section (take n s) size k) (sym same) ∙ x) over,
    ))
    e over

size_read : (s : List ℕ) (n : ℕ) (r : Sections) → size_section (take n s) ≡ r → Over s r → size_section s ≡ r
unfolding size_section
size_read s n r e over =
    one s n _ _ _ _ _ r
    (λ h.
    let same = number_read 4 s n 4 (omega (arith, h)) in (
      ap (λ (k : ℕ). between least_size k largest_size) same,
      λ x. groups_read s n (number_at 4 s 4) r (ap (λ (k : ℕ). groups_section (take n s) k) (sym same) ∙ x) over,
    ))
    e over

-- "A section out of range, short input .. print `bad run file` at that moment": what the sections are on the bytes read so far,
-- once reading is over, they are on all of the input.
pub judged_as_read : (s : List ℕ) (n : ℕ) (r : Sections) → sections_of (take n s) ≡ r → Over s r → sections_of s ≡ r
unfolding sections_of
judged_as_read s n r e over =
    one s n _ _ _ _ _ r
    (λ h. (ap (λ (k : ℕ). eqb k 1) (number_read 4 s n 0 (omega (arith, h))), λ x. size_read s n r x over))
    e over
