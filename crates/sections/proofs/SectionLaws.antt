-- Laws of the sections: the two tests of one section, and a pair's two numbers out of four bytes.
-- Assumes nothing.
use Prim.Native.Nat.{ℕ, ◌+◌, ◌*◌, ◌/◌, ◌%◌, ◌≤◌, ◌<◌}
use mathlib.Core.Path.{◌≡◌, ap, ◌∙◌}
use mathlib.Core.Bool.{Bool, true, false}
use mathlib.Core.List.{List}
use native.Mathlib.Nat.{mul-le-mul}
use native.Mathlib.Omega.{arith}
use lib.ListN.{length, get_or}
use borrow.Author.Tests.{lt-ltb, le-ltb}
use Rattle.numbers.specs.Numbers.{number_at}
use Rattle.numbers.proofs.NumberLaws.{four_at}
use Rattle.sections.specs.declared.Sections.{Sections}
use Rattle.sections.specs.declared.Sections.TheVariants.{Next, Bad}
use Rattle.sections.specs.declared.Pair.{Pair}
use Rattle.sections.specs.Sections.{largest_size, most_groups, section, pair_at}

-- A section is short, out of range, or kept.
pub short : (s : List ℕ) (to : ℕ) (b : Bool) (rest : Sections) → length s < to → Next to ≡ section s to b rest
unfolding section
short s to b rest h = rw (lt-ltb (length s) to h)

pub spoilt : (s : List ℕ) (to : ℕ) (b : Bool) (rest : Sections) → to ≤ length s → b ≡ false → Bad ≡ section s to b rest
unfolding section
spoilt s to b rest h e = rw (le-ltb (length s) to h, e)

pub kept : (s : List ℕ) (to : ℕ) (b : Bool) (rest : Sections) → to ≤ length s → b ≡ true → rest ≡ section s to b rest
unfolding section
kept s to b rest h e = rw (le-ltb (length s) to h, e)

-- Sizes in range multiply without wrapping.
pub images_fit : (size groups : ℕ) → size ≤ largest_size → groups ≤ most_groups → groups * size < 4294967296
images_fit size groups h g = let p : groups * size ≤ most_groups * largest_size = mul-le-mul g h in omega (arith, p)

-- The two numbers of a pair are the halves of its four bytes.
two_at : (s : List ℕ) (at : ℕ) → number_at 2 s at ≡ get_or s at 0 * 256 + get_or s (at + 1) 0
unfolding number_at
two_at s at = omega arith

high_half : (s : List ℕ) (at n : ℕ) → ((k : ℕ) → get_or s k 0 < 256) → n ≡ number_at 4 s at → n / 65536 ≡ number_at 2 s at
high_half s at n bytes e =
    omega (arith, e, four_at s at, two_at s at, bytes (at + 1), bytes (at + 2), bytes (at + 3))

low_half : (s : List ℕ) (at n : ℕ) → ((k : ℕ) → get_or s k 0 < 256) → n ≡ number_at 4 s at → n % 65536 ≡ number_at 2 s (at + 2)
low_half s at n bytes e =
    let three : at + 2 + 1 ≡ at + 3 = omega arith in
    let two : number_at 2 s (at + 2) ≡ get_or s (at + 2) 0 * 256 + get_or s (at + 3) 0 = two_at s (at + 2) ∙ ap (λ (k : ℕ). get_or s (at + 2) 0 * 256 + get_or s k 0) three in
    omega (arith, e, four_at s at, two, bytes (at + 1), bytes (at + 2), bytes (at + 3))

pub pair_halved : (s : List ℕ) (i n : ℕ) → ((k : ℕ) → get_or s k 0 < 256) → n ≡ number_at 4 s (12 + 4 * i)
    → ◌≡◌ {A = Pair} (record { number = n / 65536; entries = n % 65536 }) (pair_at s i)
unfolding pair_at
pair_halved s i n bytes e = rw (high_half s (12 + 4 * i) n bytes e, low_half s (12 + 4 * i) n bytes e)
