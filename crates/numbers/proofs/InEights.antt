-- Laws of numbers in bytes, eight each: they are two numbers of four bytes.
-- Assumes nothing.
use mathlib.Core.Path.{◌≡◌, refl, sym, ap, ◌∙◌}
use mathlib.Core.List.{List, [], ◌∷◌, ◌++◌, append_assoc}
use Prim.Native.Nat.{ℕ, ◌+◌, ◌*◌, ◌/◌, ◌%◌}
use native.Mathlib.Omega.{arith}
use native.Mathlib.Nat.{div-one}
use lib.ListN.{length}
use Rattle.std.specs.Int.{w64, to_be_bytes}
use Rattle.numbers.specs.Store.{put}
use Rattle.numbers.specs.Numbers.{bytes_of, in_bytes, in_eights}
use Rattle.numbers.proofs.Stores.{put_put}
use Rattle.numbers.proofs.NumberLaws.{length_bytes, three_bytes, four_bytes}
use Rattle.numbers.proofs.InBytes.{puts, puts_whole}

-- The lower half's bytes are the number's last four, and the upper half's the four before them.
lower : (n : ℕ) → bytes_of 4 (n % 4294967296) ≡ bytes_of 4 n
lower n =
    let a : n % 4294967296 / 16777216 % 256 ≡ n / 16777216 % 256 = omega arith in
    let b : n % 4294967296 / 65536 % 256 ≡ n / 65536 % 256 = omega arith in
    let c : n % 4294967296 / 256 % 256 ≡ n / 256 % 256 = omega arith in
    let d : n % 4294967296 % 256 ≡ n % 256 = omega arith in
    rw (four_bytes (n % 4294967296), three_bytes (n % 4294967296), four_bytes n, three_bytes n, a, b, c, d)

upper : (n : ℕ) → bytes_of 4 (n / 4294967296) ++ bytes_of 4 n ≡ bytes_of 8 n
unfolding bytes_of
upper n =
    let a : n / 4294967296 / 16777216 ≡ n / 72057594037927936 = omega arith in
    let b : n / 4294967296 / 65536 ≡ n / 281474976710656 = omega arith in
    let c : n / 4294967296 / 256 ≡ n / 1099511627776 = omega arith in
    let d : n / 4294967296 / 1 ≡ n / 4294967296 = omega arith in
    rw (a, b, c, d)

both : (n : ℕ) → bytes_of 4 (n / 4294967296) ++ bytes_of 4 (n % 4294967296) ≡ bytes_of 8 n
both n = ap (λ (l : List ℕ). bytes_of 4 (n / 4294967296) ++ l) (lower n) ∙ upper n

-- Both halves stored are the number stored.
pub put_halves : (old : List ℕ) (at n : ℕ) → put (put old at (bytes_of 4 (n / 4294967296))) (at + 4) (bytes_of 4 (n % 4294967296)) ≡ put old at (bytes_of 8 n)
put_halves old at n =
    let a = bytes_of 4 (n / 4294967296) in
    let b = bytes_of 4 (n % 4294967296) in
    ap (λ (k : ℕ). put (put old at a) (at + k) b) (sym (length_bytes 4 (n / 4294967296))) ∙ put_put old at a b ∙ ap (put old at) (both n)

-- The halves of some numbers, and their bytes.
abbrev halves : List ℕ → List ℕ
halves [] = []
halves (n ∷ ns) = n / 4294967296 ∷ n % 4294967296 ∷ halves ns

in_halves : (ns : List ℕ) → in_bytes (halves ns) ≡ in_eights ns
unfolding in_bytes in_eights
in_halves [] = refl
in_halves (n ∷ ns) = sym (append_assoc (bytes_of 4 (n / 4294967296)) (bytes_of 4 (n % 4294967296)) _) ∙ rw (both n, in_halves ns)

length_halves : (ns : List ℕ) → length (halves ns) ≡ 2 * length ns
length_halves [] = refl
length_halves (n ∷ ns) = omega (arith, length_halves ns)

-- Numbers of eight bytes stored one after another, over a whole slice.
abbrev pub puts_eight : List ℕ → ℕ → List ℕ → List ℕ
puts_eight old at [] = old
puts_eight old at (n ∷ ns) = puts_eight (put old at (bytes_of 8 n)) (at + 8) ns

as_halves : (old : List ℕ) (at : ℕ) (ns : List ℕ) → puts_eight old at ns ≡ puts old at (halves ns)
as_halves old at [] = refl
as_halves old at (n ∷ ns) =
    let stored = put (put old at (bytes_of 4 (n / 4294967296))) (at + 4) (bytes_of 4 (n % 4294967296)) in
    let on : at + 8 ≡ at + 4 + 4 = omega arith in
    ap (λ (s : List ℕ). puts_eight s (at + 8) ns) (sym (put_halves old at n))
    ∙ as_halves stored (at + 8) ns
    ∙ ap (λ (k : ℕ). puts stored k (halves ns)) on

pub eights_whole : (old ns : List ℕ) → length old ≡ 8 * length ns → puts_eight old 0 ns ≡ in_eights ns
eights_whole old ns e = as_halves old 0 ns ∙ puts_whole old (halves ns) (omega (arith, length_halves ns)) ∙ in_halves ns

-- The number as eight bytes, by std's word for them.
pub eight_bytes : (n : ℕ) → to_be_bytes w64 n ≡ bytes_of 8 n
unfolding bytes_of
eight_bytes n = rw div-one
