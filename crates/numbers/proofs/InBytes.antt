-- Laws of numbers in bytes, four each: how long they are, one after another, what a store of them leaves, and back.
-- Assumes nothing.
use mathlib.Core.Path.{◌≡◌, refl, sym, ap, ◌∙◌}
use mathlib.Core.List.{List, [], ◌∷◌, ◌++◌, append_assoc, append-nil}
use Prim.Native.Nat.{ℕ, zero, suc, ◌+◌, ◌*◌, ◌/◌, ◌^◌, ◌≤◌, ◌<◌}
use native.Mathlib.Nat.{not-suc-le-zero, le_of_suc-le-suc}
use native.Mathlib.Omega.{arith}
use lib.ListN.{length, length-append, get_or, take, drop, take-append-drop}
use lib.Seq.{take_all, take-add, drop-drop}
use Rattle.numbers.specs.Store.{put}
use Rattle.numbers.specs.Numbers.{number_at, bytes_of, in_bytes, numbers_in, field, Bytes}
use Rattle.numbers.proofs.Stores.{put_none, put_split, put_put, put_before, put_whole}
use Rattle.numbers.proofs.NumberLaws.{length_bytes, number_after, number_of_bytes, bytes_of_number}

pub length_in_bytes : (ns : List ℕ) → length (in_bytes ns) ≡ 4 * length ns
unfolding in_bytes
length_in_bytes [] = refl
length_in_bytes (n ∷ ns) = simp length-append (omega (arith, length_bytes 4 n, length_in_bytes ns))

pub in_bytes_append : (ns ms : List ℕ) → in_bytes (ns ++ ms) ≡ in_bytes ns ++ in_bytes ms
unfolding in_bytes
in_bytes_append [] ms = refl
in_bytes_append (n ∷ ns) ms = rw (in_bytes_append ns ms, append_assoc)

-- What is stored after so many bytes of numbers.
pub put_more : (rows : List ℕ) (i j : ℕ) (ns ms : List ℕ) → j ≡ i + 4 * length ns → put (put rows i (in_bytes ns)) j (in_bytes ms) ≡ put rows i (in_bytes (ns ++ ms))
put_more rows i j ns ms e =
    ap (λ (k : ℕ). put (put rows i (in_bytes ns)) k (in_bytes ms)) (e ∙ ap (λ (n : ℕ). i + n) (sym (length_in_bytes ns)))
    ∙ put_put rows i (in_bytes ns) (in_bytes ms)
    ∙ ap (put rows i) (sym (in_bytes_append ns ms))

-- A number's four bytes are the bytes of a list of one.
one : (n : ℕ) → bytes_of 4 n ≡ in_bytes (n ∷ [])
unfolding in_bytes
one n = sym (append-nil (bytes_of 4 n))

-- A list's bytes begin with those of its first number.
first : (n : ℕ) (ns : List ℕ) → bytes_of 4 n ++ in_bytes ns ≡ in_bytes (n ∷ ns)
unfolding in_bytes
first n ns = refl

-- A row's three numbers, the first put last.
pub put_row : (rows r₁ r₂ r₃ : List ℕ) (at a b c : ℕ) → at + 12 ≤ length rows → r₁ ≡ put rows (at + 4) (bytes_of 4 b) → r₂ ≡ put r₁ (at + 8) (bytes_of 4 c) → r₃ ≡ put r₂ at (bytes_of 4 a)
    → r₃ ≡ put rows at (in_bytes (a ∷ b ∷ c ∷ []))
put_row rows r₁ r₂ r₃ at a b c h e f g =
    let long : at + length (bytes_of 4 a) + length (in_bytes (b ∷ c ∷ [])) ≤ length rows = rw (length_bytes 4 a, length_in_bytes (b ∷ c ∷ [])) (omega arith) in
    let later : r₂ ≡ put rows (at + length (bytes_of 4 a)) (in_bytes (b ∷ c ∷ [])) =
    rw (f, e, one b, one c, length_bytes 4 a) (put_more rows (at + 4) (at + 8) (b ∷ []) (c ∷ []) (omega arith)) in
    rw (g, later) (put_before rows at (bytes_of 4 a) (in_bytes (b ∷ c ∷ [])) long ∙ ap (put rows at) (first a (b ∷ c ∷ [])))

-- Numbers stored one after another.
abbrev pub puts : List ℕ → ℕ → List ℕ → List ℕ
puts old at [] = old
puts old at (n ∷ ns) = puts (put old at (bytes_of 4 n)) (at + 4) ns

puts_put : (old : List ℕ) (at : ℕ) (ns : List ℕ) → puts old at ns ≡ put old at (in_bytes ns)
unfolding in_bytes
puts_put old at [] = sym (put_none old at)
puts_put old at (n ∷ ns) =
    puts_put (put old at (bytes_of 4 n)) (at + 4) ns
    ∙ ap (λ (k : ℕ). put (put old at (bytes_of 4 n)) (at + k) (in_bytes ns)) (sym (length_bytes 4 n))
    ∙ put_put old at (bytes_of 4 n) (in_bytes ns)

-- Stores over a whole slice leave nothing of what stood there.
pub puts_whole : (old ns : List ℕ) → length old ≡ 4 * length ns → puts old 0 ns ≡ in_bytes ns
puts_whole old ns e = puts_put old 0 ns ∙ put_whole old (in_bytes ns) (length_in_bytes ns ∙ sym e)

-- A number that stands there already may be stored or not.
pub put_standing : (s : List ℕ) (at n : ℕ) → Bytes s → at + 4 ≤ length s → number_at 4 s at ≡ n → s ≡ put s at (bytes_of 4 n)
put_standing s at n b h e =
    let long = length_bytes 4 n in
    let stand : bytes_of 4 n ≡ take 4 (drop at s) = ap (bytes_of 4) (sym e) ∙ bytes_of_number 4 s at b h in
    sym (put_split s at (bytes_of 4 n) (omega arith) ∙ rw (long, stand, append_assoc, ← drop-drop 4 at s, take-append-drop 4 (drop at s)) (take-append-drop at s))

-- The k-th of the numbers that were stored.
pub field_of_bytes : (ns : List ℕ) (k : ℕ) → k < length ns → get_or ns k 0 < 256 ^ 4 → field (in_bytes ns) k ≡ get_or ns k 0
unfolding in_bytes
field_of_bytes [] k h f = absurd (not-suc-le-zero h)
field_of_bytes (n ∷ ns) zero h f = number_of_bytes 4 n (in_bytes ns) f
field_of_bytes (n ∷ ns) (suc k) h f =
    let place : 4 * suc k ≡ length (bytes_of 4 n) + 4 * k = omega (arith, length_bytes 4 n) in
    ap (number_at 4 (bytes_of 4 n ++ in_bytes ns)) place ∙ number_after 4 (bytes_of 4 n) (in_bytes ns) (4 * k)
    ∙ field_of_bytes ns k (le_of_suc-le-suc h) f

-- So many numbers of a slice, from index `at` on, and their bytes.
abbrev fields : List ℕ → ℕ → ℕ → List ℕ
fields s at zero = []
fields s at (suc n) = number_at 4 s at ∷ fields s (at + 4) n

bytes_of_fields : (s : List ℕ) (at n : ℕ) → Bytes s → at + 4 * n ≤ length s → in_bytes (fields s at n) ≡ take (4 * n) (drop at s)
unfolding in_bytes
bytes_of_fields s at zero b h = refl
bytes_of_fields s at (suc n) b h =
    let more : 4 * suc n ≡ 4 + 4 * n = omega arith in
    rw (bytes_of_number 4 s at b (omega arith), bytes_of_fields s (at + 4) n b (omega arith), more, take-add 4 (4 * n) (drop at s), drop-drop 4 at s)

pub bytes_of_all : (s : List ℕ) (n : ℕ) → Bytes s → length s ≡ 4 * n → in_bytes (fields s 0 n) ≡ s
bytes_of_all s n b h = bytes_of_fields s 0 n b (omega arith) ∙ take_all (4 * n) s (omega arith)

-- Numbers that have room in four bytes each.
unfoldable pub Smalls : List ℕ → Type 0
Smalls [] = Unit {0}
Smalls (n ∷ ns) = (n < 256 ^ 4) × Smalls ns

pub length_numbers : (s : List ℕ) → length (numbers_in s) ≡ length s / 4
unfolding numbers_in
length_numbers [] = refl
length_numbers (a ∷ []) = omega arith
length_numbers (a ∷ b ∷ []) = omega arith
length_numbers (a ∷ b ∷ c ∷ []) = omega arith
length_numbers (a ∷ b ∷ c ∷ d ∷ more) = omega (arith, length_numbers more)

first_number : (n : ℕ) (rest : List ℕ) → n < 256 ^ 4 → numbers_in (bytes_of 4 n ++ rest) ≡ n ∷ numbers_in rest
unfolding numbers_in bytes_of
first_number n rest h = ap (λ (k : ℕ). k ∷ numbers_in rest) (number_of_bytes 4 n [] h)

numbers_of_bytes : (ns rest : List ℕ) → Smalls ns → numbers_in (in_bytes ns ++ rest) ≡ ns ++ numbers_in rest
unfolding in_bytes Smalls
numbers_of_bytes [] rest h = refl
numbers_of_bytes (n ∷ ns) rest h =
    ap numbers_in (append_assoc (bytes_of 4 n) (in_bytes ns) rest)
    ∙ first_number n (in_bytes ns ++ rest) h.0
    ∙ ap (λ (l : List ℕ). n ∷ l) (numbers_of_bytes ns rest h.1)

four_less : (k n : ℕ) (s : List ℕ) → ((r : List ℕ) → numbers_in (drop k r) ≡ drop n (numbers_in r)) → numbers_in (drop (suc (suc (suc (suc k)))) s) ≡ drop (suc n) (numbers_in s)
unfolding numbers_in
four_less k n [] h = refl
four_less k n (a ∷ []) h = refl
four_less k n (a ∷ b ∷ []) h = refl
four_less k n (a ∷ b ∷ c ∷ []) h = refl
four_less k n (a ∷ b ∷ c ∷ d ∷ more) h = h more

drop_numbers : (n : ℕ) (s : List ℕ) → numbers_in (drop (4 * n) s) ≡ drop n (numbers_in s)
drop_numbers zero s = refl
drop_numbers (suc n) s =
    let e : 4 * suc n ≡ suc (suc (suc (suc (4 * n)))) = omega arith in
    ap (λ (k : ℕ). numbers_in (drop k s)) e ∙ four_less (4 * n) n s (drop_numbers n)

-- A store of bytes is a store of the numbers.
pub numbers_put : (old ns : List ℕ) → Smalls ns → 4 * length ns ≤ length old → numbers_in (put old 0 (in_bytes ns)) ≡ put (numbers_in old) 0 ns
numbers_put old ns h long =
    let e : 0 + length (in_bytes ns) ≡ 4 * length ns = omega (arith, length_in_bytes ns) in
    let n : 0 + length ns ≡ length ns = omega arith in
    ap numbers_in (put_split old 0 (in_bytes ns) (omega arith) ∙ ap (λ (k : ℕ). in_bytes ns ++ drop k old) e)
    ∙ numbers_of_bytes ns (drop (4 * length ns) old) h
    ∙ ap (λ (l : List ℕ). ns ++ l) (drop_numbers (length ns) old)
    ∙ ap (λ (k : ℕ). ns ++ drop k (numbers_in old)) (sym n)
    ∙ sym (put_split (numbers_in old) 0 ns (omega (arith, length_numbers old)))
