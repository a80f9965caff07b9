-- Laws of numbers as bytes: three and four bytes written out, and both round trips over any width.
-- Assumes nothing.
use mathlib.Core.Path.{◌≡◌, refl, sym, ap, ◌∙◌}
use mathlib.Core.List.{List, [], ◌∷◌, ◌++◌, append_assoc}
use Prim.Native.Nat.{ℕ, zero, suc, ◌+◌, ◌*◌, ◌/◌, ◌%◌, ◌^◌, ◌≤◌, ◌<◌}
use native.Mathlib.Nat.{add-zero, add_assoc, div-one, mul_assoc, suc-mul, pow-succ', one-le-pow, mul-le-mul_right}
use native.Mathlib.Nat.{mul-add-div_right, mul-add-mod_self_right, div-eq_of_lt, mod-eq_of_lt, mod-lt, div-add-mod', div-lt_iff_lt-mul}
use native.Mathlib.Numerals.{add-one}
use native.Mathlib.Omega.{arith}
use lib.ListN.{length, get_or, take, drop}
use lib.Seq.{get_or-append-add, drop-cons, length-take-le}
use Rattle.numbers.specs.Store.{put}
use Rattle.numbers.specs.Numbers.{number_at, bytes_of, Bytes}
use Rattle.numbers.proofs.Stores.{put_split}

-- A number has as many bytes as are asked for.
pub length_bytes : (width n : ℕ) → length (bytes_of width n) ≡ width
unfolding bytes_of
length_bytes zero n = refl
length_bytes (suc more) n = ap suc (length_bytes more n)

-- Three bytes after a flag, and four bytes, written out.
pub count_at : (s : List ℕ) (at : ℕ) → number_at 3 s (at + 1) ≡ get_or s (at + 1) 0 * 65536 + get_or s (at + 2) 0 * 256 + get_or s (at + 3) 0
unfolding number_at
count_at s at =
    let two : at + 1 + 1 ≡ at + 2 = omega arith in
    let three : at + 2 + 1 ≡ at + 3 = omega arith in
    rw (two, three) (omega arith)

pub four_at : (s : List ℕ) (at : ℕ) → number_at 4 s at ≡ get_or s at 0 * 16777216 + get_or s (at + 1) 0 * 65536 + get_or s (at + 2) 0 * 256 + get_or s (at + 3) 0
unfolding number_at
four_at s at = omega (arith, count_at s at)

pub three_bytes : (n : ℕ) → bytes_of 3 n ≡ n / 65536 % 256 ∷ n / 256 % 256 ∷ n % 256 ∷ []
unfolding bytes_of
three_bytes n = rw div-one

pub four_bytes : (n : ℕ) → bytes_of 4 n ≡ n / 16777216 % 256 ∷ bytes_of 3 n
unfolding bytes_of
four_bytes n = refl

power : (width : ℕ) → 0 < 256 ^ width
power width = one-le-pow width 256 (omega arith)

-- What stands before a number has no part in it.
pub number_after : (width : ℕ) (pre s : List ℕ) (at : ℕ) → number_at width (pre ++ s) (length pre + at) ≡ number_at width s at
unfolding number_at
number_after zero pre s at = refl
number_after (suc more) pre s at =
    rw (get_or-append-add, add_assoc, number_after more pre s (at + 1))

pub number_from : (width : ℕ) (pre s : List ℕ) (at : ℕ) → length pre ≡ at → number_at width (pre ++ s) at ≡ number_at width s 0
number_from width pre s at e = ap (number_at width (pre ++ s)) (sym e ∙ sym (add-zero (length pre))) ∙ number_after width pre s 0

-- The low bytes of a number do not feel what stands above them.
bytes_above : (width high low : ℕ) → bytes_of width (high * 256 ^ width + low) ≡ bytes_of width low
unfolding bytes_of
bytes_above zero high low = refl
bytes_above (suc more) high low =
    let e : high * 256 ^ suc more + low ≡ high * 256 * 256 ^ more + low = ap (λ (n : ℕ). n + low) (ap (λ (p : ℕ). high * p) (pow-succ' 256 more) ∙ sym (mul_assoc high 256 (256 ^ more))) in
    rw (e, mul-add-div_right (power more) (high * 256) low, mul-add-mod_self_right high 256 (low / 256 ^ more), bytes_above more (high * 256) low)

-- A number that has room in so many bytes is read back from them.
pub number_of_bytes : (width n : ℕ) (post : List ℕ) → n < 256 ^ width → number_at width (bytes_of width n ++ post) 0 ≡ n
unfolding number_at bytes_of
number_of_bytes zero n post h = omega arith
number_of_bytes (suc more) n post h =
    let high = n / 256 ^ more in
    let low = n % 256 ^ more in
    let whole : high * 256 ^ more + low ≡ n = div-add-mod' n (256 ^ more) in
    let one : high % 256 ≡ high = mod-eq_of_lt ((div-lt_iff_lt-mul (power more)).1 (rw pow-succ' at h)) in
    let next = number_after more (high % 256 ∷ []) (bytes_of more n ++ post) 0 in
    let tail : bytes_of more n ≡ bytes_of more low = sym (ap (bytes_of more) whole) ∙ bytes_above more high low in
    let rest : number_at more (high % 256 ∷ (bytes_of more n ++ post)) 1 ≡ low = next ∙ ap (λ (t : List ℕ). number_at more (t ++ post) 0) tail ∙ number_of_bytes more low post (mod-lt n (power more)) in
    rw (rest, one) whole

-- .. and so from the list that they were put into.
pub number_put : (width : ℕ) (old : List ℕ) (at n : ℕ) → at + width ≤ length old → n < 256 ^ width → number_at width (put old at (bytes_of width n)) at ≡ n
number_put width old at n fits h =
    let long = length_bytes width n in
    let pre : length (take at old) ≡ at = length-take-le at old (omega arith) in
    rw (put_split old at (bytes_of width n) (omega arith), append_assoc)
    (number_from width (take at old) (bytes_of width n ++ drop (at + length (bytes_of width n)) old) at pre
    ∙ number_of_bytes width n (drop (at + length (bytes_of width n)) old) h)

-- So many bytes make a number below 256 to that power.
pub number_small : (width : ℕ) (s : List ℕ) (at : ℕ) → Bytes s → number_at width s at < 256 ^ width
unfolding number_at
number_small zero s at b = omega arith
number_small (suc more) s at b =
    let top : suc (get_or s at 0) * 256 ^ more ≤ 256 * 256 ^ more = mul-le-mul_right (256 ^ more) (b at) in
    omega (arith, number_small more s (at + 1) b, suc-mul (get_or s at 0) (256 ^ more), pow-succ' 256 more)

-- The bytes of the number that stands somewhere are those that stand there.
pub bytes_of_number : (width : ℕ) (s : List ℕ) (at : ℕ) → Bytes s → at + width ≤ length s → bytes_of width (number_at width s at) ≡ take width (drop at s)
unfolding number_at bytes_of
bytes_of_number zero s at b h = refl
bytes_of_number (suc more) s at b h =
    let high = get_or s at 0 in
    let low = number_at more s (at + 1) in
    let small : low / 256 ^ more ≡ 0 = div-eq_of_lt (number_small more s (at + 1) b) in
    let one : high % 256 ≡ high = mod-eq_of_lt (b at) in
    let rest : bytes_of more low ≡ take more (drop (suc at) s) = bytes_of_number more s (at + 1) b (omega arith) ∙ ap (λ (k : ℕ). take more (drop k s)) (add-one at) in
    rw (mul-add-div_right (power more) high low, small, add-zero high, one, bytes_above more high low, rest, drop-cons s at 0 (omega arith))
