-- Two numbers over zeros: a fresh state's bytes.
-- Assumes nothing.
use mathlib.Core.Path.{◌≡◌, refl, ◌∙◌}
use mathlib.Core.List.{List, ◌∷◌}
use Prim.Native.Nat.{ℕ, zero, suc, ◌+◌, ◌*◌, ◌-◌}
use native.Mathlib.Omega.{arith}
use lib.ListN.{length, replicate, length-replicate}
use Rattle.numbers.specs.Numbers.{bytes_of, in_bytes}
use Rattle.numbers.specs.Store.{put}
use Rattle.numbers.proofs.Stores.{put_whole}

-- Numbers that are 0 have zeros for bytes.
zeros_in_bytes : (n : ℕ) → replicate (4 * n) 0 ≡ in_bytes (replicate n 0)
unfolding in_bytes bytes_of
zeros_in_bytes zero = refl
zeros_in_bytes (suc n) =
    let four : 4 * suc n ≡ suc (suc (suc (suc (4 * n)))) = omega arith in
    rw (four, zeros_in_bytes n)

over : (zs : List ℕ) (size first : ℕ) → put (put (in_bytes (0 ∷ 0 ∷ zs)) 0 (bytes_of 4 size)) 4 (bytes_of 4 first) ≡ in_bytes (size ∷ first ∷ zs)
unfolding in_bytes bytes_of put
over zs size first = refl

pub two_over_zeros : (old : List ℕ) (size first n : ℕ) → length old ≡ 8 + 4 * n
    → put (put (put old 0 (replicate (length old - 0) 0)) 0 (bytes_of 4 size)) 4 (bytes_of 4 first) ≡ in_bytes (size ∷ first ∷ replicate n 0)
two_over_zeros old size first n e =
    let all : length old - 0 ≡ 4 * suc (suc n) = omega arith in
    let zeros : put old 0 (replicate (length old - 0) 0) ≡ in_bytes (0 ∷ 0 ∷ replicate n 0) =
    rw all (put_whole old (replicate (4 * suc (suc n)) 0) (length-replicate (4 * suc (suc n)) 0 ∙ omega arith) ∙ zeros_in_bytes (suc (suc n))) in
    rw zeros (over (replicate n 0) size first)
