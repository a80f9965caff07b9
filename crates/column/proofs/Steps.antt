-- Laws of single steps of the code, over plain numbers. Assumes nothing.
use mathlib.Core.Path.{◌≡◌, refl, sym, ap, ap₂, ◌∙◌}
use mathlib.Core.List.{List}
use Prim.Native.Nat.{ℕ, zero, suc, ◌+◌, ◌-◌, ◌*◌, ◌<◌, ◌≤◌}
use native.Mathlib.Nat.{mul-le-mul_right, le_of_suc-le-suc}
use native.Mathlib.Numerals.{add-one}
use native.Mathlib.Omega.{arith}
use lib.Bits.{bit_xor}
use lib.ListN.{get_or}
use Rattle.field.specs.Field.{◌⊕◌, times_alpha, times}
use Rattle.column.specs.Column.{row_count, last_row, column, total, second_sum}
use Rattle.field.proofs.Adding.{times_alpha-⊕, times_alpha_zero}
use Rattle.column.proofs.Totals.{total_same}

-- A place lies in the buffer.
pub place_in_lem : (n i c : ℕ) → i < row_count → c < n → i * n + c < row_count * n
place_in_lem n i c li lc = let h : i * n ≤ last_row * n = mul-le-mul_right n (le_of_suc-le-suc li) in omega arith

-- The second sum row by row: times α, and add the next.
unfoldable pub horner : (ℕ → ℕ) → ℕ → ℕ
horner col zero = 0
horner col (suc k) = times_alpha (horner col k) ⊕ col k

times_alpha_total : (f : ℕ → ℕ) (n : ℕ) → times_alpha (total f n) ≡ total (λ i. times_alpha (f i)) n
unfolding total
times_alpha_total f zero = times_alpha_zero
times_alpha_total f (suc n) = times_alpha-⊕ (total f n) (f n) ∙ ap (λ (x : ℕ). x ⊕ times_alpha (f n)) (times_alpha_total f n)

-- One more factor of α.
raised : (k i x : ℕ) → i < k → times_alpha (times (k - 1 - i) x) ≡ times (k - i) x
unfolding times
raised k i x h = let e : k - i ≡ suc (k - 1 - i) = omega arith in ap (λ (m : ℕ). times m x) (sym e)

horner_total : (col : ℕ → ℕ) (k : ℕ) → horner col k ≡ total (λ i. times (k - 1 - i) (col i)) k
unfolding horner total times
horner_total col zero = refl
horner_total col (suc k) =
    ap₂ ◌⊕◌
    (ap times_alpha (horner_total col k) ∙ times_alpha_total (λ i. times (k - 1 - i) (col i)) k
    ∙ total_same (λ i. times_alpha (times (k - 1 - i) (col i))) (λ i. times (suc k - 1 - i) (col i)) k
    (λ i l. raised k i (col i) l ∙ ap (λ (m : ℕ). times m (col i)) (same k i)))
    (ap (λ (m : ℕ). times m (col k)) (none k))
  where
    same : (k i : ℕ) → k - i ≡ suc k - 1 - i
    same k i = omega arith

    none : (k : ℕ) → 0 ≡ suc k - 1 - k
    none k = omega arith

pub horner_second : (col : ℕ → ℕ) → horner col row_count ≡ second_sum col
unfolding second_sum
horner_second col = horner_total col row_count

pub first_step : (rows : List ℕ) (n c i f p : ℕ) → f ≡ total (column rows n c) i → p ≡ i * n + c → bit_xor f (get_or rows p 0) ≡ total (column rows n c) (i + 1)
unfolding total column ◌⊕◌
first_step rows n c i f p e q = rw (e, q, add-one i)

pub second_step : (rows : List ℕ) (n c i s d p : ℕ) → s ≡ horner (column rows n c) i → d ≡ times_alpha s → p ≡ i * n + c
    → bit_xor d (get_or rows p 0) ≡ horner (column rows n c) (i + 1)
unfolding horner column ◌⊕◌
second_step rows n c i s d p e q r = rw (q, e, r, add-one i)
