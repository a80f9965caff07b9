-- Sums over the rows of a column. Assumes nothing.
use mathlib.Core.Path.{◌≡◌, refl, sym, ap, ap₂, ◌∙◌}
use mathlib.Core.Bool.{Bool, cond}
use Prim.Native.Nat.{ℕ, zero, suc, ◌-◌, ◌<◌}
use native.Mathlib.Nat.{not-suc-le-zero, le_refl}
use native.Mathlib.Decide.{ℕ_discrete}
use native.Mathlib.Omega.{arith}
use borrow.Author.Tests.{eq-eqb, ne_eqb}
use Rattle.field.specs.Field.{◌⊕◌, times}
use Rattle.column.specs.Column.{row_count, last_row, total, first_sum, second_sum, with_row}
use Rattle.column.specs.Alike.{SameBut, SameButTwo}
use Rattle.field.proofs.Adding.{⊕_zero, zero-⊕, ⊕_comm, ⊕_self, ⊕_four, times-⊕, times_zero}

below : {m : ℕ} (i : ℕ) → i < m → i < suc m
below i h = omega arith

pub total_same : (f g : ℕ → ℕ) (n : ℕ) → ((i : ℕ) → i < n → f i ≡ g i) → total f n ≡ total g n
unfolding total
total_same f g zero h = refl
total_same f g (suc n) h = ap₂ ◌⊕◌ (total_same f g n (λ i l. h i (below i l))) (h n (le_refl (suc n)))

pub total-⊕ : (f g : ℕ → ℕ) (n : ℕ) → total (λ i. f i ⊕ g i) n ≡ total f n ⊕ total g n
unfolding total
total-⊕ f g zero = sym (⊕_self 0)
total-⊕ f g (suc n) = ap (λ (x : ℕ). x ⊕ (f n ⊕ g n)) (total-⊕ f g n) ∙ ⊕_four (total f n) (total g n) (f n) (g n)

pub total_none : (f : ℕ → ℕ) (n : ℕ) → ((i : ℕ) → i < n → f i ≡ 0) → total f n ≡ 0
unfolding total
total_none f zero h = refl
total_none f (suc n) h = ap₂ ◌⊕◌ (total_none f n (λ i l. h i (below i l))) (h n (le_refl (suc n))) ∙ ⊕_self 0

less : (j n : ℕ) → j < suc n → (j ≡ n → ⊥) → j < n
less j n h d = omega (arith, d)

pub total_one : (f : ℕ → ℕ) (j n : ℕ) → j < n → ((i : ℕ) → i < n → (i ≡ j → ⊥) → f i ≡ 0) → total f n ≡ f j
unfolding total
total_one f j zero l h = absurd (not-suc-le-zero l)
total_one f j (suc n) l h = go (ℕ_discrete j n) (λ d. total_one f j n (less j n l d) (λ i k. h i (below i k)))
  where
    go : Dec (j ≡ n) → ((j ≡ n → ⊥) → total f n ≡ f j) → total f n ⊕ f n ≡ f j
    go (yes e) r = ap (λ (x : ℕ). x ⊕ f n) (total_none f n (λ i k. h i (below i k) (λ q. absurd (omega arith)))) ∙ zero-⊕ (f n) ∙ ap f (sym e)
    go (no d) r = ap₂ ◌⊕◌ (r d) (h n (le_refl (suc n)) (λ q. d (sym q))) ∙ ⊕_zero (f j)

pub total_two : (f : ℕ → ℕ) (j k n : ℕ) → j < n → k < n → (j ≡ k → ⊥)
    → ((i : ℕ) → i < n → (i ≡ j → ⊥) → (i ≡ k → ⊥) → f i ≡ 0) → total f n ≡ f j ⊕ f k
unfolding total
total_two f j k zero lj lk d h = absurd (not-suc-le-zero lj)
total_two f j k (suc n) lj lk d h =
    go (ℕ_discrete j n) (ℕ_discrete k n) (λ dj dk. total_two f j k n (less j n lj dj) (less k n lk dk) d (λ i l. h i (below i l)))
  where
    go : Dec (j ≡ n) → Dec (k ≡ n) → ((j ≡ n → ⊥) → (k ≡ n → ⊥) → total f n ≡ f j ⊕ f k) → total f n ⊕ f n ≡ f j ⊕ f k
    go (yes e) (yes e') r = absurd (d (e ∙ sym e'))
    go (yes e) (no dk) r =
        ap₂ ◌⊕◌ (total_one f k n (less k n lk dk) (λ i l q. h i (below i l) (λ u. absurd (omega arith)) q)) (ap f (sym e)) ∙ ⊕_comm (f k) (f j)
    go (no dj) (yes e) r =
        ap₂ ◌⊕◌ (total_one f j n (less j n lj dj) (λ i l q. h i (below i l) q (λ u. absurd (omega arith)))) (ap f (sym e))
    go (no dj) (no dk) r =
        ap₂ ◌⊕◌ (r dj dk) (h n (le_refl (suc n)) (λ q. dj (sym q)) (λ q. dk (sym q))) ∙ ⊕_zero (f j ⊕ f k)

-- Two columns: their sums differ by what their rows differ by.

pub first_two : (v w : ℕ → ℕ) → first_sum v ⊕ first_sum w ≡ first_sum (λ i. v i ⊕ w i)
unfolding first_sum
first_two v w = sym (total-⊕ v w row_count)

pub second_two : (v w : ℕ → ℕ) → second_sum v ⊕ second_sum w ≡ second_sum (λ i. v i ⊕ w i)
unfolding second_sum
second_two v w =
    sym (total-⊕ (λ i. times (last_row - i) (v i)) (λ i. times (last_row - i) (w i)) row_count)
    ∙ total_same (λ i. times (last_row - i) (v i) ⊕ times (last_row - i) (w i)) (λ i. times (last_row - i) (v i ⊕ w i)) row_count
    (λ i l. sym (times-⊕ (last_row - i) (v i) (w i)))

-- The difference of two columns that are the same but in one row, and but in two.
gone : (a b : ℕ) → a ≡ b → a ⊕ b ≡ 0
gone a b e = ap (λ (x : ℕ). x ⊕ b) e ∙ ⊕_self b

module _ (v w : ℕ → ℕ) where
  pub one_first : (j : ℕ) → j < row_count → SameBut j v w → first_sum v ⊕ first_sum w ≡ v j ⊕ w j
  unfolding first_sum
  one_first j l h = first_two v w ∙ total_one (λ i. v i ⊕ w i) j row_count l (λ i k d. gone (v i) (w i) (h i k d))

  pub one_second : (j : ℕ) → j < row_count → SameBut j v w → second_sum v ⊕ second_sum w ≡ times (last_row - j) (v j ⊕ w j)
  unfolding second_sum
  one_second j l h =
      second_two v w
      ∙ total_one (λ i. times (last_row - i) (v i ⊕ w i)) j row_count l
      (λ i k d. ap (times (last_row - i)) (gone (v i) (w i) (h i k d)) ∙ times_zero (last_row - i))

  pub two_first : (j k : ℕ) → j < row_count → k < row_count → (j ≡ k → ⊥) → SameButTwo j k v w
      → first_sum v ⊕ first_sum w ≡ (v j ⊕ w j) ⊕ (v k ⊕ w k)
  unfolding first_sum
  two_first j k lj lk d h = first_two v w ∙ total_two (λ i. v i ⊕ w i) j k row_count lj lk d (λ i l p q. gone (v i) (w i) (h i l p q))

  pub two_second : (j k : ℕ) → j < row_count → k < row_count → (j ≡ k → ⊥) → SameButTwo j k v w
      → second_sum v ⊕ second_sum w ≡ times (last_row - j) (v j ⊕ w j) ⊕ times (last_row - k) (v k ⊕ w k)
  unfolding second_sum
  two_second j k lj lk d h =
      second_two v w
      ∙ total_two (λ i. times (last_row - i) (v i ⊕ w i)) j k row_count lj lk d
      (λ i l p q. ap (times (last_row - i)) (gone (v i) (w i) (h i l p q)) ∙ times_zero (last_row - i))

-- A row put.
pub with_row_same : (col : ℕ → ℕ) (j v : ℕ) → with_row col j v j ≡ v
unfolding with_row
with_row_same col j v = ap (λ (b : Bool). cond b v (col j)) (eq-eqb j j refl)

pub with_row_other : (col : ℕ → ℕ) (j v i : ℕ) → (i ≡ j → ⊥) → with_row col j v i ≡ col i
unfolding with_row
with_row_other col j v i d = ap (λ (b : Bool). cond b v (col i)) (ne_eqb i j d)
