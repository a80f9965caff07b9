-- A test that passes at each number below a bound, by one computation, and so at any such number; and a list's number at an index.
-- Assumes nothing.
use Rattle.numbers.specs.Numbers.{listed}
use mathlib.Core.Path.{◌≡◌, ◌∙◌, subst, sym, ap}
use mathlib.Core.Bool.{Bool, true, false, ◌&&◌}
use Prim.Native.Nat.{ℕ, zero, suc, ◌+◌, ◌<◌}
use native.Mathlib.Nat.{add-zero, zero-add, add-suc, suc-add, le_of_suc-le-suc, not-suc-le-zero}
use lib.Dec.{T}
use lib.ListN.{get_or}

left : (a b : Bool) → T (a && b) → T a
left true b t = tt
left false b t = t

right : (a b : Bool) → T (a && b) → T b
right true b t = t
right false b t = absurd t

-- The test f passes at each of n numbers from i.
abbrev pub every : (ℕ → Bool) → ℕ → ℕ → Bool
every f i zero = true
every f i (suc n) = f i && every f (suc i) n

from : (f : ℕ → Bool) (n i : ℕ) → T (every f i n) → (k : ℕ) → k < n → T (f (i + k))
from f zero i t k h = absurd (not-suc-le-zero h)
from f (suc n) i t zero h = subst (λ (m : ℕ). T (f m)) (sym (add-zero i)) (left (f i) (every f (suc i) n) t)
from f (suc n) i t (suc k) h =
    subst (λ (m : ℕ). T (f m)) (suc-add i k ∙ sym (add-suc i k))
    (from f n (suc i) (right (f i) (every f (suc i) n) t) k (le_of_suc-le-suc h))

pub below : (f : ℕ → Bool) (n : ℕ) → T (every f 0 n) → (k : ℕ) → k < n → T (f k)
below f n t k h = subst (λ (m : ℕ). T (f m)) (zero-add k) (from f n 0 t k h)

-- What stands at an index of a list made by f.
listed_from : {A : Type 0} (f : ℕ → A) (d : A) (n i k : ℕ) → k < n → get_or (listed f i n) k d ≡ f (i + k)
listed_from f d zero i k h = absurd (not-suc-le-zero h)
listed_from f d (suc n) i zero h = ap f (sym (add-zero i))
listed_from f d (suc n) i (suc k) h =
    listed_from f d n (suc i) k (le_of_suc-le-suc h) ∙ ap f (suc-add i k ∙ sym (add-suc i k))

pub listed_at : {A : Type 0} (f : ℕ → A) (d : A) (n k : ℕ) → k < n → get_or (listed f 0 n) k d ≡ f k
listed_at f d n k h = listed_from f d n 0 k h ∙ ap f (zero-add k)
