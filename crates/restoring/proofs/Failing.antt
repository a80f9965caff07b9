-- The first column that a test fails: found column by column, and what it says of those before it.
-- Assumes nothing.
use mathlib.Core.Path.{◌≡◌, refl, sym, subst, ◌∙◌}
use mathlib.Core.Bool.{Bool, true, false, cond}
use mathlib.Core.List.{List}
use Prim.Native.Nat.{ℕ, zero, suc, ◌+◌, ◌≤◌, ◌<◌}
use native.Mathlib.Numerals.{add-one}
use native.Mathlib.Decide.{ℕ_discrete}
use native.Mathlib.Omega.{arith}
use Rattle.column.specs.Column.{Column, column}
use Rattle.std.specs.Prelude.{Option, Some, None, not}
use Rattle.std.specs.List.{find, range_with_len}
use Rattle.std.specs.Option.{option_map}
use Rattle.restoring.specs.Rows.{first_failing, IsFirstFailing}

module _ (test : Column → Bool) (rows : List ℕ) (n : ℕ) where
  -- What it says: all before it pass, and it fails if it is a column.
  pub record First (c k r : ℕ) : Type 0 where
    pub low : c ≤ r
    pub high : r ≤ c + k
    pub before : (d : ℕ) → c ≤ d → d < r → test (column rows n d) ≡ true
    pub at : r < c + k → test (column rows n r) ≡ false

  pub first : (c k : ℕ) → First c k (first_failing test rows n c k)
  unfolding first_failing
  first c zero = record { low = omega arith; high = omega arith; before = λ d l h. absurd (omega arith); at = λ h. absurd (omega arith) }
  first c (suc k) = by (test (column rows n c)) refl (first_failing test rows n (suc c) k) (first (suc c) k)
    where
      by : (b : Bool) → test (column rows n c) ≡ b → (r : ℕ) → First (suc c) k r → First c (suc k) (cond b r c)
      by false e r f = record { low = omega arith; high = omega arith; before = λ d l h. absurd (omega arith); at = λ h. e }
      by true e r f =
          record {
            low = omega (arith, f.low);
            high = omega (arith, f.high);
            before = λ d l h. earlier d l h (ℕ_discrete d c);
            at = λ h. f.at (omega arith);
          }
        where
          earlier : (d : ℕ) → c ≤ d → d < r → Dec (d ≡ c) → test (column rows n d) ≡ true
          earlier d l h (yes q) = subst (λ (x : ℕ). test (column rows n x) ≡ true) (sym q) e
          earlier d l h (no q) = f.before d (omega (arith, q)) h

  -- What a search finds that looks at k columns from c on, one after the other.
  Found : (c k : ℕ) → Option ℕ → Type 0
  Found c k (Some d) = (d ≡ first_failing test rows n c k) × (d < c + k)
  Found c k None = first_failing test rows n c k ≡ c + k

  later : (c k : ℕ) → test (column rows n c) ≡ true → (r : Option ℕ) → Found (c + 1) k r → Found c (suc k) r
  unfolding Found first_failing
  later c k e (Some d) h = (rw (e, ← add-one c) h.0, omega arith)
  later c k e None h = rw (e, ← add-one c) (h ∙ (omega arith))

  found : (c k : ℕ) → Found c k (find (λ d. not (test (column rows n d))) (range_with_len c k))
  unfolding Found first_failing
  found c zero = omega arith
  found c (suc k) = by (test (column rows n c)) refl (found (c + 1) k)
    where
      by : (b : Bool) → test (column rows n c) ≡ b → Found (c + 1) k (find (λ d. not (test (column rows n d))) (range_with_len (c + 1) k))
          → Found c (suc k) (find (λ d. not (test (column rows n d))) (range_with_len c (suc k)))
      by true e h = rw e (later c k e _ h)
      by false e h = rw e (rw e refl, omega arith)

  pub found_first : (r : Option ℕ) → option_map (λ (d : ℕ). d) r ≡ find (λ d. not (test (column rows n d))) (range_with_len 0 n)
      → IsFirstFailing test rows n r
  unfolding Found
  found_first None e = let h : first_failing test rows n 0 n ≡ 0 + n = rw (← e) at (found 0 n) in omega arith
  found_first (Some d) e = let h : (d ≡ first_failing test rows n 0 n) × (d < 0 + n) = rw (← e) at (found 0 n) in (h.0, omega arith)
