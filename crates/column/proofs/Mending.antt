-- What mending gives, column by column. Assumes nothing.
use mathlib.Core.Path.{◌≡◌, sym, ap, ap₂, ◌∙◌, subst}
use Prim.Native.Nat.{ℕ, ◌+◌, ◌-◌, ◌%◌, ◌<◌, ◌≤◌}
use native.Mathlib.Decide.{ℕ_discrete, dec_lt}
use native.Mathlib.Omega.{arith}
use borrow.Author.Tests.{eq-eqb, ne_eqb, le-leb, lt-leb}
use Rattle.field.specs.Field.{◌⊕◌, times, power}
use Rattle.field.specs.Tables.{logarithm_at}
use Rattle.column.specs.Column.{row_count, last_row, first_sum, second_sum, Lawful, with_row, none_wrong, none_mends, row_of_weight, wrong_row, mended}
use Rattle.column.specs.Alike.{SameBut, AtMostOne, ColumnBytes, Hopeless}
use Rattle.field.proofs.Adding.{⊕_comm, ⊕_back, ⊕_undo, ⊕_equal, ⊕_byte, times_zero}
use Rattle.field.proofs.TableLaws.{power_logarithm, logarithm_byte}
use Rattle.field.proofs.FieldLaws.{times_none, power_mod, power_add, logarithm_of_power}
use Rattle.column.proofs.Totals.{one_first, one_second, with_row_same, with_row_other}
use Rattle.column.proofs.Restoring.{first_byte, second_byte, lawful_same, drops, unchanged}

-- The four cases of the wrong row.

pub wrong_row_none : (s t : ℕ) → s ≡ 0 → t ≡ 0 → wrong_row s t ≡ none_wrong
unfolding wrong_row
wrong_row_none s t p q = rw (eq-eqb s 0 p, eq-eqb t 0 q)

pub wrong_row_second : (s t : ℕ) → s ≡ 0 → (t ≡ 0 → ⊥) → wrong_row s t ≡ none_mends
unfolding wrong_row
wrong_row_second s t p q = rw (eq-eqb s 0 p, ne_eqb t 0 q)

pub wrong_row_first : (s t : ℕ) → (s ≡ 0 → ⊥) → t ≡ 0 → wrong_row s t ≡ none_mends
unfolding wrong_row
wrong_row_first s t p q = rw (ne_eqb s 0 p, eq-eqb t 0 q)

pub wrong_row_both : (s t : ℕ) → (s ≡ 0 → ⊥) → (t ≡ 0 → ⊥) → wrong_row s t ≡ row_of_weight ((logarithm_at t + (255 - logarithm_at s)) % 255)
unfolding wrong_row
wrong_row_both s t p q = rw (ne_eqb s 0 p, ne_eqb t 0 q)

pub row_low : (d : ℕ) → d ≤ last_row → row_of_weight d ≡ last_row - d
unfolding row_of_weight
row_low d h = rw (le-leb d last_row h)

pub row_high : (d : ℕ) → last_row < d → row_of_weight d ≡ none_mends
unfolding row_of_weight
row_high d h = rw (lt-leb d last_row h)

-- The logarithm of α^k times a byte.
logarithm_times : (k x : ℕ) → k < 255 → x < 256 → (x ≡ 0 → ⊥) → logarithm_at (times k x) ≡ (k + logarithm_at x) % 255
logarithm_times k x hk h d =
    let p = power_logarithm x h d in
    ap (λ (y : ℕ). logarithm_at (times k y)) (sym p.0)
    ∙ ap logarithm_at (sym (power_add k (logarithm_at x)) ∙ sym (power_mod (k + logarithm_at x) (omega (arith, p.1))))
    ∙ logarithm_of_power ((k + logarithm_at x) % 255) (omega arith)

distance : (j l m : ℕ) → j < row_count → l < 255 → m ≡ (last_row - j + l) % 255 → (m + (255 - l)) % 255 ≡ last_row - j
distance j l m hj hl e = go (last_row - j) (omega arith) e
  where
    go : (a : ℕ) → a ≤ last_row → m ≡ (a + l) % 255 → (m + (255 - l)) % 255 ≡ a
    go a ha f = omega arith

-- A change of e in row j.
pub wrong_row_at : (j e : ℕ) → j < row_count → e < 256 → (e ≡ 0 → ⊥) → wrong_row e (times (last_row - j) e) ≡ j
wrong_row_at j e l h d =
    let a : last_row - j < 255 = omega arith in
    let p : (logarithm_at (times (last_row - j) e) + (255 - logarithm_at e)) % 255 ≡ last_row - j =
    distance j (logarithm_at e) (logarithm_at (times (last_row - j) e)) l (logarithm_byte e h) (logarithm_times (last_row - j) e a h d) in
    wrong_row_both e (times (last_row - j) e) d (λ z. d (times_none (last_row - j) e (omega arith) h z))
    ∙ ap row_of_weight p ∙ row_low (last_row - j) (omega arith) ∙ back j l
  where
    back : (j : ℕ) → j < row_count → last_row - (last_row - j) ≡ j
    back j l = omega arith

-- A lawful column of which at most one byte was changed.
module _ (col w : ℕ → ℕ) (j : ℕ) (l : j < row_count) (bg : ColumnBytes col) (bw : ColumnBytes w) (law : Lawful w) (h : SameBut j col w) where
  sum_is : first_sum col ≡ col j ⊕ w j
  sum_is = drops (first_sum col) (first_sum w) law.first ∙ one_first col w j l h

  sum2_is : second_sum col ≡ times (last_row - j) (col j ⊕ w j)
  sum2_is = drops (second_sum col) (second_sum w) law.second ∙ one_second col w j l h

  -- The wrong row is that row, or none where nothing was changed.
  data Found : Type 0 where
    untouched : col j ≡ w j → wrong_row (first_sum col) (second_sum col) ≡ none_wrong → Found
    touched : wrong_row (first_sum col) (second_sum col) ≡ j → Found

  found : Found
  found = go (ℕ_discrete (col j ⊕ w j) 0)
    where
      go : Dec (col j ⊕ w j ≡ 0) → Found
      go (yes e) =
          untouched (⊕_equal (col j) (w j) e)
          (wrong_row_none (first_sum col) (second_sum col) (sum_is ∙ e) (sum2_is ∙ ap (times (last_row - j)) e ∙ times_zero (last_row - j)))
      go (no d) = touched (ap₂ wrong_row sum_is sum2_is ∙ wrong_row_at j (col j ⊕ w j) l (⊕_byte (col j) (w j) (bg j l) (bw j l)) d)

  -- It is not refused.
  pub not_refused : wrong_row (first_sum col) (second_sum col) < none_mends
  not_refused = go found
    where
      go : Found → wrong_row (first_sum col) (second_sum col) < none_mends
      go (untouched e f) = omega arith
      go (touched f) = omega arith

  -- And is given back as it was.
  pub mended_right : (i : ℕ) → i < row_count → mended col i ≡ w i
  unfolding mended
  mended_right i li = go found (ℕ_discrete i j)
    where
      v : ℕ → ℕ
      v r = col r ⊕ first_sum col

      go : Found → Dec (i ≡ j) → with_row col (wrong_row (first_sum col) (second_sum col)) (v (wrong_row (first_sum col) (second_sum col))) i ≡ w i
      go (untouched e f) (yes p) = with_row_other col _ _ i (λ q. absurd (omega (arith, q))) ∙ ap col p ∙ e ∙ ap w (sym p)
      go (untouched e f) (no d) = with_row_other col _ _ i (λ q. absurd (omega (arith, q))) ∙ h i li d
      go (touched f) (yes p) =
          ap (λ (r : ℕ). with_row col r (v r) i) f ∙ ap (with_row col j (v j)) p ∙ with_row_same col j (v j)
          ∙ ap (λ (x : ℕ). col j ⊕ x) sum_is ∙ ⊕_back (col j) (w j) ∙ ap w (sym p)
      go (touched f) (no d) = ap (λ (r : ℕ). with_row col r (v r) i) f ∙ with_row_other col j (v j) i d ∙ h i li d

-- Where mending refuses, no change of one byte makes the column lawful.
pub no_mending : (col : ℕ → ℕ) → ColumnBytes col → wrong_row (first_sum col) (second_sum col) ≡ none_mends
    → (w : ℕ → ℕ) (j : ℕ) → j < row_count → ColumnBytes w → SameBut j col w → Lawful w → ⊥
no_mending col bg e w j l bw h law = let n = not_refused col w j l bg bw law h in absurd (omega arith)

-- Where it does not, the mended column is lawful.
module _ (col : ℕ → ℕ) (b : ColumnBytes col) where
  -- A change in row i, where the second sum is that of the first there.
  lawful_at : (i : ℕ) → i < row_count → second_sum col ≡ times (last_row - i) (first_sum col) → Lawful (with_row col i (col i ⊕ first_sum col))
  lawful_at i l e = record { first = unchanged (first_sum r) (first_sum col) first; second = unchanged (second_sum r) (second_sum col) second }
    where
      r : ℕ → ℕ
      r = with_row col i (col i ⊕ first_sum col)

      same : SameBut i r col
      same k lk d = with_row_other col i (col i ⊕ first_sum col) k d

      change : r i ⊕ col i ≡ first_sum col
      change = ap (λ (x : ℕ). x ⊕ col i) (with_row_same col i (col i ⊕ first_sum col) ∙ ⊕_comm (col i) (first_sum col)) ∙ ⊕_undo (first_sum col) (col i)

      first : first_sum r ⊕ first_sum col ≡ first_sum col
      first = one_first r col i l same ∙ change

      second : second_sum r ⊕ second_sum col ≡ second_sum col
      second = one_second r col i l same ∙ ap (times (last_row - i)) change ∙ sym e

  -- The second sum is α^d times the first, where d is the distance of their logarithms.
  reached : (s t : ℕ) → s < 256 → t < 256 → (s ≡ 0 → ⊥) → (t ≡ 0 → ⊥) → t ≡ times ((logarithm_at t + (255 - logarithm_at s)) % 255) s
  reached s t hs ht ds dt =
      let p = power_logarithm s hs ds in
      let q = power_logarithm t ht dt in
      let d = (logarithm_at t + (255 - logarithm_at s)) % 255 in
      sym q.0 ∙ ap power (sum (logarithm_at s) (logarithm_at t) p.1 q.1) ∙ power_mod (d + logarithm_at s) (omega (arith, p.1))
      ∙ power_add d (logarithm_at s) ∙ ap (times d) p.0
    where
      sum : (l m : ℕ) → l < 255 → m < 255 → m ≡ ((m + (255 - l)) % 255 + l) % 255
      sum l m hl hm = omega arith

  pub mended_lawful : (wrong_row (first_sum col) (second_sum col) ≡ none_mends → ⊥) → Lawful (mended col)
  unfolding mended
  mended_lawful n = go (ℕ_discrete s 0) (ℕ_discrete t 0)
    where
      s : ℕ
      s = first_sum col

      t : ℕ
      t = second_sum col

      d : ℕ
      d = (logarithm_at t + (255 - logarithm_at s)) % 255

      r : ℕ → ℕ → ℕ
      r x = with_row col x (col x ⊕ s)

      by_row : (s ≡ 0 → ⊥) → (t ≡ 0 → ⊥) → Dec (d < row_count) → Lawful (r (wrong_row s t))
      by_row p q (yes l) =
          let back : last_row - (last_row - d) ≡ d = omega arith in
          subst (λ (x : ℕ). Lawful (r x)) (sym (wrong_row_both s t p q ∙ row_low d (omega arith)))
          (lawful_at (last_row - d) (omega arith) (reached s t (first_byte col b) (second_byte col b) p q ∙ ap (λ (k : ℕ). times k s) (sym back)))
      by_row p q (no u) = absurd (n (wrong_row_both s t p q ∙ row_high d (omega (arith, u))))

      go : Dec (s ≡ 0) → Dec (t ≡ 0) → Lawful (r (wrong_row s t))
      go (yes p) (yes q) =
          lawful_same (r (wrong_row s t)) col (λ i l. with_row_other col _ _ i (λ e. let f = wrong_row_none s t p q in absurd (omega arith)))
          (record { first = p; second = q })
      go (yes p) (no q) = absurd (n (wrong_row_second s t p q))
      go (no p) (yes q) = absurd (n (wrong_row_first s t p q))
      go (no p) (no q) = by_row p q (dec_lt d row_count)

-- Mending writes the wrong row's byte, or none.
pub mended_one : (col : ℕ → ℕ) → AtMostOne (mended col) col
unfolding mended
mended_one col = go (dec_lt r row_count)
  where
    r : ℕ
    r = wrong_row (first_sum col) (second_sum col)

    go : Dec (r < row_count) → AtMostOne (with_row col r (col r ⊕ first_sum col)) col
    go (yes l) = (r, (l, λ i li d. with_row_other col r (col r ⊕ first_sum col) i d))
    go (no l) = (0, (omega arith, λ i li d. with_row_other col r (col r ⊕ first_sum col) i (λ e. absurd (omega (arith, l)))))

-- A mended column is of bytes.
pub mended_bytes : (col : ℕ → ℕ) → ColumnBytes col → wrong_row (first_sum col) (second_sum col) < none_mends → ColumnBytes (mended col)
unfolding mended
mended_bytes col b n i l = go (ℕ_discrete i (wrong_row (first_sum col) (second_sum col)))
  where
    r : ℕ
    r = wrong_row (first_sum col) (second_sum col)

    go : Dec (i ≡ r) → with_row col r (col r ⊕ first_sum col) i < 256
    go (yes e) =
        subst (λ (x : ℕ). x < 256) (sym (ap (with_row col r (col r ⊕ first_sum col)) e ∙ with_row_same col r (col r ⊕ first_sum col)))
        (⊕_byte (col r) (first_sum col) (subst (λ (x : ℕ). col x < 256) e (b i l)) (first_byte col b))
    go (no d) = subst (λ (x : ℕ). x < 256) (sym (with_row_other col r (col r ⊕ first_sum col) i d)) (b i l)

-- and so the column is not hopeless.
pub not_hopeless : (col : ℕ → ℕ) → ColumnBytes col → wrong_row (first_sum col) (second_sum col) < none_mends → Hopeless col → ⊥
unfolding mended
not_hopeless col b n h = go (dec_lt r row_count)
  where
    r : ℕ
    r = wrong_row (first_sum col) (second_sum col)

    law : Lawful (mended col)
    law = mended_lawful col b (λ e. absurd (omega arith))

    go : Dec (r < row_count) → ⊥
    go (yes l) = h (mended col) r l (mended_bytes col b n) (λ i li d. sym (with_row_other col r (col r ⊕ first_sum col) i d)) law
    go (no l) =
        h (mended col) 0 (omega arith) (mended_bytes col b n)
        (λ i li d. sym (with_row_other col r (col r ⊕ first_sum col) i (λ e. absurd (omega (arith, l))))) law

-- No row is wrong only where the first sum is 0.
pub untouched_sum : (s t : ℕ) → wrong_row s t ≡ none_wrong → s ≡ 0
untouched_sum s t h = go (ℕ_discrete s 0) (ℕ_discrete t 0)
  where
    d : ℕ
    d = (logarithm_at t + (255 - logarithm_at s)) % 255

    row : (s ≡ 0 → ⊥) → (t ≡ 0 → ⊥) → Dec (d < row_count) → s ≡ 0
    row p q (yes l) = let e = wrong_row_both s t p q ∙ row_low d (omega arith) in absurd (omega arith)
    row p q (no u) = let e = wrong_row_both s t p q ∙ row_high d (omega (arith, u)) in absurd (omega arith)

    go : Dec (s ≡ 0) → Dec (t ≡ 0) → s ≡ 0
    go (yes p) q = p
    go (no p) (yes q) = let e = wrong_row_first s t p q in absurd (omega arith)
    go (no p) (no q) = row p q (dec_lt d row_count)

pub wrong_row_small : (s t : ℕ) → wrong_row s t ≤ none_mends
wrong_row_small s t = go (ℕ_discrete s 0) (ℕ_discrete t 0)
  where
    d : ℕ
    d = (logarithm_at t + (255 - logarithm_at s)) % 255

    row : (s ≡ 0 → ⊥) → (t ≡ 0 → ⊥) → Dec (d < row_count) → wrong_row s t ≤ none_mends
    row p q (yes l) = let e = wrong_row_both s t p q ∙ row_low d (omega arith) in omega arith
    row p q (no u) = let e = wrong_row_both s t p q ∙ row_high d (omega (arith, u)) in omega arith

    go : Dec (s ≡ 0) → Dec (t ≡ 0) → wrong_row s t ≤ none_mends
    go (yes p) (yes q) = let e = wrong_row_none s t p q in omega arith
    go (yes p) (no q) = let e = wrong_row_second s t p q in omega arith
    go (no p) (yes q) = let e = wrong_row_first s t p q in omega arith
    go (no p) (no q) = row p q (dec_lt d row_count)
