-- The buffer by columns: a change touches one byte of one column; turns add up to every column. Assumes nothing.
use mathlib.Core.Path.{◌≡◌, refl, sym, ap, ap₂, ◌∙◌, subst, fun_ext}
use mathlib.Core.List.{List}
use Prim.Native.Nat.{ℕ, zero, suc, ◌+◌, ◌*◌, ◌/◌, ◌%◌, ◌<◌, ◌≤◌}
use native.Mathlib.Nat.{mul-le-mul_right, add-mul, div-add-mod', mod-lt, div-lt_iff_lt-mul}
use native.Mathlib.Decide.{ℕ_discrete, dec_lt}
use native.Mathlib.Omega.{arith}
use lib.Bits.{bit_xor}
use lib.ListN.{length, get_or, set, length-set}
use lib.Seq.{get_or-set_same, get_or-set_other, ext_get_or}
use Rattle.numbers.specs.Numbers.{listed}
use Rattle.numbers.proofs.Computed.{listed_at}
use Rattle.field.specs.Field.{◌⊕◌}
use Rattle.column.specs.Column.{row_count, Column, column, first_sum, second_sum, with_row, without, restored_one, lacking, restored_two, none_wrong, wrong_row, mended}
use Rattle.restoring.specs.Rows.{each_column}
use Rattle.restoring.specs.Turns.{changed, Turn}
use Rattle.field.proofs.Adding.{⊕_zero}
use Rattle.column.proofs.Totals.{with_row_same, with_row_other}
use Rattle.column.proofs.Steps.{place_in_lem}
use Rattle.column.proofs.Mending.{untouched_sum}

-- Rows do not run into one another.
row_up : (n i k : ℕ) → i < k → i * n + n ≤ k * n
row_up n i k h =
    let m : (i + 1) * n ≤ k * n = mul-le-mul_right n (omega arith) in
    let e : (i + 1) * n ≡ i * n + 1 * n = add-mul i 1 n in
    omega arith

-- A place has one row and one column.
pub place_row : (n i c k d : ℕ) → c < n → d < n → i * n + c ≡ k * n + d → i ≡ k
place_row n i c k d hc hd e = go (dec_lt i k) (dec_lt k i)
  where
    go : Dec (i < k) → Dec (k < i) → i ≡ k
    go (yes p) q = absurd (omega (arith, row_up n i k p))
    go (no p) (yes q) = absurd (omega (arith, row_up n k i q))
    go (no p) (no q) = omega (arith, p, q)

pub place_column : (n i c k d : ℕ) → c < n → d < n → i * n + c ≡ k * n + d → c ≡ d
place_column n i c k d hc hd e =
    let r = place_row n i c k d hc hd e in
    let m : i * n ≡ k * n = ap (λ (x : ℕ). x * n) r in
    omega arith

module _ (rows : List ℕ) (n c : ℕ) (size : length rows ≡ row_count * n) (lc : c < n) where
  inside : (i : ℕ) → i < row_count → i * n + c < length rows
  inside i l = omega (arith, place_in_lem n i c l lc)

  -- A byte put.
  pub column_set : (i v : ℕ) → i < row_count → column (set rows (i * n + c) v) n c ≡ with_row (column rows n c) i v
  unfolding column
  column_set i v l = fun_ext (λ k. go k (ℕ_discrete k i))
    where
      go : (k : ℕ) → Dec (k ≡ i) → get_or (set rows (i * n + c) v) (k * n + c) 0 ≡ with_row (column rows n c) i v k
      go k (yes e) =
          ap (λ (m : ℕ). get_or (set rows (i * n + c) v) (m * n + c) 0) e ∙ get_or-set_same rows (i * n + c) v 0 (inside i l)
          ∙ sym (with_row_same (column rows n c) i v) ∙ ap (with_row (column rows n c) i v) (sym e)
      go k (no d) =
          get_or-set_other rows (i * n + c) (k * n + c) v 0 (λ e. d (place_row n k c i c lc lc e)) ∙ sym (with_row_other (column rows n c) i v k d)

  pub column_other : (i v d : ℕ) → d < n → (d ≡ c → ⊥) → column (set rows (i * n + c) v) n d ≡ column rows n d
  unfolding column
  column_other i v d ld p =
      fun_ext (λ k. get_or-set_other rows (i * n + c) (k * n + d) v 0 (λ e. p (place_column n k d i c ld lc e)))

  -- A byte changed.
  pub column_changed : (i x : ℕ) → i < row_count → column (changed rows n i c x) n c ≡ with_row (column rows n c) i (column rows n c i ⊕ x)
  unfolding changed
  column_changed i x l = column_set i (column rows n c i ⊕ x) l

  pub changed_other : (i x d : ℕ) → d < n → (d ≡ c → ⊥) → column (changed rows n i c x) n d ≡ column rows n d
  unfolding changed
  changed_other i x d ld p = column_other i (column rows n c i ⊕ x) d ld p

pub changed_size : (rows : List ℕ) (n i c x : ℕ) → length (changed rows n i c x) ≡ length rows
unfolding changed
changed_size rows n i c x = length-set rows (i * n + c) (column rows n c i ⊕ x)

-- The code's store.
pub stored : (rows : List ℕ) (n i c x p : ℕ) → p ≡ i * n + c → set rows p (bit_xor (get_or rows p 0) x) ≡ changed rows n i c x
unfolding changed column ◌⊕◌
stored rows n i c x p e = rw e

-- A byte put is a turn.
pub turn_put : (rows : List ℕ) (n c : ℕ) → length rows ≡ row_count * n → c < n → (rows' : List ℕ) (i v : ℕ) → i < row_count → rows' ≡ set rows (i * n + c) v →
    Turn (λ (col : Column). with_row col i v) n c rows rows'
turn_put rows n c size lc rows' i v l h =
    record {
      size = ap length h ∙ length-set rows (i * n + c) v;
      here = ap (λ (x : List ℕ). column x n c) h ∙ column_set rows n c size lc i v l;
      other = λ d ld p. ap (λ (x : List ℕ). column x n d) h ∙ column_other rows n c size lc i v d ld p;
    }

-- Two turns, one after the other.
pub turn_then : {f g : Column → Column} {n c : ℕ} {rows rows₁ rows₂ : List ℕ} → Turn f n c rows rows₁ → Turn g n c rows₁ rows₂ → Turn (λ (col : Column). g (f col)) n c rows rows₂
turn_then {g = g} t u =
    record { size = u.size ∙ t.size; here = u.here ∙ ap g t.here; other = λ d ld p. u.other d ld p ∙ t.other d ld p }

-- A turn each. Rows are restored by the sums of the others: the named ones are taken out before the sums are made.
module _ (rows : List ℕ) (n c : ℕ) (size : length rows ≡ row_count * n) (lc : c < n) where
  pub turn_one : (rows₁ rows₂ : List ℕ) (i s : ℕ) → i < row_count → rows₁ ≡ set rows (i * n + c) 0 → s ≡ first_sum (column rows₁ n c) → rows₂ ≡ set rows₁ (i * n + c) s →
      Turn (restored_one i) n c rows rows₂
  unfolding restored_one without
  turn_one rows₁ rows₂ i s l h₁ e h₂ =
      let t = turn_put rows n c size lc rows₁ i 0 l h₁ in
      let u = turn_then t (turn_put rows₁ n c (t.size ∙ size) lc rows₂ i s l h₂) in
      record { size = u.size; here = u.here ∙ ap (with_row (with_row (column rows n c) i 0) i) (e ∙ ap first_sum t.here); other = u.other }

  pub turn_two : (rows₁ rows₂ rows₃ rows₄ : List ℕ) (i j x y : ℕ) → i < row_count → j < row_count → rows₁ ≡ set rows (i * n + c) 0 → rows₂ ≡ set rows₁ (j * n + c) 0 →
      x ≡ lacking i j (first_sum (column rows₂ n c)) (second_sum (column rows₂ n c)) → y ≡ first_sum (column rows₂ n c) ⊕ x →
      rows₃ ≡ set rows₂ (i * n + c) x → rows₄ ≡ set rows₃ (j * n + c) y → Turn (restored_two i j) n c rows rows₄
  unfolding restored_two without
  turn_two rows₁ rows₂ rows₃ rows₄ i j x y li lj h₁ h₂ ex ey h₃ h₄ =
      let t₁ = turn_put rows n c size lc rows₁ i 0 li h₁ in
      let t₂ = turn_then t₁ (turn_put rows₁ n c (t₁.size ∙ size) lc rows₂ j 0 lj h₂) in
      let t₃ = turn_then t₂ (turn_put rows₂ n c (t₂.size ∙ size) lc rows₃ i x li h₃) in
      let t₄ = turn_then t₃ (turn_put rows₃ n c (t₃.size ∙ size) lc rows₄ j y lj h₄) in
      let others : Column = with_row (with_row (column rows n c) i 0) j 0 in
      let x-is : x ≡ lacking i j (first_sum others) (second_sum others) = ex ∙ ap (λ (col : Column). lacking i j (first_sum col) (second_sum col)) t₂.here in
      let y-is : y ≡ first_sum others ⊕ lacking i j (first_sum others) (second_sum others) = ey ∙ ap₂ ◌⊕◌ (ap first_sum t₂.here) x-is in
      record { size = t₄.size; here = t₄.here ∙ ap₂ (λ (v w : ℕ). with_row (with_row others i v) j w) x-is y-is; other = t₄.other }

  pub turn_mend : (rows' : List ℕ) (r s : ℕ) → r < row_count → s ≡ first_sum (column rows n c)
      → r ≡ wrong_row (first_sum (column rows n c)) (second_sum (column rows n c)) → rows' ≡ changed rows n r c s → Turn mended n c rows rows'
  unfolding mended
  turn_mend rows' r s l e f h =
      record {
        size = ap length h ∙ changed_size rows n r c s;
        here = ap (λ (x : List ℕ). column x n c) h ∙ column_changed rows n c size lc r s l
            ∙ ap₂ (λ (x q : ℕ). with_row (column rows n c) q (column rows n c q ⊕ x)) e f;
        other = λ d ld p. ap (λ (x : List ℕ). column x n d) h ∙ changed_other rows n c size lc r s d ld p;
      }

  pub turn_none : wrong_row (first_sum (column rows n c)) (second_sum (column rows n c)) ≡ none_wrong → Turn mended n c rows rows
  unfolding mended
  turn_none f = record { size = refl; here = fun_ext (λ i. sym (same i)); other = λ d ld p. refl }
    where
      col : ℕ → ℕ
      col = column rows n c

      r : ℕ
      r = wrong_row (first_sum col) (second_sum col)

      here : col r ⊕ first_sum col ≡ col r
      here = ap (λ (x : ℕ). col r ⊕ x) (untouched_sum (first_sum col) (second_sum col) f) ∙ ⊕_zero (col r)

      go : (i : ℕ) → Dec (i ≡ r) → with_row col r (col r ⊕ first_sum col) i ≡ col i
      go i (yes e) = ap (with_row col r (col r ⊕ first_sum col)) e ∙ with_row_same col r (col r ⊕ first_sum col) ∙ here ∙ ap col (sym e)
      go i (no d) = with_row_other col r (col r ⊕ first_sum col) i d

      same : (i : ℕ) → with_row col r (col r ⊕ first_sum col) i ≡ col i
      same i = go i (ℕ_discrete i r)

-- Turns add up: f is done to the columns below c, and nothing to the rest.
pub record Upto (f : Column → Column) (n c : ℕ) (rows rows' : List ℕ) : Type 0 where
  pub size : length rows' ≡ length rows
  pub done : (d : ℕ) → d < n → d < c → column rows' n d ≡ f (column rows n d)
  pub rest : (d : ℕ) → d < n → c ≤ d → column rows' n d ≡ column rows n d

pub upto_none : (f : Column → Column) (n : ℕ) (rows : List ℕ) → Upto f n 0 rows rows
upto_none f n rows = record { size = refl; done = λ d ld h. absurd (omega arith); rest = λ d ld h. refl }

pub upto_next : (f : Column → Column) (n c : ℕ) (rows rows' rows'' : List ℕ) → c < n → Upto f n c rows rows' → Turn f n c rows' rows'' → Upto f n (c + 1) rows rows''
upto_next f n c rows rows' rows'' lc u t =
    record {
      size = t.size ∙ u.size;
      done = λ d ld h. below d ld h (ℕ_discrete d c);
      rest = λ d ld h. t.other d ld (λ e. absurd (omega arith)) ∙ u.rest d ld (omega arith);
    }
  where
    below : (d : ℕ) → d < n → d < c + 1 → Dec (d ≡ c) → column rows'' n d ≡ f (column rows n d)
    below d ld h (yes e) =
        ap (column rows'' n) e ∙ t.here ∙ ap f (u.rest c lc (omega arith)) ∙ ap (λ (x : ℕ). f (column rows n x)) (sym e)
    below d ld h (no p) = t.other d ld p ∙ u.done d ld (omega (arith, p))

-- The buffer with f done to every column, by its columns.
length_listed : (f : ℕ → ℕ) (i n : ℕ) → length (listed f i n) ≡ n
length_listed f i zero = refl
length_listed f i (suc n) = ap suc (length_listed f (suc i) n)

pub length_each : (f : Column → Column) (n : ℕ) (rows : List ℕ) → length (each_column f n rows) ≡ row_count * n
unfolding each_column
length_each f n rows = length_listed _ 0 (row_count * n)

each_at : (f : Column → Column) (n : ℕ) (rows : List ℕ) (p : ℕ) → p < row_count * n
    → get_or (each_column f n rows) p 0 ≡ f (column rows n (p % n)) (p / n)
unfolding each_column
each_at f n rows p h = listed_at (λ (place : ℕ). f (column rows n (place % n)) (place / n)) 0 (row_count * n) p h

pub column_each : (f : Column → Column) (n : ℕ) (rows : List ℕ) (c i : ℕ) → c < n → i < row_count
    → column (each_column f n rows) n c i ≡ f (column rows n c) i
unfolding column
column_each f n rows c i lc li =
    let p : ℕ = i * n + c in
    let e : p / n * n + p % n ≡ p = div-add-mod' p n in
    let m : p % n < n = mod-lt p (omega arith) in
    each_at f n rows p (place_in_lem n i c li lc)
    ∙ ap₂ (λ (d k : ℕ). f (column rows n d) k) (place_column n (p / n) (p % n) i c m lc e) (place_row n (p / n) (p % n) i c m lc e)

-- A buffer is its columns.
pub same_rows : (n : ℕ) (rows rows' : List ℕ) → length rows ≡ row_count * n → length rows' ≡ row_count * n
    → ((c i : ℕ) → c < n → i < row_count → column rows n c i ≡ column rows' n c i) → rows ≡ rows'
unfolding column
same_rows n rows rows' e e' h = ext_get_or 0 rows rows' (e ∙ sym e') at
  where
    at : (p : ℕ) → p < length rows → get_or rows p 0 ≡ get_or rows' p 0
    at p l =
        let pos : 0 < n = omega arith in
        let low : p / n < row_count = (div-lt_iff_lt-mul pos).1 (subst (λ (x : ℕ). p < x) e l) in
        let whole : p / n * n + p % n ≡ p = div-add-mod' p n in
        ap (λ (x : ℕ). get_or rows x 0) (sym whole) ∙ h (p % n) (p / n) (mod-lt p pos) low ∙ ap (λ (x : ℕ). get_or rows' x 0) whole

pub upto_all : (f : Column → Column) (n c : ℕ) (rows rows' : List ℕ) → length rows ≡ row_count * n → n ≤ c → Upto f n c rows rows' → rows' ≡ each_column f n rows
upto_all f n c rows rows' long h u =
    same_rows n rows' (each_column f n rows) (u.size ∙ long) (length_each f n rows)
    (λ d i ld li. ap (λ (col : Column). col i) (u.done d ld (omega arith)) ∙ sym (column_each f n rows d i ld li))
