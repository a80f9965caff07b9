-- What restoring gives, column by column. Assumes nothing.
use mathlib.Core.Path.{◌≡◌, sym, ap, ap₂, ◌∙◌, subst}
use Prim.Native.Nat.{ℕ, zero, suc, ◌-◌, ◌<◌, ◌≤◌}
use native.Mathlib.Nat.{le_refl}
use native.Mathlib.Decide.{ℕ_discrete}
use native.Mathlib.Omega.{arith}
use Rattle.field.specs.Field.{◌⊕◌, times, power}
use Rattle.field.specs.Tables.{power_at}
use Rattle.column.specs.Column.{row_count, last_row, total, first_sum, second_sum, Lawful, with_row, without, restored_one, apart, lacking, restored_two}
use Rattle.column.specs.Alike.{SameBut, SameButTwo, ColumnBytes}
use Rattle.field.proofs.Adding.{⊕_zero, ⊕_comm, ⊕_self, ⊕_assoc, ⊕_back, ⊕_undo, ⊕_equal, ⊕_byte, times-⊕}
use Rattle.field.proofs.TableLaws.{power_at_is, power_logarithm, times_byte}
use Rattle.field.proofs.FieldLaws.{times_forth, times_none, times_sum, power_same, power_byte}
use Rattle.column.proofs.Totals.{total_same, one_first, two_first, two_second, with_row_same, with_row_other}

-- The sums of bytes are bytes.
total_byte : (f : ℕ → ℕ) (n : ℕ) → ((i : ℕ) → i < n → f i < 256) → total f n < 256
unfolding total
total_byte f zero h = omega arith
total_byte f (suc n) h = ⊕_byte (total f n) (f n) (total_byte f n (λ i l. h i (omega arith))) (h n (le_refl (suc n)))

pub first_byte : (col : ℕ → ℕ) → ColumnBytes col → first_sum col < 256
unfolding first_sum
first_byte col h = total_byte col row_count h

pub second_byte : (col : ℕ → ℕ) → ColumnBytes col → second_sum col < 256
unfolding second_sum
second_byte col h = total_byte (λ i. times (last_row - i) (col i)) row_count (λ i l. times_byte (last_row - i) (col i) (h i l))

first_same : (v w : ℕ → ℕ) → ((i : ℕ) → i < row_count → v i ≡ w i) → first_sum v ≡ first_sum w
unfolding first_sum
first_same v w h = total_same v w row_count h

second_same : (v w : ℕ → ℕ) → ((i : ℕ) → i < row_count → v i ≡ w i) → second_sum v ≡ second_sum w
unfolding second_sum
second_same v w h =
    total_same (λ i. times (last_row - i) (v i)) (λ i. times (last_row - i) (w i)) row_count (λ i l. ap (times (last_row - i)) (h i l))

pub lawful_same : (v w : ℕ → ℕ) → ((i : ℕ) → i < row_count → v i ≡ w i) → Lawful w → Lawful v
lawful_same v w h l = record { first = first_same v w h ∙ l.first; second = second_same v w h ∙ l.second }

-- A sum that a lawful column adds nothing to.
pub drops : (a b : ℕ) → b ≡ 0 → a ≡ a ⊕ b
drops a b e = sym (⊕_zero a) ∙ ap (λ (x : ℕ). a ⊕ x) (sym e)

pub unchanged : (a b : ℕ) → a ⊕ b ≡ b → a ≡ 0
unchanged a b e = sym (⊕_undo a b) ∙ ap (λ (x : ℕ). x ⊕ b) e ∙ ⊕_self b

-- Nothing added.
nothing_and : (a x : ℕ) → a ≡ 0 → a ⊕ x ≡ x
nothing_and a x e = ap (λ (y : ℕ). y ⊕ x) e ∙ ⊕_comm 0 x ∙ ⊕_zero x

-- A column without a row: 0 there, and the same elsewhere.
without_here : (j : ℕ) (col : ℕ → ℕ) → without j col j ≡ 0
unfolding without
without_here j col = with_row_same col j 0

without_else : (j : ℕ) (col : ℕ → ℕ) (i : ℕ) → (i ≡ j → ⊥) → without j col i ≡ col i
unfolding without
without_else j col i d = with_row_other col j 0 i d

without_bytes : (j : ℕ) (col : ℕ → ℕ) → ColumnBytes col → ColumnBytes (without j col)
without_bytes j col b i l = go (ℕ_discrete i j)
  where
    go : Dec (i ≡ j) → without j col i < 256
    go (yes e) = let z : without j col i ≡ 0 = ap (without j col) e ∙ without_here j col in omega arith
    go (no d) = subst (λ (x : ℕ). x < 256) (sym (without_else j col i d)) (b i l)

-- One row restored: whatever it held, it is as written if the others are.
pub restored_one_lem : (j : ℕ) (col w : ℕ → ℕ) → j < row_count → Lawful w → SameBut j col w → (i : ℕ) → i < row_count → restored_one j col i ≡ w i
unfolding restored_one
restored_one_lem j col w l law h i li = go (ℕ_discrete i j)
  where
    others : ℕ → ℕ
    others = without j col

    sum : first_sum others ≡ w j
    sum =
        drops (first_sum others) (first_sum w) law.first ∙ one_first others w j l (λ k lk d. without_else j col k d ∙ h k lk d)
        ∙ nothing_and (others j) (w j) (without_here j col)

    go : Dec (i ≡ j) → with_row others j (first_sum others) i ≡ w i
    go (yes e) = ap (with_row others j (first_sum others)) e ∙ with_row_same others j (first_sum others) ∙ sum ∙ ap w (sym e)
    go (no d) = with_row_other others j (first_sum others) i d ∙ without_else j col i d ∙ h i li d

-- Two rows.
module _ (j k : ℕ) (lj : j < row_count) (lk : k < row_count) (d : j ≡ k → ⊥) where
  some : power_at (last_row - j) ⊕ power_at (last_row - k) ≡ 0 → ⊥
  some e =
      let p : power (last_row - j) ≡ power (last_row - k) = sym (power_at_is (last_row - j) (omega arith)) ∙ ⊕_equal _ _ e ∙ power_at_is (last_row - k) (omega arith) in
      let q : last_row - j ≡ last_row - k = power_same (last_row - j) (last_row - k) (omega arith) (omega arith) p in
      d (omega arith)

  at_byte : (n : ℕ) → n < 256 → power_at n < 256
  at_byte n h = subst (λ (x : ℕ). x < 256) (sym (power_at_is n h)) (power_byte n)

  -- The two powers add to the power of their distance.
  apart_logarithm : (power (apart j k) ≡ power_at (last_row - j) ⊕ power_at (last_row - k)) × (apart j k < 255)
  unfolding apart
  apart_logarithm =
      power_logarithm (power_at (last_row - j) ⊕ power_at (last_row - k))
      (⊕_byte _ _ (at_byte (last_row - j) (omega arith)) (at_byte (last_row - k) (omega arith))) some

  apart_power : power (last_row - j) ⊕ power (last_row - k) ≡ power (apart j k)
  apart_power = sym (apart_logarithm.0 ∙ ap₂ ◌⊕◌ (power_at_is (last_row - j) (omega arith)) (power_at_is (last_row - k) (omega arith)))

  joint : (x : ℕ) → x < 256 → times (last_row - j) x ⊕ times (last_row - k) x ≡ times (apart j k) x
  joint x h = times_sum (last_row - j) (last_row - k) (apart j k) x apart_power h

  below_255 : apart j k ≤ 255
  below_255 = omega (arith, apart_logarithm.1)

  -- Two lawful columns that are the same but in two rows are the same.
  pub only_two : (v w : ℕ → ℕ) → Lawful v → Lawful w → ColumnBytes v → ColumnBytes w → SameButTwo j k v w → (i : ℕ) → i < row_count → v i ≡ w i
  only_two v w lv lw bv bw h i li = go (ℕ_discrete i j) (ℕ_discrete i k)
    where
      first : (v j ⊕ w j) ⊕ (v k ⊕ w k) ≡ 0
      first = sym (two_first v w j k lj lk d h) ∙ ap₂ ◌⊕◌ lv.first lw.first ∙ ⊕_self 0

      same : v j ⊕ w j ≡ v k ⊕ w k
      same = ⊕_equal (v j ⊕ w j) (v k ⊕ w k) first

      second : times (last_row - j) (v j ⊕ w j) ⊕ times (last_row - k) (v k ⊕ w k) ≡ 0
      second = sym (two_second v w j k lj lk d h) ∙ ap₂ ◌⊕◌ lv.second lw.second ∙ ⊕_self 0

      byte : v j ⊕ w j < 256
      byte = ⊕_byte (v j) (w j) (bv j lj) (bw j lj)

      none : v j ⊕ w j ≡ 0
      none =
          times_none (apart j k) (v j ⊕ w j) below_255 byte
          (sym (joint (v j ⊕ w j) byte) ∙ ap (λ (x : ℕ). times (last_row - j) (v j ⊕ w j) ⊕ times (last_row - k) x) same ∙ second)

      go : Dec (i ≡ j) → Dec (i ≡ k) → v i ≡ w i
      go (yes e) q = ap v e ∙ ⊕_equal (v j) (w j) none ∙ ap w (sym e)
      go (no p) (yes e) = ap v e ∙ ⊕_equal (v k) (w k) (sym same ∙ none) ∙ ap w (sym e)
      go (no p) (no q) = h i li p q

  module _ (col : ℕ → ℕ) where
    -- What is added to row j.
    change : ℕ
    change = lacking j k (first_sum col) (second_sum col)

    -- Any column, with what it lacks added to its rows j and k.
    abbrev completed : ℕ → ℕ
    completed = with_row (with_row col j (col j ⊕ change)) k (col k ⊕ (first_sum col ⊕ change))

    two_at_j : completed j ≡ col j ⊕ change
    two_at_j = with_row_other (with_row col j (col j ⊕ change)) k (col k ⊕ (first_sum col ⊕ change)) j d ∙ with_row_same col j (col j ⊕ change)

    two_at_k : completed k ≡ col k ⊕ (first_sum col ⊕ change)
    two_at_k = with_row_same (with_row col j (col j ⊕ change)) k (col k ⊕ (first_sum col ⊕ change))

    completed_else : (i : ℕ) → (i ≡ j → ⊥) → (i ≡ k → ⊥) → completed i ≡ col i
    completed_else i p q = with_row_other (with_row col j (col j ⊕ change)) k (col k ⊕ (first_sum col ⊕ change)) i q ∙ with_row_other col j (col j ⊕ change) i p

    two_same : SameButTwo j k completed col
    two_same i l p q = completed_else i p q

    added : (a b x : ℕ) → a ≡ b ⊕ x → a ⊕ b ≡ x
    added a b x e = ap (λ (y : ℕ). y ⊕ b) (e ∙ ⊕_comm b x) ∙ ⊕_undo x b

    change_byte : ColumnBytes col → change < 256
    unfolding change lacking
    change_byte b = times_byte (255 - apart j k) _ (⊕_byte _ _ (second_byte col b) (times_byte _ _ (first_byte col b)))

    change_is : ColumnBytes col → times (apart j k) change ≡ second_sum col ⊕ times (last_row - k) (first_sum col)
    unfolding change lacking
    change_is b = times_forth (apart j k) _ below_255 (⊕_byte _ _ (second_byte col b) (times_byte (last_row - k) _ (first_byte col b)))

    -- It is lawful, whatever the column held.
    lawful_completed : ColumnBytes col → Lawful completed
    lawful_completed b = record { first = unchanged (first_sum r) s first; second = unchanged (second_sum r) t second }
      where
        r : ℕ → ℕ
        r = completed

        s : ℕ
        s = first_sum col

        t : ℕ
        t = second_sum col

        at_j : r j ⊕ col j ≡ change
        at_j = added (r j) (col j) change two_at_j

        at_k : r k ⊕ col k ≡ s ⊕ change
        at_k = added (r k) (col k) (s ⊕ change) two_at_k

        first : first_sum r ⊕ s ≡ s
        first = two_first r col j k lj lk d two_same ∙ ap₂ ◌⊕◌ at_j (at_k ∙ ⊕_comm s change) ∙ ⊕_back change s

        second : second_sum r ⊕ t ≡ t
        second =
            two_second r col j k lj lk d two_same
            ∙ ap₂ (λ (x y : ℕ). times (last_row - j) x ⊕ times (last_row - k) y) at_j at_k
            ∙ ap (λ (x : ℕ). times (last_row - j) change ⊕ x) (times-⊕ (last_row - k) s change ∙ ⊕_comm (times (last_row - k) s) (times (last_row - k) change))
            ∙ sym (⊕_assoc (times (last_row - j) change) (times (last_row - k) change) (times (last_row - k) s))
            ∙ ap (λ (x : ℕ). x ⊕ times (last_row - k) s) (joint change (change_byte b) ∙ change_is b)
            ∙ ⊕_undo t (times (last_row - k) s)

    bytes_completed : ColumnBytes col → ColumnBytes completed
    bytes_completed b i l = go (ℕ_discrete i j) (ℕ_discrete i k)
      where
        go : Dec (i ≡ j) → Dec (i ≡ k) → completed i < 256
        go (yes e) q = subst (λ (x : ℕ). x < 256) (sym (ap completed e ∙ two_at_j)) (⊕_byte (col j) change (b j lj) (change_byte b))
        go (no p) (yes e) =
            subst (λ (x : ℕ). x < 256) (sym (ap completed e ∙ two_at_k))
            (⊕_byte (col k) (first_sum col ⊕ change) (b k lk) (⊕_byte (first_sum col) change (first_byte col b) (change_byte b)))
        go (no p) (no q) = subst (λ (x : ℕ). x < 256) (sym (completed_else i p q)) (b i l)

  -- Restoring two rows completes the column without them.
  module _ (col : ℕ → ℕ) where
    abbrev others : ℕ → ℕ
    others = without k (without j col)

    others_bytes : ColumnBytes col → ColumnBytes others
    others_bytes b = without_bytes k (without j col) (without_bytes j col b)

    at_j_none : others j ≡ 0
    at_j_none = without_else k (without j col) j d ∙ without_here j col

    others_else : (i : ℕ) → (i ≡ j → ⊥) → (i ≡ k → ⊥) → others i ≡ col i
    others_else i p q = without_else k (without j col) i q ∙ without_else j col i p

    two_is : restored_two j k col ≡ completed others
    unfolding restored_two change
    two_is =
        ap₂ (λ (x y : ℕ). with_row (with_row others j x) k y) (sym (nothing_and (others j) (change others) at_j_none))
        (sym (nothing_and (others k) (first_sum others ⊕ change others) (without_here k (without j col))))

    pub two_else : (i : ℕ) → (i ≡ j → ⊥) → (i ≡ k → ⊥) → restored_two j k col i ≡ col i
    two_else i p q = ap (λ (f : ℕ → ℕ). f i) two_is ∙ completed_else others i p q ∙ others_else i p q

    -- That gives a lawful column, whatever the column held.
    pub lawful_two : ColumnBytes col → Lawful (restored_two j k col)
    lawful_two b = subst Lawful (sym two_is) (lawful_completed others (others_bytes b))

    pub bytes_two : ColumnBytes col → ColumnBytes (restored_two j k col)
    bytes_two b = subst ColumnBytes (sym two_is) (bytes_completed others (others_bytes b))

    -- The two rows are as written, whatever they held, if the others are.
    pub restored_two_lem : (w : ℕ → ℕ) → ColumnBytes col → ColumnBytes w → Lawful w → SameButTwo j k col w
        → (i : ℕ) → i < row_count → restored_two j k col i ≡ w i
    restored_two_lem w b bw law h =
        only_two (restored_two j k col) w (lawful_two b) law (bytes_two b) bw (λ i l p q. two_else i p q ∙ h i l p q)
