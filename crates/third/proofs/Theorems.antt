-- The theorems of change request 2026-08 on the calls, each with its sentence above it.
-- Assumes nothing.
use mathlib.Core.Path.{◌≡◌, refl, sym, ap, ◌∙◌}
use mathlib.Core.Logic.{inl, inr}
use mathlib.Core.Bool.{true, false}
use mathlib.Core.List.{List}
use Prim.Native.Nat.{ℕ, ◌<◌, ◌≤◌}
use native.Mathlib.Decide.{dec_lt}
use native.Mathlib.Omega.{arith}
use lib.ListN.{length}
use Rattle.answer.specs.Answer.{if_accepted}
use Rattle.column.specs.Column.{row_count, last_row, Column, column, Lawful, lawful, restored_one, restored_two, wrong_in, mended, mendable}
use Rattle.column.specs.Alike.{ColumnBytes, Same, SameBut, SameButTwo, AtMostOne, Hopeless}
use Rattle.restoring.specs.Rows.{each_column, first_failing}
use Rattle.third.specs.Answer.{ThirdAnswer}
use Rattle.third.specs.Answer.{Accepted, Refused}
use Rattle.third.specs.Answer.{first_check_row, mend_call, Makes, Checks, RestoresOne, RestoresTwo, Mends, told}
use Rattle.third.specs.Written.{Lent, Written, MendTold, CheckTold}
use Rattle.column.proofs.Restoring.{restored_one_lem, restored_two_lem, lawful_two, bytes_two, two_else}
use Rattle.column.proofs.Mending.{not_refused, mended_right, mended_one, no_mending, mended_lawful, mended_bytes, not_hopeless}
use Rattle.column.proofs.Judging.{is_lawful, is_within, is_beyond, within, of_lawful}
use Rattle.restoring.proofs.Failing.{first}
use Rattle.third.proofs.Answers.{let_through, found, not_found, make_lets, one_lets, two_lets}
use Rattle.restoring.proofs.Places.{column_each}
use Rattle.third.proofs.Buffers.{bytes_of_column, kept_of, accepted_left, refused_left, back, written}

true_false : true ≡ false → ⊥
true_false e = let z : ◌≡◌ {A = ℕ} 0 1 = cc in omega arith

-- "make the two check rows": every column keeps both rules, and the rows of data stay.
pub third_made : (n : ℕ) (old : List ℕ) (a : ThirdAnswer) (rows : List ℕ) → Lent n old → Makes n old a rows
    → (a ≡ Accepted 0) × (Written n rows × ((c i : ℕ) → c < n → i < first_check_row → column rows n c i ≡ column old n c i))
third_made n old a rows l m =
    let e = sym (let_through (Accepted 0) (make_lets (length old) n (kept_of l))) in
    let g : rows ≡ each_column (restored_two first_check_row last_row) n old = accepted_left _ _ n old a rows m 0 e in (
      m.answer ∙ e,
      (
        rw g (written (restored_two first_check_row last_row) n old l
            (λ c lc. let b = bytes_of_column old n c l.bytes in
            (lawful_two first_check_row last_row low high other (column old n c) b, bytes_two first_check_row last_row low high other (column old n c) b))),
        λ c i lc li.
            ap (λ (x : List ℕ). column x n c i) g ∙ column_each (restored_two first_check_row last_row) n old c i lc (omega arith)
            ∙ two_else first_check_row last_row low high other (column old n c) i (λ e. absurd (omega arith)) (λ e. absurd (omega arith)),
      ),
    )
  where
    low : first_check_row < row_count
    low = omega arith

    high : last_row < row_count
    high = omega arith

    other : ◌≡◌ {A = ℕ} first_check_row last_row → ⊥
    other e = omega arith

-- Written rows w, and rows as they are found.
module _ (n : ℕ) (w old : List ℕ) (a : ThirdAnswer) (rows : List ℕ) (whole : Written n w) (l : Lent n old) where
  bytes : (c : ℕ) → ColumnBytes (column old n c)
  bytes c = bytes_of_column old n c l.bytes

  bytes_written : (c : ℕ) → ColumnBytes (column w n c)
  bytes_written c = bytes_of_column w n c whole.lent.bytes

  -- "restoring gives the written rows whatever the named rows held, if the others are as written": one row.
  pub third_restored_one : (i : ℕ) → i ≤ last_row → ((c : ℕ) → c < n → SameBut i (column old n c) (column w n c))
      → RestoresOne n i old a rows → (a ≡ Accepted 0) × (rows ≡ w)
  third_restored_one i h same r =
      let e = sym (let_through (Accepted 0) (one_lets (length old) n i (kept_of l) h)) in (
        r.answer ∙ e,
        accepted_left _ _ n old a rows r 0 e
            ∙ back (restored_one i) n old w whole.lent.long
            (λ c lc. restored_one_lem i (column old n c) (column w n c) (omega arith) (whole.law c lc) (same c lc)),
      )

  -- Two rows.
  pub third_restored_two : (i j : ℕ) → i ≤ last_row → j ≤ last_row → (i ≡ j → ⊥)
      → ((c : ℕ) → c < n → SameButTwo i j (column old n c) (column w n c)) → RestoresTwo n i j old a rows → (a ≡ Accepted 0) × (rows ≡ w)
  third_restored_two i j h k d same r =
      let e = sym (let_through (Accepted 0) (two_lets (length old) n i j (record { length = kept_of l; first = h; second = k; other = d }))) in (
        r.answer ∙ e,
        accepted_left _ _ n old a rows r 0 e
            ∙ back (restored_two i j) n old w whole.lent.long
            (λ c lc. restored_two_lem i j (omega arith) (omega arith) d (column old n c) (column w n c) (bytes c) (bytes_written c) (whole.law c lc) (same c lc)),
      )

  -- "Mending is right where at most one byte of the column was changed."
  pub third_mended : ((c : ℕ) → c < n → AtMostOne (column old n c) (column w n c))
      → Mends n old a rows → (a ≡ Accepted 0) × (rows ≡ w)
  third_mended close m =
      let e = none in (
        m.answer ∙ e,
        accepted_left _ _ n old a rows m 0 e
            ∙ back mended n old w whole.lent.long
            (λ c lc. let p = close c lc in
            mended_right (column old n c) (column w n c) p.0 p.1.0 (bytes c) (bytes_written c) (whole.law c lc) p.1.1),
      )
    where
      all_within : (c : ℕ) → c < n → mendable (column old n c) ≡ true
      all_within c lc =
          let p = close c lc in
          let r = not_refused (column old n c) (column w n c) p.0 p.1.0 (bytes c) (bytes_written c) (whole.law c lc) p.1.1 in
          within (column old n c) (wrong_in (column old n c)) refl (omega arith)

      none : mend_call old n ≡ Accepted 0
      none = sym (not_found {c = first_failing mendable old n 0 n} _ _ refl (last (dec_lt (first_failing mendable old n 0 n) n))
          ∙ let_through _ (make_lets (length old) n (kept_of l)))
        where
          last : Dec (first_failing mendable old n 0 n < n) → n ≤ first_failing mendable old n 0 n
          last (yes h) = absurd (true_false (sym (all_within _ h) ∙ (first mendable old n 0 n).at (omega arith)))
          last (no h) = omega (arith, h)

-- "Mending is right where at most one byte of the column was changed", column by column: where mending is accepted, such a column
-- comes back, whatever the others were.
pub third_mended_column : (n : ℕ) (old rows : List ℕ) → Lent n old → Mends n old (Accepted 0) rows → (c : ℕ) → c < n
    → (w : Column) → ColumnBytes w → Lawful w → AtMostOne (column old n c) w → Same (column rows n c) w
third_mended_column n old rows l m c lc w b law close i li =
    ap (λ (x : List ℕ). column x n c i) (accepted_left _ _ n old (Accepted 0) rows m 0 (sym m.answer))
    ∙ column_each mended n old c i lc li
    ∙ mended_right (column old n c) w close.0 close.1.0 (bytes_of_column old n c l.bytes) b law close.1.1 i li

-- "mend one wrong byte a column": of no column does mending write more than one byte, whatever it answers.
pub third_mends_one : (n : ℕ) (old : List ℕ) (a : ThirdAnswer) (rows : List ℕ) → Mends n old a rows → (c : ℕ) → c < n
    → AtMostOne (column rows n c) (column old n c)
third_mends_one n old a rows m c lc = by a m.rows_left
  where
    by : (b : ThirdAnswer) → rows ≡ if_accepted (told b) (each_column mended n old) old → AtMostOne (column rows n c) (column old n c)
    by (Accepted outcome) e =
        let one = mended_one (column old n c) in
        (one.0, (one.1.0, λ i li d. ap (λ (x : List ℕ). column x n c i) e ∙ column_each mended n old c i lc li ∙ one.1.1 i li d))
    by (Refused refusal place) e = (0, (omega arith, λ i li d. ap (λ (x : List ℕ). column x n c i) e))

-- "43 a column that no single change mends (the whole buffer then stays)": either every column is mended, or its place is a column
-- that no single change mends, and the first of them.
pub third_told : (n : ℕ) (old : List ℕ) (a : ThirdAnswer) (rows : List ℕ) → Lent n old → Mends n old a rows
    → MendTold n old a rows
third_told n old a rows l m = by (dec_lt c n)
  where
    c : ℕ
    c = first_failing mendable old n 0 n

    bytes_at : (d : ℕ) → ColumnBytes (column old n d)
    bytes_at d = bytes_of_column old n d l.bytes

    hopeless : c < n → Hopeless (column old n c)
    hopeless h = no_mending (column old n c) (bytes_at c) (is_beyond (column old n c) ((first mendable old n 0 n).at (omega arith)))

    earlier : (d : ℕ) → d < c → Hopeless (column old n d) → ⊥
    earlier d ld =
        not_hopeless (column old n d) (bytes_at d) (is_within (column old n d) ((first mendable old n 0 n).before d (omega arith) ld))

    mends : (d : ℕ) → d < n → n ≤ c → Lawful (mended (column old n d)) × ColumnBytes (mended (column old n d))
    mends d ld h =
        let p = is_within (column old n d) ((first mendable old n 0 n).before d (omega arith) (omega arith)) in
        (mended_lawful (column old n d) (bytes_at d) (λ e. absurd (omega arith)), mended_bytes (column old n d) (bytes_at d) p)

    by : Dec (c < n) → MendTold n old a rows
    by (yes h) =
        let e : mend_call old n ≡ Refused 43 c = sym (found {c = c} _ _ refl h ∙ let_through _ (make_lets (length old) n (kept_of l))) in
        inr (c, (h, (m.answer ∙ e, (refused_left _ _ n old a rows m 43 c e, (hopeless h, earlier)))))
    by (no h) =
        let e : mend_call old n ≡ Accepted 0 = sym (not_found {c = c} _ _ refl (omega (arith, h)) ∙ let_through _ (make_lets (length old) n (kept_of l))) in
        inl (m.answer ∙ e, rw (accepted_left _ _ n old a rows m 0 e) (written mended n old l (λ d ld. mends d ld (omega (arith, h)))))

-- Checking tells whether every column keeps both rules.
pub third_checked : (n : ℕ) (rows : List ℕ) (a : ThirdAnswer) → Lent n rows → Checks n rows a → CheckTold n rows a
third_checked n rows a l e = by (dec_lt c n)
  where
    c : ℕ
    c = first_failing lawful rows n 0 n

    by : Dec (c < n) → CheckTold n rows a
    by (yes h) =
        inr (
          e ∙ sym (found {c = c} _ _ refl h ∙ let_through _ (make_lets (length rows) n (kept_of l))),
          (c, (h, λ law. absurd (true_false (sym (of_lawful (column rows n c) law) ∙ (first lawful rows n 0 n).at (omega arith))))),
        )
    by (no h) =
        inl (
          e ∙ sym (not_found {c = c} _ _ refl (omega (arith, h)) ∙ let_through _ (make_lets (length rows) n (kept_of l))),
          record { lent = l; law = λ d ld. is_lawful (column rows n d) ((first lawful rows n 0 n).before d (omega arith) (omega (arith, h))) },
        )
