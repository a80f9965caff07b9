-- From columns to whole buffers: bytes, and what a call that does f to every column leaves.
-- Assumes nothing.
use mathlib.Core.Path.{◌≡◌, sym, ap, ◌∙◌, subst}
use mathlib.Core.List.{List}
use Prim.Native.Nat.{ℕ, ◌+◌, ◌*◌, ◌/◌, ◌%◌, ◌<◌}
use native.Mathlib.Nat.{div-add-mod', mod-lt, div-lt_iff_lt-mul}
use native.Mathlib.Decide.{dec_lt}
use native.Mathlib.Omega.{arith}
use lib.ListN.{length, get_or, get_or-eq_default}
use Rattle.answer.specs.Answer.{if_accepted}
use Rattle.numbers.specs.Numbers.{Bytes}
use Rattle.column.specs.Column.{row_count, Column, column, Lawful}
use Rattle.column.specs.Alike.{ColumnBytes, Same}
use Rattle.restoring.specs.Rows.{each_column}
use Rattle.third.specs.Answer.{ThirdAnswer}
use Rattle.third.specs.Answer.{Accepted, Refused}
use Rattle.third.specs.Answer.{Does, told}
use Rattle.third.specs.Written.{Lent, Written}
use Rattle.column.proofs.Restoring.{lawful_same}
use Rattle.third.proofs.Answers.{Kept}
use Rattle.restoring.proofs.Places.{column_each, length_each, same_rows}

pub bytes_of_column : (rows : List ℕ) (n c : ℕ) → Bytes rows → ColumnBytes (column rows n c)
unfolding column
bytes_of_column rows n c b i l = b (i * n + c)

-- Rows whose every column is of bytes.
pub bytes_of_rows : (rows : List ℕ) (n : ℕ) → length rows ≡ row_count * n → ((c : ℕ) → c < n → ColumnBytes (column rows n c)) → Bytes rows
unfolding column
bytes_of_rows rows n e h p = by (dec_lt p (row_count * n))
  where
    by : Dec (p < row_count * n) → get_or rows p 0 < 256
    by (yes l) =
        let pos : 0 < n = omega arith in
        let whole : p / n * n + p % n ≡ p = div-add-mod' p n in
        subst (λ (x : ℕ). get_or rows x 0 < 256) whole (h (p % n) (mod-lt p pos) (p / n) ((div-lt_iff_lt-mul pos).1 l))
    by (no l) = let beyond : get_or rows p 0 ≡ 0 = get_or-eq_default rows 0 (omega (arith, l)) in omega arith

pub kept_of : {n : ℕ} {rows : List ℕ} → Lent n rows → Kept (length rows) n
kept_of l = record { some = l.some; long = l.long }

-- What a call leaves where it is accepted, and where it is refused.
module _ (called : ThirdAnswer) (f : Column → Column) (n : ℕ) (old : List ℕ) (a : ThirdAnswer) (rows : List ℕ) (d : Does called f n old a rows) where
  pub accepted_left : (outcome : ℕ) → called ≡ Accepted outcome → rows ≡ each_column f n old
  accepted_left outcome e = d.rows_left ∙ ap (λ (x : ThirdAnswer). if_accepted (told x) (each_column f n old) old) (d.answer ∙ e)

  pub refused_left : (refusal place : ℕ) → called ≡ Refused refusal place → rows ≡ old
  refused_left refusal place e = d.rows_left ∙ ap (λ (x : ThirdAnswer). if_accepted (told x) (each_column f n old) old) (d.answer ∙ e)

-- The buffer with f done to every column, where f gives the columns of w.
pub back : (f : Column → Column) (n : ℕ) (old w : List ℕ) → length w ≡ row_count * n
    → ((c : ℕ) → c < n → Same (f (column old n c)) (column w n c)) → each_column f n old ≡ w
back f n old w e h =
    same_rows n (each_column f n old) w (length_each f n old) e (λ c i lc li. column_each f n old c i lc li ∙ h c lc i li)

-- Where f gives lawful columns of bytes, written rows.
pub written : (f : Column → Column) (n : ℕ) (old : List ℕ) → Lent n old
    → ((c : ℕ) → c < n → Lawful (f (column old n c)) × ColumnBytes (f (column old n c))) → Written n (each_column f n old)
written f n old l h =
    record {
      lent = record { some = l.some; long = length_each f n old; bytes = bytes_of_rows (each_column f n old) n (length_each f n old) bytes };
      law = λ c lc. lawful_same (column (each_column f n old) n c) (f (column old n c)) (λ i li. column_each f n old c i lc li) (h c lc).0;
    }
  where
    bytes : (c : ℕ) → c < n → ColumnBytes (column (each_column f n old) n c)
    bytes c lc i li = subst (λ (x : ℕ). x < 256) (sym (column_each f n old c i lc li)) ((h c lc).1 i li)
