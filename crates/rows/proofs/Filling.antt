-- Loops that fill rows, whatever form a row is stored in: what is stored and what is left to store are the whole table's rows.
-- Assumes nothing.
use mathlib.Core.Path.{◌≡◌, refl, sym, ap, ◌∙◌}
use mathlib.Core.List.{List, [], ◌∷◌}
use Prim.Native.Nat.{ℕ, zero, suc, ◌+◌, ◌*◌, ◌-◌, ◌≤◌, ◌<◌}
use native.Mathlib.Nat.{not-suc-le-zero}
use native.Mathlib.Omega.{arith}
use lib.ListN.{length}
use Rattle.numbers.specs.Store.{put}
use Rattle.numbers.proofs.Stores.{put_none}
use Rattle.group.specs.declared.Entry.{Entry}
use Rattle.group.specs.Sizes.{entry_offset}
use Rattle.group.specs.Entries.{entry_at, entries_below}
use Rattle.group.specs.Flags.{kind_number, meaning_of}
use Rattle.group.specs.ForContracts.{Meant}
use Rattle.entry.specs.Scan.{reached_by}
use Rattle.entry.specs.Bounds.{Within}
use Rattle.rows.specs.Rows.{row_kind, rows_from}

-- One turn of the rows, and of the bound on the data.
pub row_turn : (group : List ℕ) (top left reached : ℕ) (e : Entry) (kind next : ℕ) → 0 < left → e ≡ entry_at group (top - 4)
    → kind ≡ row_kind (meaning_of e.flag) → next ≡ reached_by (meaning_of e.flag) reached e.count
    → rows_from reached (entries_below group top left) ≡ kind ∷ reached ∷ e.count ∷ rows_from next (entries_below group (top - 4) (left - 1))
unfolding rows_from entries_below
row_turn group top zero reached e kind next some is k n = absurd (not-suc-le-zero some)
row_turn group top (suc m) reached e kind next some is k n =
    let less : suc m - 1 ≡ m = omega arith in
    rw (k, n, is, less)

pub within_turn : (group : List ℕ) (limit top left reached : ℕ) (e : Entry) (next : ℕ) → 0 < left → e ≡ entry_at group (top - 4)
    → next ≡ reached_by (meaning_of e.flag) reached e.count → Within limit reached (entries_below group top left)
    → ((reached ≤ limit) × Meant e.flag) × Within limit next (entries_below group (top - 4) (left - 1))
unfolding Within entries_below
within_turn group limit top zero reached e next some is n w = absurd (not-suc-le-zero some)
within_turn group limit top (suc m) reached e next some is n w =
    let less : suc m - 1 ≡ m = omega arith in
    (rw is w.0, rw (n, is, less) w.1)

-- The number of its kind is the first number of a row.
pub row_kind_lem : (flag number : ℕ) → Meant flag → ((m : Meant flag) → number ≡ kind_number m.kind) → number ≡ row_kind (meaning_of flag)
row_kind_lem flag number m is = rw m.is (is m)

-- Rows that are stored as numbers.
abbrev pub as_given : List ℕ → List ℕ
as_given numbers = numbers

-- `form` is how a list of row numbers is stored.
pub record Filled (form : List ℕ → List ℕ) (group old : List ℕ) (size entries : ℕ) (rows : List ℕ) (top left reached i : ℕ) : Type 0 where
  pub long : length rows ≡ length old
  pub kept : Within (entry_offset size entries) reached (entries_below group top left)
  pub same : put rows i (form (rows_from reached (entries_below group top left))) ≡ put old 0 (form (rows_from 0 (entries_below group (size - 32) entries)))

-- A turn: a row is stored, `width` numbers wide.
module _ (form : List ℕ → List ℕ) (width : ℕ) (group old : List ℕ) (size entries : ℕ) (rows after : List ℕ) (top left reached i : ℕ) (e : Entry) (kind next : ℕ)
    (some : 0 < left) (is : e ≡ entry_at group (top - 4)) (first : kind ≡ row_kind (meaning_of e.flag)) (reaches : next ≡ reached_by (meaning_of e.flag) reached e.count) where
  pub filled_turn : length after ≡ length rows
      → ((more : List ℕ) → put after (i + width) (form more) ≡ put rows i (form (kind ∷ reached ∷ e.count ∷ more)))
      → Filled form group old size entries rows top left reached i → Filled form group old size entries after (top - 4) (left - 1) next (i + width)
  filled_turn l stored f =
      record {
        long = l ∙ f.long;
        kept = (within_turn group _ top left reached e next some is reaches f.kept).1;
        same =
            stored _
            ∙ ap (λ (vs : List ℕ). put rows i (form vs)) (sym (row_turn group top left reached e kind next some is first reaches))
            ∙ f.same;
      }

-- The same, where the loop stands is told by other numbers.
pub filled_at : {form : List ℕ → List ℕ} {group old : List ℕ} {size entries : ℕ} {rows : List ℕ} {top top' left left' reached i i' : ℕ}
    → top ≡ top' → left ≡ left' → i ≡ i'
    → Filled form group old size entries rows top left reached i → Filled form group old size entries rows top' left' reached i'
filled_at e f g h = rw (← e, ← f, ← g) h

-- The data reached before an entry is within the limit, and its flag has a meaning.
pub filled_reach : {form : List ℕ → List ℕ} (group old : List ℕ) (size entries : ℕ) (rows : List ℕ) (top left reached i : ℕ) (e : Entry) → 0 < left → e ≡ entry_at group (top - 4)
    → Filled form group old size entries rows top left reached i → (reached ≤ entry_offset size entries) × Meant e.flag
filled_reach group old size entries rows top left reached i e some is f =
    (within_turn group _ top left reached e _ some is refl f.kept).0

-- Nothing is left to store.
no_rows : (group : List ℕ) (top left reached : ℕ) → left ≡ 0 → rows_from reached (entries_below group top left) ≡ []
unfolding rows_from entries_below
no_rows group top left reached e = rw e

pub filled_done : (form : List ℕ → List ℕ) (group old : List ℕ) (size entries : ℕ) (rows : List ℕ) (top left reached i : ℕ) → form [] ≡ [] → left ≤ 0
    → Filled form group old size entries rows top left reached i → rows ≡ put old 0 (form (rows_from 0 (entries_below group (size - 32) entries)))
filled_done form group old size entries rows top left reached i none h f =
    let all : put rows i (form (rows_from reached (entries_below group top left))) ≡ rows = rw (no_rows group top left reached (omega arith), none) (put_none rows i) in
    sym all ∙ f.same

-- Three numbers for each entry.
pub length_rows : (reached : ℕ) (es : List Entry) → length (rows_from reached es) ≡ 3 * length es
unfolding rows_from
length_rows reached [] = refl
length_rows reached (e ∷ es) = omega (arith, length_rows (reached_by (meaning_of e.flag) reached e.count) es)
