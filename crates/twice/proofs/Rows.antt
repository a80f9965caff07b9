-- The rows of an accepted read, row by row.
-- Assumes nothing.
use Prim.Native.Nat.{ℕ, zero, suc, ◌+◌, ◌*◌, ◌-◌, ◌<◌}
use native.Mathlib.Omega.{arith}
use mathlib.Core.List.{List, [], ◌∷◌, ◌++◌}
use mathlib.Core.Bool.{Bool, true, false, cond}
use mathlib.Core.Path.{◌≡◌, refl, sym, ap, ◌∙◌}
use lib.Dec.{eqb}
use lib.ListN.{length, take, drop}
use Rattle.numbers.specs.Store.{put}
use Rattle.numbers.proofs.Stores.{put_split, drop_put}
use Rattle.group.specs.declared.Entry.{Entry}
use Rattle.group.specs.declared.Kind.{Kind}
use Rattle.group.specs.declared.Kind.TheVariants.{Total, Separator, Middle, Start, Last, Entire, Skip}
use Rattle.group.specs.Flags.{Meaning}
use Rattle.std.specs.Prelude.{Some, None}
use Rattle.group.specs.Flags.{kind_number, flag_of, kinds, meaning_among, meaning_of}
use Rattle.group.specs.Entries.{entry_at, entries_below}
use Rattle.group.proofs.EntryLaws.{length_entries}
use Rattle.entry.specs.Scan.{reached_by}
use Rattle.rows.proofs.Filling.{length_rows}
use Rattle.reader.specs.declared.Reader.{Reader}
use Rattle.reader.specs.ReadAnswer as answer
use Rattle.rows.specs.Rows.{rows_from, row_kind}
use Rattle.reader.specs.Answer.{group_rows, as_numbers, Reads}
use Rattle.reader.proofs.Accepted.{accepted}
use Rattle.twice.specs.RowsAre.{kind_among, kind_is, data_of, data_is, entry_of, data_to, RowsAre}

-- The rows of flags that some kinds have.
abbrev rows_of : List Kind → List (ℕ × ℕ)
rows_of [] = []
rows_of (k ∷ ks) = (flag_of k false, kind_number k) ∷ (flag_of k true, kind_number k) ∷ rows_of ks

kind_among_lem : (ks : List Kind) (flag : ℕ) → row_kind (meaning_among ks flag) ≡ kind_among (rows_of ks) flag
kind_among_lem [] flag = refl
kind_among_lem (k ∷ ks) flag = by (eqb flag (flag_of k false)) (eqb flag (flag_of k true)) (kind_among_lem ks flag)
  where
    by : (a b : Bool) → row_kind (meaning_among ks flag) ≡ kind_among (rows_of ks) flag →
        row_kind (cond a (Some (k, false)) (cond b (Some (k, true)) (meaning_among ks flag))) ≡ cond a (kind_number k) (cond b (kind_number k) (kind_among (rows_of ks) flag))
    by true b e = refl
    by false true e = refl
    by false false e = e

pub kind_is_lem : (e : Entry) → row_kind (meaning_of e.flag) ≡ kind_is e
unfolding meaning_of kind_is
kind_is_lem e = kind_among_lem kinds e.flag

-- By its kind an entry moves the data on, or not.
moved_by : (m : Meaning) (reached count : ℕ) → reached_by m reached count ≡ reached + data_of (row_kind m) count
moved_by None reached count = omega arith
moved_by (Some (Total, b)) reached count = omega arith
moved_by (Some (Separator, b)) reached count = omega arith
moved_by (Some (Middle, b)) reached count = refl
moved_by (Some (Start, b)) reached count = refl
moved_by (Some (Last, b)) reached count = refl
moved_by (Some (Entire, b)) reached count = refl
moved_by (Some (Skip, b)) reached count = omega arith

data_is_lem : (e : Entry) (reached : ℕ) → reached_by (meaning_of e.flag) reached e.count ≡ reached + data_is e
data_is_lem e reached = moved_by (meaning_of e.flag) reached e.count ∙ ap (λ (k : ℕ). reached + data_of k e.count) (kind_is_lem e)

-- The data of the first k entries below `top`, from the first on, and from the last.
unfoldable before : List ℕ → ℕ → ℕ → ℕ
before group top zero = 0
before group top (suc k) = data_is (entry_at group (top - 4)) + before group (top - 4) k

before_last : (group : List ℕ) (top k : ℕ) → before group top (suc k) ≡ before group top k + data_is (entry_at group (top - 4 * suc k))
unfolding before
before_last group top zero = omega arith
before_last group top (suc k) =
    let place : top - 4 - 4 * suc k ≡ top - 4 * suc (suc k) = omega arith in
    let more : before group (top - 4) (suc k) ≡ before group (top - 4) k + data_is (entry_at group (top - 4 * suc (suc k))) =
    before_last group (top - 4) k ∙ ap (λ (x : ℕ). before group (top - 4) k + data_is (entry_at group x)) place in
    omega (arith, more)

data_to_lem : (group : List ℕ) (size k : ℕ) → before group (size - 32) k ≡ data_to group size k
unfolding before data_to
data_to_lem group size zero = refl
data_to_lem group size (suc k) = before_last group (size - 32) k ∙ ap (λ (n : ℕ). n + data_is (entry_of group size (suc k))) (data_to_lem group size k)

row_at : (g rest : List ℕ) (top n reached k : ℕ) → k < n →
    take 3 (drop (3 * k) (rows_from reached (entries_below g top n) ++ rest)) ≡ kind_is (entry_at g (top - 4 * suc k)) ∷ (reached + before g top k) ∷ (entry_at g (top - 4 * suc k)).count ∷ []
unfolding rows_from entries_below before
row_at g rest top zero reached k h = absurd (omega arith)
row_at g rest top (suc n) reached zero h =
    let z : reached ≡ reached + 0 = omega arith in
    let e = entry_at g (top - 4) in
    ap (λ (x : ℕ). x ∷ reached ∷ e.count ∷ []) (kind_is_lem e) ∙ ap (λ (x : ℕ). kind_is e ∷ x ∷ e.count ∷ []) z
row_at g rest top (suc n) reached (suc k) h =
    let three : 3 * suc k ≡ suc (suc (suc (3 * k))) = omega arith in
    let e = entry_at g (top - 4) in
    let to = reached_by (meaning_of e.flag) reached e.count in
    let place : top - 4 - 4 * suc k ≡ top - 4 * suc (suc k) = omega arith in
    let sum : to + before g (top - 4) k ≡ reached + (data_is e + before g (top - 4) k) = omega (arith, data_is_lem e reached) in
    rw three
    (row_at g rest (top - 4) n to k (omega arith)
    ∙ ap (λ (x : ℕ). kind_is (entry_at g x) ∷ (to + before g (top - 4) k) ∷ (entry_at g x).count ∷ []) place
    ∙ ap (λ (x : ℕ). kind_is (entry_at g (top - 4 * suc (suc k))) ∷ x ∷ (entry_at g (top - 4 * suc (suc k))).count ∷ []) sum)

-- From no data on.
before_is : (group : List ℕ) (size k : ℕ) → 0 + before group (size - 32) k ≡ data_to group size k
before_is group size k = omega (arith, data_to_lem group size k)

-- Every accepted read, by what its contract says.
pub rows_are : (s t : Reader) (group : List ℕ) (number n : ℕ) (old rows : List ℕ) → Reads as_numbers s group number n (length old) old (answer.Accepted t) rows →
    RowsAre s.size n group old rows
unfolding group_rows
rows_are s t group number n old rows r =
    let p = accepted s t group number n (length old) (sym r.answer) in
    let new : List ℕ = rows_from 0 (entries_below group (s.size - 32) n) in
    let long : length new ≡ 3 * n = length_rows 0 (entries_below group (s.size - 32) n) ∙ ap (λ (k : ℕ). 3 * k) (length_entries group (s.size - 32) n) in
    let left : rows ≡ put old 0 new = r.rows_left in
    let split : put old 0 new ≡ new ++ drop (0 + length new) old = put_split old 0 new (omega (arith, p.ready.rows)) in
    record {
      row = λ k h.
          ap (λ (l : List ℕ). take 3 (drop (3 * k) l)) (left ∙ split)
          ∙ row_at group (drop (0 + length new) old) (s.size - 32) n 0 k h
          ∙ ap (λ (x : ℕ). kind_is (entry_of group s.size (suc k)) ∷ x ∷ (entry_of group s.size (suc k)).count ∷ []) (before_is group s.size k);
      behind = ap (λ (l : List ℕ). drop (3 * n) l) left ∙ drop_put (3 * n) old 0 new (omega arith);
    }
