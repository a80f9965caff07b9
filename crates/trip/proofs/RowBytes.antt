-- The row slice of a read that C makes, by its numbers and its bytes.
-- Assumes nothing.
use Prim.Native.Nat.{ℕ, ◌*◌, ◌/◌}
use native.Mathlib.Omega.{arith}
use mathlib.Core.List.{List}
use mathlib.Core.Path.{◌≡◌, sym, ap, ◌∙◌}
use lib.ListN.{length, drop}
use Rattle.numbers.specs.Numbers.{numbers_in, in_bytes}
use Rattle.numbers.specs.Store.{put}
use Rattle.numbers.proofs.InBytes.{length_in_bytes, length_numbers, numbers_put}
use Rattle.numbers.proofs.Stores.{drop_put}
use Rattle.reader.specs.declared.Reader.{Reader}
use Rattle.reader.specs.ReadAnswer as answer
use Rattle.reader.specs.Answer.{read_call, group_rows, as_numbers, Reads}
use Rattle.reader.proofs.Accepted.{accepted}
use Rattle.reader.proofs.GroupRows.{length_group_rows}
use Rattle.twice.specs.RowsAre.{RowsAre}
use Rattle.twice.proofs.Theorems.{rows_are}
use Rattle.trip.proofs.SmallRows.{small_rows}

-- Of the reader's own read, with the rows stored as bytes.
pub row_bytes_lem : (s t : Reader) (group : List ℕ) (number n : ℕ) (old rows : List ℕ) → read_call s group number n (length old / 4) ≡ answer.Accepted t →
    rows ≡ put old 0 (in_bytes (group_rows s group n)) →
    (RowsAre s.size n group (numbers_in old) (numbers_in rows)) × (drop (12 * n) rows ≡ drop (12 * n) old)
row_bytes_lem s t group number n old rows e left =
    let new : List ℕ = group_rows s group n in
    let room : length (numbers_in old) ≡ length old / 4 = length_numbers old in
    let long : length new ≡ 3 * n = length_group_rows s group n in
    let bytes : length (in_bytes new) ≡ 4 * length new = length_in_bytes new in
    let enough = (accepted s t group number n (length old / 4) e).ready.rows in
    let stored : numbers_in rows ≡ put (numbers_in old) 0 new = ap numbers_in left ∙ numbers_put old new (small_rows s t group number n (length old / 4) e) (omega arith) in
    let reads : Reads as_numbers s group number n (length (numbers_in old)) (numbers_in old) (answer.Accepted t) (numbers_in rows) =
    record { answer = sym e ∙ ap (read_call s group number n) (sym room); rows_left = stored } in (
      rows_are s t group number n (numbers_in old) (numbers_in rows) reads,
      ap (λ (l : List ℕ). drop (12 * n) l) left ∙ drop_put (12 * n) old 0 (in_bytes new) (omega arith),
    )
