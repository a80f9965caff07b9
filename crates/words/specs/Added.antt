-- Serves contracts and proofs, and says nothing of the program: what a text shows, and what adding to one leaves.
-- Assumes nothing.
use Rattle.std.specs.Prelude.{ℕ, ◌+◌, ◌≤◌, ◌≡◌, List, ◌++◌, length, drop}
use base.Fml.{GName}

-- A text over lent memory: the bytes that were added, those behind them, which are free, and the loan.
pub record Lent : Type 0 where
  pub added : List ℕ
  pub free : List ℕ
  pub loan : GName

-- How many bytes have room.
abbrev pub room : Lent → ℕ
room text = length text.free

-- `word`, of at most `most` bytes, was added to the end of `old`. It took the place of so many free bytes, and the others are as they were.
abbrev pub Added : (most : ℕ) (old : Lent) (word : List ℕ) (new : Lent) → Type 0
Added most old word new =
    (new.added ≡ old.added ++ word)
    × (length new.added ≤ length old.added + most)
    × (new.free ≡ drop (length word) old.free)
    × (room old ≤ room new + most)
    × (new.loan ≡ old.loan)
