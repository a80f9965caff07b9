-- Serves contracts and proofs only: what is done to one column of the buffer.
-- Assumes nothing.
use Rattle.std.specs.Prelude.{◌≡◌, List, ℕ, ◌+◌, ◌*◌, ◌<◌, length, set}
use Rattle.field.specs.Field.{◌⊕◌}
use Rattle.column.specs.Column.{Column, column}

-- The buffer with x added to the byte of row i and column c.
unfoldable pub changed : (rows : List ℕ) (n i c x : ℕ) → List ℕ
changed rows n i c x = set rows (i * n + c) (column rows n c i ⊕ x)

-- f is done to column c, and nothing to the others.
pub record Turn (f : Column → Column) (n c : ℕ) (old rows : List ℕ) : Type 0 where
  pub size : length rows ≡ length old
  pub here : column rows n c ≡ f (column old n c)
  pub other : (d : ℕ) → d < n → (d ≡ c → ⊥) → column rows n d ≡ column old n d
