-- A list that is said turn by turn: what a rule gives at each number, one after another, and a list cut into chunks.
-- Assumes nothing.
use Rattle.std.specs.Prelude.{ℕ, zero, suc, ◌*◌, List, [], ◌++◌, take, drop}

-- The k-th of the chunks of one width that a list is cut into.
abbrev pub chunk : (width : ℕ) (list : List ℕ) (k : ℕ) → List ℕ
chunk width list k = take width (drop (width * k) list)

-- What f gives at each of n numbers from i, one after another.
unfoldable pub in_turn : (f : ℕ → List ℕ) → (i n : ℕ) → List ℕ
in_turn f i zero = []
in_turn f i (suc n) = f i ++ in_turn f (suc i) n
