-- Serves contracts and proofs, and says nothing of the format: a flag's meaning as one number, its code, and the table of codes.
-- Assumes nothing.
use Rattle.std.specs.Prelude.{ℕ, ◌+◌, ◌*◌, ◌<◌, ◌≡◌, List, true, false}
use Rattle.numbers.specs.Numbers.{listed}
use Rattle.group.specs.Flags.{Meaning}
use Rattle.std.specs.Prelude.{Some, None}
use Rattle.group.specs.Flags.{kind_number, meaning_of}

-- Twice the kind's number, one more where b4 is set, and 0 where no kind has the flag.
abbrev pub code_of : Meaning → ℕ
code_of (Some (k, false)) = 2 * kind_number k
code_of (Some (k, true)) = 2 * kind_number k + 1
code_of None = 0

-- By a flag's high half and its low half: the code of what it means.
unfoldable pub flag_table : List (List ℕ)
flag_table = listed (λ (high : ℕ). listed (λ (low : ℕ). code_of (meaning_of (16 * high + low))) 0 16) 0 16

-- A number and how large it can be.
pub record Below (limit of r : ℕ) : Type 0 where
  pub is : r ≡ of
  pub small : r < limit
