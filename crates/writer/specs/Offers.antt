-- The header, "offer again what is left": when an offer gets on, and a record that is offered over and over.
-- Assumes nothing.
use Rattle.std.specs.Prelude.{ℕ, ◌+◌, ◌≤◌, ◌<◌, ◌≡◌, Bool, List, length, drop}
use Rattle.group.specs.Sizes.{entry_offset}
use Rattle.laying.specs.declared.Writer.{Writer}
use Rattle.laying.specs.Laying.{Desk, desk}
use Rattle.writer.specs.WriteAnswer.{WriteAnswer}
use Rattle.writer.specs.WriteAnswer.{Finished, Closed, Refused}
use Rattle.writer.specs.Calls.{call, a_record}

-- L − 44: what a group holds of a record beside three entries, an owed total, the record's part and the skip.
abbrev pub least_taken : ℕ → ℕ
least_taken size = entry_offset size 3

-- An offer of n bytes gets on: it is finished, or a byte is taken at least, and no fewer than L − 44 where some are left.
abbrev pub GetsOn : (size n : ℕ) → WriteAnswer → Type 0
GetsOn size n (Finished s) = Unit {0}
GetsOn size n (Closed s number entries taken) = (1 ≤ taken) × (taken < n → least_taken size ≤ taken)
GetsOn size n (Refused s refusal) = ⊥

-- A record's bytes are offered to a writer, and what is left is offered again: after so many calls, each of which closed a group
-- with bytes left, the desk of the next call and the bytes that it is offered. Any buffer may be lent, and b4 said or not.
pub data Offers (w : Desk) (bytes : List ℕ) : ℕ → Desk → List ℕ → Type 0 where
  at_first : Offers w bytes 0 w bytes
  again : {calls : ℕ} {v : Desk} {left : List ℕ} {s : Writer} {number entries taken : ℕ} (warn : Bool) (g : List ℕ) → Offers w bytes calls v left →
      (call (a_record left warn) v).answer ≡ Closed s number entries taken → taken < length left →
      Offers w bytes (calls + 1) (desk s g) (drop taken left)
