-- Serves the contracts of what stores a state; no definition of document 01 stands here.
-- Assumes nothing.
use Rattle.std.specs.Prelude.{ℕ, ◌+◌, ◌≡◌, true, List}
use Rattle.numbers.specs.Numbers.{number_at}
use Rattle.reader.specs.declared.Reader.{Reader}

-- A state that an accepted group leaves, beside the slice of the state before it: the size is the one that stands there, the next
-- number one higher, and a group was accepted.
pub record Follows (slice : List ℕ) (s : Reader) : Type 0 where
  pub size : s.size ≡ number_at 4 slice 0
  pub next : s.next ≡ number_at 4 slice 4 + 1
  pub accepted : s.accepted ≡ true
