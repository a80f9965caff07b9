-- Document 01, "Reading": what a reader's start answers, and what a result of the code says of it.
-- Assumes nothing.
use Rattle.std.specs.Prelude.{ℕ, Result, Ok, Err}
use Rattle.reader.specs.declared.Reader.{Reader}

-- The state, or the number of the refusal.
pub data ReaderStart : Type 0 where
  Started : Reader → ReaderStart
  Refused : (refusal : ℕ) → ReaderStart

abbrev pub start_of : {R : Type 0} → (R → ℕ) → Result Reader R → ReaderStart
start_of number (Ok s) = Started s
start_of number (Err r) = Refused (number r)
