-- Document 01, "Writing": what a writer's start answers, and what a result of the code says of it.
-- Assumes nothing.
use Rattle.std.specs.Prelude.{ℕ, Result, Ok, Err}
use Rattle.laying.specs.declared.Writer.{Writer}

-- The state, or the number of the refusal.
pub data WriterStart : Type 0 where
  Started : Writer → WriterStart
  Refused : (refusal : ℕ) → WriterStart

-- The code's own result of a start, as that.
abbrev pub start_of : {R : Type 0} → (R → ℕ) → Result Writer R → WriterStart
start_of number (Ok s) = Started s
start_of number (Err r) = Refused (number r)
