-- Document 01, "Writing": what a call answers, and what a result of the code says of it.
-- Assumes nothing.
use Rattle.std.specs.Prelude.{ℕ, Result, Ok, Err}
use Rattle.answer.specs.declared.refusals.Refusal.{Refusal}
use Rattle.answer.specs.Numbers.{refusal_number}
use Rattle.laying.specs.declared.Writer.{Writer}
use Rattle.writer.specs.declared.Written.{Written}
use Rattle.writer.specs.declared.Written.TheVariants as code

-- The work is finished, or the group is closed, or the call is refused, with the state as given.
pub data WriteAnswer : Type 0 where
  Finished : Writer → WriteAnswer
  Closed : Writer → (number entries taken : ℕ) → WriteAnswer
  Refused : Writer → (refusal : ℕ) → WriteAnswer

-- What a call did that is not refused, as that.
abbrev pub written : Written → WriteAnswer
written (code.Finished w) = Finished w
written (code.Closed w number entries taken) = Closed w number entries taken

-- The code's own result of a call on the given state, as that.
abbrev pub answer_of : Writer → Result Written Refusal → WriteAnswer
answer_of given (Ok w) = written w
answer_of given (Err r) = Refused given (refusal_number r)
