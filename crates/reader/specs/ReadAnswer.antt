-- Document 01, "Reading": what a read answers, and what a result of the code says of it.
-- Assumes nothing.
use Rattle.std.specs.Prelude.{ℕ, Result, Ok, Err}
use Rattle.answer.specs.declared.Refused as declared
use Rattle.answer.specs.declared.refusals.Refusal.{Refusal}
use Rattle.answer.specs.Numbers.{refusal_number}
use Rattle.reader.specs.declared.Reader.{Reader}
use Rattle.reader.specs.declared.Read.{Read}
use Rattle.reader.specs.declared.Read.TheVariants as read

-- Accepted with the state after the group, a repeat of the group that was accepted last, or refused. At a repeat and a refusal the state
-- is as given.
pub data ReadAnswer : Type 0 where
  Accepted : Reader → ReadAnswer
  Repeated : Reader → ReadAnswer
  Refused : Reader → (refusal place : ℕ) → ReadAnswer

-- In the given state.
abbrev pub answer_of : Reader → Result Read (declared.Refused Refusal) → ReadAnswer
answer_of given (Ok (read.Accepted s)) = Accepted s
answer_of given (Ok read.Repeated) = Repeated given
answer_of given (Err e) = Refused given (refusal_number e.refusal) e.place
