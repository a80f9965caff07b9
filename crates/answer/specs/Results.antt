-- Documents 01 and 02, "Numbers the firmware sees": what a result of the code tells.
-- Assumes nothing.
use Rattle.std.specs.Prelude.{ℕ, Result, Ok, Err}
use Rattle.answer.specs.declared.Refused.{Refused}
use Rattle.answer.specs.declared.Outcome.{Outcome}
use Rattle.answer.specs.Answer as answer

-- The number of a refusal, "0 if accepted".
abbrev pub number_of : {A R : Type 0} → (R → ℕ) → Result A R → ℕ
number_of number (Ok x) = 0
number_of number (Err r) = number r

abbrev pub refused : {R : Type 0} → R → (place : ℕ) → Refused R
refused r place = record { refusal = r; place = place }

-- What a call tells, by its result.
abbrev pub told_of : {R : Type 0} → (R → ℕ) → Result Outcome (Refused R) → answer.Told
told_of number (Ok o) = answer.Accepted o.outcome o.number o.entries o.taken
told_of number (Err e) = answer.RefusedAt (number e.refusal) e.place

-- What a call tells that has no more to tell than that it is accepted: "0 if accepted", and no place.
abbrev pub plainly_told : {A R : Type 0} → (R → ℕ) → Result A R → answer.Told
plainly_told number (Ok x) = answer.accepted
plainly_told number (Err r) = answer.RefusedAt (number r) 0
