-- Document 01, "Numbers the firmware sees" and "What the box holds": the six numbers that every call tells, the one that it
-- returns, and what it leaves in a slice that it may write.
-- Assumes nothing.
use Rattle.std.specs.Prelude.{ℕ, List, [], ◌∷◌}

-- What every call tells: that it is accepted, with its outcome and three numbers more, or that it is refused, with the number of the
-- refusal and the place.
pub data Told : Type 0 where
  Accepted : (outcome number entries taken : ℕ) → Told
  RefusedAt : (refusal place : ℕ) → Told

-- An accepted call that has no more to tell.
abbrev pub accepted : Told
accepted = Accepted 0 0 0 0

-- The six numbers, in their order: refusal, place, outcome, group number, entry count, bytes taken. What the last four are
-- where no group is written or read, the room's own definitions say.
abbrev pub numbers_told : Told → List ℕ
numbers_told (Accepted outcome number entries taken) = 0 ∷ 0 ∷ outcome ∷ number ∷ entries ∷ taken ∷ []
numbers_told (RefusedAt refusal place) = refusal ∷ place ∷ 0 ∷ 0 ∷ 0 ∷ 0 ∷ []

-- "Each call returns the number, 0 if accepted."
abbrev pub refusal_told : Told → ℕ
refusal_told (Accepted outcome number entries taken) = 0
refusal_told (RefusedAt refusal place) = refusal

-- "nothing lent changes" where a call is refused: the new where it is accepted, else the old.
abbrev pub if_accepted : {A : Type 0} → Told → (new old : A) → A
if_accepted (Accepted outcome number entries taken) new old = new
if_accepted (RefusedAt refusal place) new old = old
