-- Documents 01 and 02, "Numbers the firmware sees": the refusal that a number tells.
-- Assumes nothing.
use Rattle.std.specs.Prelude.{ℕ, ◌≡◌, Result, MatchResult}
use Rattle.answer.specs.declared.refusals.Refusal.{Refusal}
use Rattle.answer.specs.declared.refusals.NoRefusal.{NoRefusal}
use Rattle.answer.specs.Numbers.{refusal_number}

-- The refusal of groups that has a number, or that none has it.
abbrev pub RefusalTried : ℕ → Result Refusal NoRefusal → Type 0
RefusalTried n r = MatchResult r (λ refusal. n ≡ refusal_number refusal) (λ _. (refusal : Refusal) → n ≡ refusal_number refusal → ⊥)
