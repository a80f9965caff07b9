-- Source document 001, 18.3.10: the eight bytes of Tape Alert flags, flag by flag, and what making and reading them answer.
-- Assumes nothing.
use Rattle.std.specs.Prelude.{ℕ, zero, suc, ◌+◌, ◌-◌, ◌/◌, ◌%◌, ◌^◌, ◌≤◌, ◌<◌, ◌≡◌, List, [], ◌∷◌, ◌++◌, Bool, true, false, cond, eqb, length, get_or, Result, Ok, Err}
use Rattle.numbers.specs.Numbers.{number_at, bytes_of}
use Rattle.answer.specs.Answer.{Told}
use Rattle.answer.specs.Answer as answer
use Rattle.answer.specs.Answer.{if_accepted}
use Rattle.answer.specs.declared.refusals.LoaderRefusal.{LoaderRefusal}
use Rattle.answer.specs.Numbers.{loader_number}
use Rattle.alert.specs.declared.Counted as code

-- What making and reading answer: what is counted, with flags 1 to 32 and 33 to 64, or the number of the refusal.
pub data AlertAnswer : Type 0 where
  Counted : (raised lowest high low : ℕ) → AlertAnswer
  Refused : (refusal : ℕ) → AlertAnswer

-- What a result of the code answers.
abbrev pub answered : Result code.Counted LoaderRefusal → AlertAnswer
answered (Ok c) = Counted c.raised c.lowest c.high c.low
answered (Err refusal) = Refused (loader_number refusal)

-- 18.3.10, table 24: "Tape Alert Flags 8"
abbrev pub alert_length : ℕ
alert_length = 8

-- "The Tape Alert Flags are numbered from 1 to 64"
abbrev pub flag_count : ℕ
flag_count = 64

-- "flag 1 shall be specified by bit 7 of Byte 0 of this field and flag 64 shall be specified by bit 0 of Byte 7"
abbrev pub byte_of : (flag : ℕ) → ℕ
byte_of flag = (flag - 1) / 8

abbrev pub bit_of : (flag : ℕ) → ℕ
bit_of flag = 7 - (flag - 1) % 8

-- Whether a flag is raised: its bit of its byte.
unfoldable pub raised : (alert : List ℕ) (flag : ℕ) → Bool
raised alert flag = eqb (get_or alert (byte_of flag) 0 / 2 ^ bit_of flag % 2) 1

-- How many of n flags from this one on are raised, one by one.
unfoldable pub count_from : (up : ℕ → Bool) (flag n : ℕ) → ℕ
count_from up flag zero = 0
count_from up flag (suc n) = cond (up flag) 1 0 + count_from up (suc flag) n

-- The lowest of n flags from this one on that is raised, 0 for none.
unfoldable pub lowest_from : (up : ℕ → Bool) (flag n : ℕ) → ℕ
lowest_from up flag zero = 0
lowest_from up flag (suc n) = cond (up flag) flag (lowest_from up (suc flag) n)

-- 2026-11: "the number of raised flags and the lowest raised one, or none"
abbrev pub raised_count : List ℕ → ℕ
raised_count alert = count_from (raised alert) 1 flag_count

abbrev pub lowest_raised : List ℕ → ℕ
lowest_raised alert = lowest_from (raised alert) 1 flag_count

-- The raised ones of n flags from this one on, in their order, and of all 64.
unfoldable pub raised_from : (up : ℕ → Bool) (flag n : ℕ) → List ℕ
raised_from up flag zero = []
raised_from up flag (suc n) = cond (up flag) (flag ∷ raised_from up (suc flag) n) (raised_from up (suc flag) n)

abbrev pub raised_flags : List ℕ → List ℕ
raised_flags alert = raised_from (raised alert) 1 flag_count

-- What a count and a lowest flag say of eight bytes, 0 for none: over flags 1 to 64, one by one.
pub record Says (alert : List ℕ) (count lowest : ℕ) : Type 0 where
  pub how_many : count ≡ length (raised_flags alert)
  pub none : lowest ≡ 0 → (flag : ℕ) → 1 ≤ flag → flag ≤ 64 → raised alert flag ≡ false
  pub is_flag : (lowest ≡ 0 → ⊥) → (1 ≤ lowest) × (lowest ≤ 64)
  pub is_raised : (lowest ≡ 0 → ⊥) → raised alert lowest ≡ true
  pub none_below : (flag : ℕ) → 1 ≤ flag → flag < lowest → raised alert flag ≡ false

-- The bytes of flags 1 to 32 and of flags 33 to 64, the lowest flag of each in the top bit.
unfoldable pub alert_of : (high low : ℕ) → List ℕ
alert_of high low = bytes_of 4 high ++ bytes_of 4 low

-- What is told of eight bytes, with the two numbers that they are.
abbrev pub counted_in : (alert : List ℕ) (high low : ℕ) → AlertAnswer
counted_in alert high low = Counted (raised_count alert) (lowest_raised alert) high low

-- 60: "wrong length". Nothing else of the flags is refused.
unfoldable pub make_call : (high low length : ℕ) → AlertAnswer
make_call high low length = cond (eqb length alert_length) (counted_in (alert_of high low) high low) (Refused 60)

unfoldable pub read_call : List ℕ → AlertAnswer
read_call alert = cond (eqb (length alert) alert_length) (counted_in alert (number_at 4 alert 0) (number_at 4 alert 4)) (Refused 60)

-- What the firmware is told of each case: how many are raised, the lowest, flags 1 to 32, flags 33 to 64.
abbrev pub told : AlertAnswer → Told
told (Counted count lowest high low) = answer.Accepted count lowest high low
told (Refused refusal) = answer.RefusedAt refusal 0

-- Making the flags' bytes: what it answers, and what it leaves in their slice in place of `old`.
pub record Makes (high low : ℕ) (old : List ℕ) (a : AlertAnswer) (alert : List ℕ) : Type 0 where
  pub answer : a ≡ make_call high low (length old)
  pub alert_left : alert ≡ if_accepted (told a) (alert_of high low) old
