-- Change request 2026-11: what the caller from C sees of an accepted call on a loader's memory: the numbers of the answer slice from
-- the third on.
-- Assumes nothing.
use Rattle.std.specs.Prelude.{◌≡◌, List, ℕ, ◌+◌, ◌<◌}
use Rattle.numbers.specs.Numbers.{field}
use Rattle.radio.specs.Search.{MessageAt}
use Rattle.slices.specs.Call.{Left}

-- The outcome: of Volume Information 0 for Type A, 1 for Type B; of the search 1 for found, 0 for none.
abbrev pub outcome_seen : Left → ℕ
outcome_seen o = field o.answer 2

-- Of the flags: "the number of raised flags and the lowest raised one, or none", flags 1 to 32, flags 33 to 64.
abbrev pub raised_seen : Left → ℕ
raised_seen o = field o.answer 2

abbrev pub lowest_seen : Left → ℕ
lowest_seen o = field o.answer 3

abbrev pub high_seen : Left → ℕ
high_seen o = field o.answer 4

abbrev pub low_seen : Left → ℕ
low_seen o = field o.answer 5

-- Of the search: the pattern's place, "and where the length byte stands".
abbrev pub pattern_seen : Left → ℕ
pattern_seen o = field o.answer 3

abbrev pub length_at_seen : Left → ℕ
length_at_seen o = field o.answer 4

-- "the first place where the pattern 00 B2 4D follows at least two zero bytes, and where the length byte stands, or that none does":
-- found exactly where some place begins a message, and it is the least.
pub record FirstSeen (received : List ℕ) (o : Left) : Type 0 where
  pub returns : o.refusal ≡ 0
  pub begins : outcome_seen o ≡ 1 → MessageAt received (pattern_seen o)
  pub length_at : outcome_seen o ≡ 1 → length_at_seen o ≡ pattern_seen o + 3
  pub least : outcome_seen o ≡ 1 → (earlier : ℕ) → earlier < pattern_seen o → MessageAt received earlier → ⊥
  pub found : (place : ℕ) → MessageAt received place → outcome_seen o ≡ 1
  pub nowhere : ((place : ℕ) → MessageAt received place → ⊥) → outcome_seen o ≡ 0
