-- Change request 2026-07: "the rule is broken there by those numbers". When the numbers of a reason are true of a rule, with no word of
-- how they are found.
-- Assumes nothing.
use Rattle.std.specs.Prelude.{ℕ, ◌+◌, ◌-◌, ◌/◌, ◌%◌, ◌^◌, ◌≤◌, Bool, true, false, ◌≡◌, eqb}
use Rattle.numbers.specs.Numbers.{between}
use Rattle.group.specs.declared.Entry.{Entry}
use Rattle.group.specs.declared.Kind.{Kind}
use Rattle.group.specs.Flags.{Meaning}
use Rattle.std.specs.Prelude.{None}
use Rattle.group.specs.Sizes.{longest_record}
use Rattle.group.specs.Flags.{kind_number, meaning_of, b4_of}
use Rattle.entry.specs.Rules.{b4_kept, follow_kept}
use Rattle.reasons.specs.declared.Reason.{Reason}
use Rattle.reasons.specs.Rules.{Rule, Stop, keeps}
use Rattle.reasons.specs.Rules.Rule.{flag_known, b4_stays, kind_follows, part_not_empty, separator_value, record_length, total_sum, data_within, skip_count, total_in_time}
use Rattle.reasons.specs.Reasons.{b4_found, kind_found}

-- A number is from the least to the greatest allowed.
abbrev pub allowed : Reason → ℕ → Bool
allowed r x = between r.least x r.greatest

-- A kind, by its number, is among the permitted kinds.
abbrev pub is_permitted : Reason → (kind : ℕ) → Bool
is_permitted r kind = eqb (r.kinds / 2 ^ (kind - 1) % 2) 1

-- What is found at an entry: "for 8 the flag, 9 bit b4 .., 10 the kind, 12 the data's end .., else the .. count at fault".
abbrev pub found_at : Rule → Stop → Entry → ℕ
found_at flag_known at e = e.flag
found_at b4_stays at e = b4_found (b4_of e.flag)
found_at kind_follows at e = kind_found (meaning_of e.flag)
found_at part_not_empty at e = e.count
found_at separator_value at e = e.count
found_at record_length at e = e.count
found_at total_sum at e = e.count
found_at data_within at e = at.here.reached + e.count
found_at skip_count at e = e.count
found_at total_in_time at e = e.count

-- "the rule is broken there by those numbers": the flag has no meaning, the kind is not permitted, the number is not allowed.
abbrev pub BrokenBy : Rule → Reason → Type 0
BrokenBy flag_known r = meaning_of r.found ≡ None
BrokenBy b4_stays r = allowed r r.found ≡ false
BrokenBy kind_follows r = is_permitted r r.found ≡ false
BrokenBy part_not_empty r = allowed r r.found ≡ false
BrokenBy separator_value r = allowed r r.found ≡ false
BrokenBy record_length r = allowed r r.found ≡ false
BrokenBy total_sum r = allowed r r.found ≡ false
BrokenBy data_within r = allowed r r.found ≡ false
BrokenBy skip_count r = allowed r r.found ≡ false
BrokenBy total_in_time r = allowed r r.found ≡ false

-- The number that is told of a count: itself, and the data's end for 12.
abbrev pub told_of : Rule → Stop → (count : ℕ) → ℕ
told_of flag_known at count = count
told_of b4_stays at count = count
told_of kind_follows at count = count
told_of part_not_empty at count = count
told_of separator_value at count = count
told_of record_length at count = count
told_of total_sum at count = count
told_of data_within at count = at.here.reached + count
told_of skip_count at count = count
told_of total_in_time at count = count

-- Every count that is allowed keeps the rule; and no other of 1 to 16,777,215 does. (21 allows from 1: a part of 0 breaks 19.)
pub record CountsAllowed (rule : Rule) (at : Stop) (m : Meaning) (r : Reason) : Type 0 where
  pub inside : (count : ℕ) → allowed r (told_of rule at count) ≡ true → keeps rule at m count ≡ true
  pub no_other : (count : ℕ) → 1 ≤ count → count ≤ longest_record → keeps rule at m count ≡ true → allowed r (told_of rule at count) ≡ true

-- What would have kept the rule in its place: a b4, a kind or a count just where it is allowed. A flag has no limits.
abbrev pub AllowedBy : Rule → Stop → Meaning → Reason → Type 0
AllowedBy flag_known at m r = Unit {0}
AllowedBy b4_stays at m r = (b4 : Bool) → allowed r (b4_found b4) ≡ b4_kept at.here.warned b4
AllowedBy kind_follows at m r = (k : Kind) → is_permitted r (kind_number k) ≡ follow_kept at.here.stand k at.last
AllowedBy part_not_empty at m r = CountsAllowed part_not_empty at m r
AllowedBy separator_value at m r = CountsAllowed separator_value at m r
AllowedBy record_length at m r = CountsAllowed record_length at m r
AllowedBy total_sum at m r = CountsAllowed total_sum at m r
AllowedBy data_within at m r = CountsAllowed data_within at m r
AllowedBy skip_count at m r = CountsAllowed skip_count at m r
AllowedBy total_in_time at m r = CountsAllowed total_in_time at m r
