-- Change request 2026-07: the rules of one entry one by one, each with its number, in the order in which reading judges them. Whether
-- a rule is kept is said in the reader's own words.
-- Assumes nothing.
use Rattle.std.specs.Prelude.{ℕ, List, [], ◌∷◌, Bool, true, false, cond, not}
use Rattle.group.specs.declared.Kind.{Kind}
use Rattle.group.specs.Flags.{Meaning}
use Rattle.std.specs.Prelude.{Some, None}
use Rattle.counts.specs.Counts.{zero_part, above_one, too_long, differs}
use Rattle.entry.specs.declared.Cursor.{Cursor}
use Rattle.entry.specs.Rules.{b4_kept, follow_kept, room_kept, skip_kept, owed_kept}

pub data Rule : Type 0 where
  flag_known b4_stays kind_follows part_not_empty separator_value record_length total_sum data_within skip_count total_in_time : Rule

-- The number of its refusal.
abbrev pub rule_number : Rule → ℕ
rule_number flag_known = 8
rule_number b4_stays = 9
rule_number kind_follows = 10
rule_number part_not_empty = 19
rule_number separator_value = 20
rule_number record_length = 21
rule_number total_sum = 22
rule_number data_within = 12
rule_number skip_count = 13
rule_number total_in_time = 23

-- "at one entry 8 to 13 in number order", 19 to 22 in the place of 11, 23 "after 13".
abbrev pub in_order : List Rule
in_order =
    flag_known ∷ b4_stays ∷ kind_follows ∷ part_not_empty ∷ separator_value ∷ record_length ∷ total_sum ∷ data_within ∷ skip_count ∷ total_in_time ∷ []

-- Where an entry stands: L, L − 32 − 4n, whether it is entry n, and how far the scan has come.
pub record Stop : Type 0 where
  pub size : ℕ
  pub limit : ℕ
  pub last : Bool
  pub here : Cursor

-- Whether an entry of a kind, with this b4 and count, keeps a rule.
abbrev pub kind_keeps : Rule → Stop → Kind → (warned : Bool) (count : ℕ) → Bool
kind_keeps flag_known at k warned count = true
kind_keeps b4_stays at k warned count = b4_kept at.here.warned warned
kind_keeps kind_follows at k warned count = follow_kept at.here.stand k at.last
kind_keeps part_not_empty at k warned count = not (zero_part k count)
kind_keeps separator_value at k warned count = not (above_one k count)
kind_keeps record_length at k warned count = not (too_long k at.here.sum count)
kind_keeps total_sum at k warned count = not (differs k at.here.sum count)
kind_keeps data_within at k warned count = room_kept k at.here.reached count at.limit
kind_keeps skip_count at k warned count = skip_kept k at.here.reached count at.size
kind_keeps total_in_time at k warned count = owed_kept k at.here.stand count

-- "unknown flag" is the one rule that a flag without a meaning breaks; it has no kind for the others to be asked of.
abbrev pub unknown_keeps : Rule → Bool
unknown_keeps flag_known = false
unknown_keeps b4_stays = true
unknown_keeps kind_follows = true
unknown_keeps part_not_empty = true
unknown_keeps separator_value = true
unknown_keeps record_length = true
unknown_keeps total_sum = true
unknown_keeps data_within = true
unknown_keeps skip_count = true
unknown_keeps total_in_time = true

-- Whether an entry keeps a rule.
abbrev pub keeps : Rule → Stop → Meaning → (count : ℕ) → Bool
keeps rule at None count = unknown_keeps rule
keeps rule at (Some (k, warned)) count = kind_keeps rule at k warned count

-- The first of some rules that an entry breaks: its number, 0 where it keeps them all.
unfoldable pub first_broken : List Rule → Stop → Meaning → (count : ℕ) → ℕ
first_broken [] at m count = 0
first_broken (rule ∷ rules) at m count = cond (keeps rule at m count) (first_broken rules at m count) (rule_number rule)
