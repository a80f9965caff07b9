-- Serves contracts and proofs, and says nothing of the format: a flag that has a meaning, and an entry as one number.
-- Assumes nothing.
use Rattle.std.specs.Prelude.{ℕ, ◌+◌, ◌*◌, ◌<◌, ◌≡◌, Bool, Result, MatchResult, Some}
use Rattle.group.specs.declared.Entry.{Entry}
use Rattle.group.specs.declared.Kind.{Kind}
use Rattle.group.specs.declared.flags.NoKind.{NoKind}
use Rattle.group.specs.Flags.{kind_number, meaning_of}

-- A flag that some kind has.
pub record Meant (flag : ℕ) : Type 0 where
  pub kind : Kind
  pub warned : Bool
  pub is : meaning_of flag ≡ Some (kind, warned)

-- The kind that has a number, or that no kind has it.
abbrev pub Numbered : ℕ → Result Kind NoKind → Type 0
Numbered n r = MatchResult r (λ k. n ≡ kind_number k) (λ _. (k : Kind) → n ≡ kind_number k → ⊥)

-- An entry as one number: its flag above its count, which three bytes hold.
pub record Word (e : Entry) (n : ℕ) : Type 0 where
  pub is : n ≡ e.flag * 16777216 + e.count
  pub small : e.count < 16777216
