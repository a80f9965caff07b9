-- A number that no refusal of groups has is that of no rule either: its reason is zeros.
-- Assumes nothing.
use mathlib.Core.Path.{◌≡◌}
use mathlib.Core.Bool.{false}
use Prim.Native.Nat.{ℕ}
use borrow.Author.Tests.{ne_eqb}
use lib.Dec.{eqb}
use Rattle.answer.specs.declared.refusals.Refusal.{Refusal}
use Rattle.answer.specs.declared.refusals.Refusal.TheVariants.{Group, Number, Entries, Rows, Flag, B4, Follow, Room, Skip, ZeroPart, AboveOne, TooLong, TotalDiffers, OwedEarly}
use Rattle.answer.specs.Numbers.{refusal_number}
use Rattle.group.specs.declared.Entry.{Entry}
use Rattle.reasons.specs.Rules.{Stop}
use Rattle.reasons.specs.Reasons.{no_reason, call_reason, entry_reason}

module _ (n : ℕ) (none : (refusal : Refusal) → n ≡ refusal_number refusal → ⊥) where
  other : (refusal : Refusal) → eqb n (refusal_number refusal) ≡ false
  other refusal = ne_eqb n (refusal_number refusal) (none refusal)

  pub no_call : (size next length number entries bytes : ℕ) → call_reason n size next length number entries bytes ≡ no_reason
  unfolding call_reason
  no_call size next length number entries bytes = rw (other Group, other Number, other Entries, other Rows)

  pub no_entry : (at : Stop) (e : Entry) → entry_reason n at e ≡ no_reason
  unfolding entry_reason
  no_entry at e =
      rw (other Flag, other B4, other Follow, other ZeroPart, other AboveOne, other TooLong, other TotalDiffers, other Room, other Skip, other OwedEarly)
