-- What an entry's fault is: the number of the first rule in the order that it breaks.
-- Assumes nothing.
use Prim.Native.Nat.{ℕ}
use mathlib.Core.Path.{◌≡◌, refl}
use mathlib.Core.Bool.{Bool, true, false, cond, not}
use Rattle.group.specs.Flags.{Meaning}
use Rattle.std.specs.Prelude.{Some, None}
use Rattle.counts.specs.Counts.{zero_part, above_one, too_long, differs}
use Rattle.entry.specs.Rules.{b4_kept, follow_kept, room_kept, skip_kept, owed_kept, or_else, entry_fault}
use Rattle.reasons.specs.Rules.{Stop, in_order, first_broken}

-- The tests one by one, whichever refuses first.
ordered : (b4 follow zero above long differs room skip owed : Bool) →
    cond (not b4) 9
    (cond (not follow) 10
    (or_else (cond zero 19 (cond above 20 (cond long 21 (cond differs 22 0))))
    (cond (not room) 12 (cond (not skip) 13 (cond (not owed) 23 0)))))
    ≡ cond b4
    (cond follow
    (cond (not zero) (cond (not above) (cond (not long) (cond (not differs) (cond room (cond skip (cond owed 0 23) 13) 12) 22) 21) 20) 19)
    10)
    9
ordered false b c d e f g h i = refl
ordered true false c d e f g h i = refl
ordered true true true d e f g h i = refl
ordered true true false true e f g h i = refl
ordered true true false false true f g h i = refl
ordered true true false false false true g h i = refl
ordered true true false false false false false h i = refl
ordered true true false false false false true false i = refl
ordered true true false false false false true true false = refl
ordered true true false false false false true true true = refl

pub in_order_lem : (at : Stop) (m : Meaning) (count : ℕ) → entry_fault at.size at.limit at.last at.here m count ≡ first_broken in_order at m count
unfolding entry_fault first_broken
in_order_lem at None count = refl
in_order_lem at (Some (k, warned)) count =
    ordered (b4_kept at.here.warned warned) (follow_kept at.here.stand k at.last) (zero_part k count) (above_one k count) (too_long k at.here.sum count)
    (differs k at.here.sum count) (room_kept k at.here.reached count at.limit) (skip_kept k at.here.reached count at.size) (owed_kept k at.here.stand count)
