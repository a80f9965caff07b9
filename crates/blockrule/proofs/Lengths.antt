-- The flags whose entries tell the length of a whole record: four of 256, by one computation.
-- Assumes nothing.
use Rattle.std.proofs.Common.{◌≡◌, ℕ, ◌<◌, ◌||◌, eqb, refl}
use Rattle.std.proofs.lemmas.Bool.{agree_below_at}
use Rattle.group.specs.Flags.{meaning_of}
use Rattle.blockrule.specs.Rule.{is_length}

pub length_flags : (flag : ℕ) → flag < 256 → is_length (meaning_of flag) ≡ (eqb flag 1 || (eqb flag 9 || (eqb flag 99 || eqb flag 107)))
unfolding meaning_of
length_flags flag h =
    agree_below_at (λ (n : ℕ). is_length (meaning_of n)) (λ (n : ℕ). eqb n 1 || (eqb n 9 || (eqb n 99 || eqb n 107))) 256 flag refl h
