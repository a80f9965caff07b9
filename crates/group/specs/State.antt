-- Document 01, "Reading": what a reader's and a writer's state have in common, and what a start refuses.
-- Assumes nothing.
use Rattle.std.specs.Prelude.{ℕ, ◌+◌, ◌-◌, Bool, cond, not, ◌&&◌, eqb}
use Rattle.numbers.specs.Numbers.{between}
use Rattle.group.specs.declared.Phase.{Phase}
use Rattle.group.specs.declared.Phase.TheVariants.{Free, Inside, Owed}
use Rattle.group.specs.Sizes.{longest_record, last_number, size_kept, number_kept}

-- "the next number (1 to 65,536)"
abbrev pub next_kept : ℕ → Bool
next_kept next = between 1 next (last_number + 1)

-- "the sum is 0 when free, 1 to 16,777,214 inside, 2 to 16,777,215 owed"
abbrev pub sum_kept : Phase → ℕ → Bool
sum_kept Free sum = eqb sum 0
sum_kept Inside sum = between 1 sum (longest_record - 1)
sum_kept Owed sum = between 2 sum longest_record

-- "It is sound if L and the number are in range and the sum is .."
unfoldable pub run_sound : (size next : ℕ) → Phase → (sum : ℕ) → Bool
run_sound size next phase sum = size_kept size && (next_kept next && sum_kept phase sum)

-- "Order: start 2, 3." The number of a start's refusal, 0 if it is accepted.
unfoldable pub start_refusal : ℕ → ℕ → ℕ
start_refusal size first = cond (not (size_kept size)) 2 (cond (not (number_kept first)) 3 0)
