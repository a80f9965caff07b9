-- What a sound run and an accepted start mean as facts on numbers, and back; what a start refuses first.
-- Assumes nothing.
use mathlib.Core.Path.{◌≡◌}
use mathlib.Core.Bool.{true, false, not, ◌&&◌}
use Prim.Native.Nat.{ℕ, ◌-◌, ◌≤◌}
use native.Mathlib.Omega.{arith}
use borrow.Author.Tests.{not-false, eqb-true}
use Rattle.group.specs.declared.Phase.{Phase}
use Rattle.group.specs.declared.Phase.TheVariants.{Free, Inside, Owed}
use Rattle.group.specs.Sizes.{longest_record, size_kept, number_kept}
use Rattle.group.specs.State.{next_kept, sum_kept, run_sound, start_refusal}
use Rattle.numbers.proofs.Tests.{both, and, within, is_within, passed}

-- What a sound run says of its numbers.
pub record Run (size next : ℕ) (phase : Phase) (sum : ℕ) : Type 0 where
  pub least : 64 ≤ size
  pub most : size ≤ 126632
  pub some : 1 ≤ next
  pub number : next ≤ 65536
  pub kept : sum_kept phase sum ≡ true

pub run_of_sound : (size next : ℕ) (phase : Phase) (sum : ℕ) → run_sound size next phase sum ≡ true → Run size next phase sum
unfolding run_sound
run_of_sound size next phase sum e =
    let a = both (size_kept size) (next_kept next && sum_kept phase sum) e in
    let b = both (next_kept next) (sum_kept phase sum) a.1 in
    let s = within 64 size 126632 a.0 in
    let n = within 1 next 65536 b.0 in
    record { least = s.0; most = s.1; some = n.0; number = n.1; kept = b.1 }

pub sound_of_run : (size next : ℕ) (phase : Phase) (sum : ℕ) → Run size next phase sum → run_sound size next phase sum ≡ true
unfolding run_sound
sound_of_run size next phase sum r =
    and (is_within r.least r.most) (and (is_within r.some r.number) r.kept)

-- A sum that is kept has room in 24 bits, whatever the phase.
pub sum_small : (phase : Phase) (sum : ℕ) → sum_kept phase sum ≡ true → sum ≤ longest_record
sum_small Free sum e = omega (arith, eqb-true sum 0 e)
sum_small Inside sum e = omega (arith, within 1 sum (longest_record - 1) e)
sum_small Owed sum e = omega (arith, within 2 sum longest_record e)

-- "Order: start 2, 3.": the first test that fails gives its number, whatever the other says.
module _ (size first : ℕ) where
  pub two : size_kept size ≡ false → 2 ≡ start_refusal size first
  unfolding start_refusal
  two a = rw a

  pub three : size_kept size ≡ true → number_kept first ≡ false → 3 ≡ start_refusal size first
  unfolding start_refusal
  three a b = rw (a, b)

  pub starts : size_kept size ≡ true → number_kept first ≡ true → 0 ≡ start_refusal size first
  unfolding start_refusal
  starts a b = rw (a, b)

-- What an accepted start says of its numbers.
pub started : (size first : ℕ) → start_refusal size first ≡ 0 → (size_kept size ≡ true) × (number_kept first ≡ true)
unfolding start_refusal
started size first e =
    let a = passed (not (size_kept size)) 1 e in
    let b = passed (not (number_kept first)) 2 a.1 in
    (not-false (size_kept size) a.0, not-false (number_kept first) b.0)
