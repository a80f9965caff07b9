-- `fill_bytes` meets its contract: twelve bytes a turn. Assumes nothing.
use mathlib.Core.Path.{◌≡◌, refl, ap, ◌∙◌}
use mathlib.Core.List.{List, [], ◌∷◌}
use Prim.Native.Nat.{ℕ, ◌+◌, ◌*◌, ◌-◌, ◌≤◌, ◌<◌}
use native.Mathlib.Omega.{arith}
use lib.ListN.{length}
use Rattle.numbers.proofs.InBytes.{put_more}
use Rattle.numbers.specs.Numbers.{in_bytes}
use Rattle.group.specs.Sizes.{entry_offset}
use Rattle.numbers.specs.Store.{put}
use Rattle.group.specs.Entries.{entry_at}
use Rattle.group.specs.ForContracts.{Meant}
use Rattle.rows.proofs.Filling.{Filled, filled_turn, filled_reach, filled_done}
use Rattle.rows.proofs.bytes.fill_bytes.Statement.{statement}
use Rattle.rows.proofs.bytes.fill_bytes.Tie as tie

-- Where the loop stands among the numbers.
record Counts (size entries room top left i : ℕ) : Type 0 where
  stands : entry_offset size entries + 4 * left ≡ top
  within : top + 32 ≤ size
  index : i + 12 * left ≡ 12 * entries
  holds : 12 * entries ≤ room
  small : size ≤ 126632

onto : {size entries room top left i : ℕ} → Counts size entries room top left i → 0 < left → Counts size entries room (top - 4) (left - 1) (i + 12)
onto n h = omega arith

abbrev invariant-loop-left : tie.invariant-loop-left
invariant-loop-left group size entries rows₀ top₀ left₀ reached₀ i₀ rows top left reached i =
    (Counts size entries (length rows) top left i) × Filled in_bytes group rows₀ size entries rows top left reached i

abbrev decreases-loop-left : tie.decreases-loop-left
decreases-loop-left group size entries rows₀ top₀ left₀ reached₀ i₀ rows top left reached i = left

-- A row stored, and what is stored after it.
twelve : (rows after : List ℕ) (i a b c : ℕ) (more : List ℕ) → after ≡ put rows i (in_bytes (a ∷ b ∷ c ∷ [])) → put after (i + 12) (in_bytes more) ≡ put rows i (in_bytes (a ∷ b ∷ c ∷ more))
twelve rows after i a b c more e =
    ap (λ (l : List ℕ). put l (i + 12) (in_bytes more)) e ∙ put_more rows i (i + 12) (a ∷ b ∷ c ∷ []) more (omega arith)

none : in_bytes [] ≡ []
unfolding in_bytes
none = refl

reach : (c : tie.After-put_row-arg-1 invariant-loop-left decreases-loop-left) → (c.before.before.loop-left.reached ≤ entry_offset c.before.before.before.before.before.args.size c.before.before.before.before.before.args.entries) × Meant (entry_at c.before.before.before.before.before.args.group.now (c.before.before.loop-left.top - 4)).flag
reach c =
    let l = c.before.before.loop-left in
    filled_reach _ _ _ _ l.rows l.top l.left l.reached l.i _ c.before.loop-left-test.true refl l.invariant.1

loop-again : tie.Need-loop-left-preserved invariant-loop-left decreases-loop-left
loop-again c =
    let p = c.before.before.put_row-reached in
    let l = c.before.before.before.before.before.loop-left in
    let t = c.before.before.before.before.loop-left-test.true in (
      rw p.auto.rows (onto l.invariant.0 t),
      filled_turn in_bytes 12 _ _ _ _ l.rows _ l.top l.left l.reached l.i _ _ _ t refl refl p.ensures.0 p.auto.rows (λ more. twelve l.rows _ l.i _ _ _ more p.ensures.1) l.invariant.1,
    )

pub fill_bytes_spec : {M : Type 1} → statement M
fill_bytes_spec =
    tie.close
    (tie.spec
    invariant-loop-left
    decreases-loop-left
    (λ c. omega arith)
    (λ c. omega arith)
    (λ c. (omega arith, record { long = refl; kept = c.before.before.requires.1.0; same = refl }))
    (λ c. omega arith)
    (λ c. omega arith)
    (λ c. omega arith)
    (λ c κs. ((omega arith, omega arith), (omega (arith, (reach c).0), (reach c).1)))
    (λ c. omega arith)
    (λ c. omega arith)
    loop-again
    (λ c. c.before.loop-left.invariant.1.long)
    (λ c. let l = c.before.loop-left in filled_done in_bytes _ _ _ _ l.rows l.top l.left l.reached l.i none c.loop-left-test.false l.invariant.1))
