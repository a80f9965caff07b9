-- `fill` meets its contract: three numbers a turn. Assumes nothing.
use mathlib.Core.Path.{◌≡◌, refl, sym, ap, ◌∙◌}
use mathlib.Core.List.{List, [], ◌∷◌}
use Prim.Native.Nat.{ℕ, ◌+◌, ◌*◌, ◌-◌, ◌≤◌, ◌<◌}
use native.Mathlib.Omega.{arith}
use lib.ListN.{set, length-set}
use Rattle.numbers.specs.Store.{put}
use Rattle.numbers.proofs.Stores.{put_three, put_put}
use Rattle.group.specs.declared.Entry.{Entry}
use Rattle.group.specs.Sizes.{entry_offset}
use Rattle.group.specs.Entries.{entry_at}
use Rattle.group.specs.ForContracts.{Meant}
use Rattle.rows.proofs.Filling.{Filled, as_given, row_kind_lem, filled_turn, filled_at, filled_reach, filled_done}
use Rattle.rows.proofs.fill.Goals as goal

-- Three numbers stored, and what is stored after them.
three : (rows : List ℕ) (i a b c : ℕ) (more : List ℕ) → put (set (set (set rows i a) (i + 1) b) (i + 2) c) (i + 3) more ≡ put rows i (a ∷ b ∷ c ∷ more)
three rows i a b c more = ap (λ (l : List ℕ). put l (i + 3) more) (put_three rows i a b c) ∙ put_put rows i (a ∷ b ∷ c ∷ []) more

-- The place of entry k + 1.
below : (size k : ℕ) → size - 32 - 4 * (k + 1) ≡ size - 32 - 4 * k - 4
below size k = omega arith

is : (e : Entry) (group : List ℕ) (size k : ℕ) → e ≡ entry_at group (size - 32 - 4 * (k + 1)) → e ≡ entry_at group (size - 32 - 4 * k - 4)
is e group size k at = at ∙ ap (entry_at group) (below size k)

-- The data reached before it, and its flag.
reach : (group old : List ℕ) (size entries : ℕ) (rows : List ℕ) (k reached : ℕ) (e : Entry) → k < entries → e ≡ entry_at group (size - 32 - 4 * (k + 1))
    → Filled as_given group old size entries rows (size - 32 - 4 * k) (entries - k) reached (3 * k) → (reached ≤ entry_offset size entries) × Meant e.flag
reach group old size entries rows k reached e some at f = filled_reach _ _ _ _ rows _ _ reached _ e (omega (arith, some)) (is e group size k at) f

pub loop-k-init : goal.loop-k-init
loop-k-init c = filled_at (omega arith) (omega arith) (omega arith) (record { long = refl; kept = c.requires.within; same = refl })

pub reached_by-reached-requires-clause-meant : goal.reached_by-reached-requires-clause-meant
reached_by-reached-requires-clause-meant c =
    (reach _ _ _ _ c.loop-k.rows c.loop-k.k c.loop-k.reached _ c.loop-k-test.true c.entry_at-entry.ensures.0 c.loop-k.invariant).1

pub reached_by-reached-requires-clause-reached_le_longest_record : goal.reached_by-reached-requires-clause-reached_le_longest_record
reached_by-reached-requires-clause-reached_le_longest_record c =
    let r = reach _ _ _ _ c.loop-k.rows c.loop-k.k c.loop-k.reached _ c.loop-k-test.true c.entry_at-entry.ensures.0 c.loop-k.invariant in
    (omega (arith, r.0), omega (arith, c.entry_at-entry.ensures.1))

pub loop-k-preserved : goal.loop-k-preserved
loop-k-preserved c =
    let l = c.loop-k in
    let e = c.entry_at-entry in
    let r = reach _ _ _ _ l.rows l.k l.reached _ c.loop-k-test.true e.ensures.0 l.invariant in
    filled_at (sym (below c.args.size l.k)) (omega arith) (omega arith)
    (filled_turn as_given 3 _ _ _ _ l.rows _ _ _ l.reached _ e.result _ _ (omega (arith, c.loop-k-test.true)) (is _ _ _ l.k e.ensures.0)
    (row_kind_lem _ _ r.1 c.number_by_bits.ensures) c.reached_by-reached.ensures (simp length-set) (λ more. three l.rows (3 * l.k) _ _ _ more) l.invariant)

pub returns : goal.returns
returns c = filled_done as_given _ _ _ _ _ _ _ _ _ refl (omega (arith, c.loop-k-test.false)) c.loop-k.invariant
