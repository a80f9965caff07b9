-- `beginning_among` meets its contract: what the rows that are left give is what all of them give. Assumes nothing.
use mathlib.Core.Path.{◌≡◌, sym, ap, ◌∙◌}
use native.Mathlib.Omega.{arith}
use Rattle.std.proofs.Common.{Some, ℕ, ◌-◌, ◌/◌, length}
use Rattle.seek.specs.Find.{begins, beginning}
use Rattle.seek.proofs.Turns.{none_left, passes, counts, begins_here}
use Rattle.seek.proofs.beginning_among.Goals as goal
use Rattle.seek.proofs.beginning_among.Goals.{then-begins+else-still-eq0, else-begins}

pub loop-row-init : goal.loop-row-init
loop-row-init c =
    let rows = c.args.rows.now in
    let all : length rows / 12 - 0 ≡ length rows / 12 = omega arith in
    ap (λ (n : ℕ). beginning rows 0 n c.args.b) all

pub returns-then-still-eq0 : goal.returns-then-still-eq0
returns-then-still-eq0 c =
    ap Some c.number_at-then-still-eq0.ensures
    ∙ begins_here _ _ _ _ c.loop-row-test.true (ap begins (sym c.number_at.ensures) ∙ sym c.begins.ensures ∙ c.if-begins.true) c.if-still-eq0.true
    ∙ c.loop-row.invariant

pub loop-row-preserved : goal.loop-row-preserved
loop-row-preserved c = elim c.if-begins.branch [
  | then-begins+else-still-eq0 w ↦
      rw w.still-is
      (sym (counts _ _ _ _ c.loop-row-test.true (ap begins (sym c.number_at.ensures) ∙ sym c.begins.ensures ∙ w.if-begins.true) w.if-still-eq0.false) ∙ c.loop-row.invariant)
  | else-begins w ↦
      rw w.still-is
      (sym (passes _ _ _ _ c.loop-row-test.true (ap begins (sym c.number_at.ensures) ∙ sym c.begins.ensures ∙ w.if-begins.false)) ∙ c.loop-row.invariant)
]

pub returns : goal.returns
returns c = none_left _ _ _ _ c.loop-row-test.false ∙ c.loop-row.invariant
