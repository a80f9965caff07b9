-- `Sums::of` meets its contract. Assumes nothing.
use mathlib.Core.Path.{◌≡◌, refl, ap, ◌∙◌}
use Prim.Native.Nat.{ℕ}
use native.Mathlib.Omega.{arith}
use Rattle.column.specs.Column.{row_count, total, first_sum, second_sum}
use Rattle.column.proofs.Steps.{horner, horner_second, first_step, second_step}
use Rattle.column.proofs.Sums.of.Goals as goal

pub loop-i-init : goal.loop-i-init
unfolding total horner
loop-i-init c = record { first = refl; second = refl }

pub loop-i-preserved : goal.loop-i-preserved
loop-i-preserved c =
    let l = c.loop-i in
    let a = c.args in
    let p = c.place in
    record {
      first = first_step a.rows.now a.n a.c l.i l.first p.result l.invariant.first p.ensures.0;
      second = second_step a.rows.now a.n a.c l.i l.second c.times_alpha.result p.result l.invariant.second c.times_alpha.ensures p.ensures.0;
    }

ends : (col : ℕ → ℕ) (i f s : ℕ) → i ≡ row_count → f ≡ total col i → s ≡ horner col i → (f ≡ first_sum col) × (s ≡ second_sum col)
unfolding first_sum
ends col i f s e p q = (p ∙ ap (total col) e, q ∙ ap (horner col) e ∙ horner_second col)

pub returns : goal.returns
returns c = ends _ c.loop-i.i c.loop-i.first c.loop-i.second (omega arith) c.loop-i.invariant.first c.loop-i.invariant.second
