-- `is_hopeless` meets its contract. Assumes nothing.
use mathlib.Core.Path.{◌≡◌, refl, sym, ap₂, ◌∙◌}
use Prim.Native.Nat.{ℕ, ◌≤◌}
use native.Mathlib.Omega.{arith}
use Rattle.column.specs.declared.Wrong.{Wrong}
use Rattle.column.specs.declared.Wrong.TheVariants.{NoRow, Row, Hopeless}
use Rattle.column.specs.Column.{column, none_wrong, wrong_row}
use Rattle.column.specs.Wrong.{IsWrong}
use Rattle.column.proofs.Judging.{beyond, within}
use Rattle.restoring.proofs.is_hopeless.Goals as goal

pub returns-in-Hopeless : goal.returns-in-Hopeless
returns-in-Hopeless c =
    let s = c.of.ensures in
    rw (beyond (column c.args.rows.now c.args.n c.args.c) _ (sym c.in-Hopeless.ensures ∙ ap₂ wrong_row s.0 s.1) (omega arith))

mended_by : (w : Wrong) (row : ℕ) → IsWrong w row → (w ≡ Hopeless → ⊥) → row ≤ none_wrong
mended_by NoRow row e d = omega arith
mended_by (Row i) row e d = omega arith
mended_by Hopeless row e d = absurd (d refl)

pub returns-in_default : goal.returns-in_default
returns-in_default c =
    let s = c.of.ensures in
    rw (within (column c.args.rows.now c.args.n c.args.c) _ (ap₂ wrong_row s.0 s.1) (mended_by c.wrong_row.result _ c.wrong_row.ensures c.in_default.not-Hopeless))
