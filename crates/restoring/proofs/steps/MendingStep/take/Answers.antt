-- `Mending` meets its contract as a step. Assumes nothing.
use mathlib.Core.Path.{◌≡◌, refl, sym, ap₂, ◌∙◌}
use Prim.Native.Nat.{ℕ, ◌<◌}
use native.Mathlib.Omega.{arith}
use Rattle.column.specs.declared.Wrong.{Wrong}
use Rattle.column.specs.declared.Wrong.TheVariants.{NoRow, Row, Hopeless}
use Rattle.column.specs.Column.{none_wrong, none_mends, wrong_row}
use Rattle.column.specs.Wrong.{IsWrong}
use Rattle.restoring.proofs.Places as places
use Rattle.restoring.proofs.steps.MendingStep.take.Goals as goal

pub returns-in-Row : goal.returns-in-Row
returns-in-Row c =
    let a = c.args in
    let sums = c.of-s in
    places.turn_mend a.rows.now a.n a.c c.requires.there.1 c.requires.there.0 _ c.in-Row.i sums.result.first
    c.in-Row.ensures.1 sums.ensures.0 (sym c.in-Row.ensures.0 ∙ ap₂ wrong_row sums.ensures.0 sums.ensures.1)
    (places.stored a.rows.now a.n c.in-Row.i a.c sums.result.first c.place.result c.place.ensures.0)

no_row : (w : Wrong) (row : ℕ) → IsWrong w row → ((i : ℕ) → w ≡ Row i → ⊥) → row < none_mends → row ≡ none_wrong
no_row NoRow row e d h = e
no_row (Row i) row e d h = absurd (d i refl)
no_row Hopeless row e d h = absurd (omega arith)

pub returns-in_default : goal.returns-in_default
returns-in_default c =
    let a = c.args in
    let sums = c.of-s in
    let e = ap₂ wrong_row sums.ensures.0 sums.ensures.1 in
    places.turn_none a.rows.now a.n a.c c.requires.there.1 c.requires.there.0
    (sym e ∙ no_row c.wrong_row.result _ c.wrong_row.ensures c.in_default.not-Row (rw e c.requires.may))
