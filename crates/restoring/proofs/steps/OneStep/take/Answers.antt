-- `One` meets its contract as a step. Assumes nothing.
use mathlib.Core.Path.{ap}
use Prim.Native.Nat.{ℕ}
use lib.ListN.{set}
use Rattle.restoring.proofs.Places.{turn_one}
use Rattle.restoring.proofs.steps.OneStep.take.Goals as goal

pub returns : goal.returns
returns c =
    let a = c.args in
    let row = a.self.now in
    let at = c.place-at.result in
    let old = a.rows.now in
    let out = set old at 0 in
    let s = c.of.result.first in
    turn_one old a.n a.c c.requires.there.1 c.requires.there.0 out (set out at s) row.row s row.there
    (ap (λ (p : ℕ). set old p 0) c.place-at.ensures.0) c.of.ensures.0 (ap (λ (p : ℕ). set out p s) c.place-at.ensures.0)
