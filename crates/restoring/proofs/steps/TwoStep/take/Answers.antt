-- `Two` meets its contract as a step. Assumes nothing.
use mathlib.Core.Path.{◌≡◌, ap, ap₂, ◌∙◌}
use Prim.Native.Nat.{ℕ}
use lib.Bits.{bit_xor}
use lib.ListN.{set}
use Rattle.field.specs.Field.{◌⊕◌}
use Rattle.column.specs.Column.{lacking}
use Rattle.restoring.proofs.Places.{turn_two}
use Rattle.restoring.proofs.steps.TwoStep.take.Goals as goal

rest : (f s x : ℕ) → f ≡ s → bit_xor f x ≡ s ⊕ x
unfolding ◌⊕◌
rest f s x e = ap (λ (y : ℕ). bit_xor y x) e

pub returns : goal.returns
returns c =
    let a = c.args in
    let two = a.self.now in
    let old = a.rows.now in
    let i = c.place-first in
    let j = c.place-second in
    let sums = c.of-s in
    let x = c.lacking-x in
    let y = bit_xor sums.result.first x.result in
    let out = set old i.result 0 in
    let both = set out j.result 0 in
    let back = set both i.result x.result in
    turn_two old a.n a.c c.requires.there.1 c.requires.there.0 out both back (set back j.result y)
    two.first two.second x.result y two.there.0 two.there.1
    (ap (λ (p : ℕ). set old p 0) i.ensures.0) (ap (λ (p : ℕ). set out p 0) j.ensures.0)
    (x.ensures ∙ ap₂ (lacking two.first two.second) sums.ensures.0 sums.ensures.1)
    (rest sums.result.first _ x.result sums.ensures.0)
    (ap (λ (p : ℕ). set both p x.result) i.ensures.0) (ap (λ (p : ℕ). set back p y) j.ensures.0)
