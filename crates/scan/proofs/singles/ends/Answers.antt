-- `ends` meets its contract: the number of a skip of all that is left. Assumes nothing.
use Rattle.std.proofs.Common.{refl, sym, ◌∙◌, arith}
use Rattle.std.proofs.lemmas.Bool.{false≢true}
use borrow.Author.Tests.{eqb-true}
use Rattle.scan.proofs.Stretches.{skip_turn}
use Rattle.scan.proofs.singles.ends.Goals.{then-left-eq1, else-left-eq1, then-may_end, else-may_end}
use Rattle.scan.proofs.singles.ends.Goals as goal

pub returns-then-entry_word-least : goal.returns-then-entry_word-least
returns-then-entry_word-least c owes =
    elim c.if-may_end.branch [
      | then-may_end w ↦ elim c.if-left-eq1.branch [
        | then-left-eq1 v ↦
            let r = c.requires.1.reached in
            let n = w.entry_word.ensures in
            let f = w.least.ensures in
            let t = eqb-true _ _ (sym w.value-is ∙ c.if-entry_word-least.true) in
            skip_turn _ _ _ _ _ _ v.if-left-eq1.true (omega arith) refl (omega (arith, n.is, n.small, f, t, r)) (omega (arith, n.is, n.small, f, t, r)) r
            (sym v.may_end.ensures ∙ sym v.value-is ∙ w.if-may_end.true) (sym c.may_owe.ensures ∙ owes)
        | else-left-eq1 v ↦ absurd (v.if-left-eq1.false (eqb-true _ _ (sym v.value-is ∙ w.if-may_end.true)))
      ]
      | else-may_end w ↦ absurd (false≢true (sym w.if-may_end.false ∙ sym w.value-is ∙ c.if-entry_word-least.true))
    ]
