-- `radio_find` meets its contract: the answer's length, or what the search answers. Assumes nothing.
use borrow.Author.Rules.{rules}
use borrow.Author.Tests.{eq-eqb, ne_eqb}
use Rattle.slices.proofs.Calls.{stopped}
use Rattle.c_loader.specs.Calls.{dds_radio_find}
use Rattle.c_loader.proofs.Laws.{radio_found}
use Rattle.c_loader.proofs.radio_find.Statement.{statement}
use Rattle.c_loader.proofs.radio_find.Tie as tie

by_length : tie.Need-returns-then-answer-ne-ANSWER_LENGTH
unfolding dds_radio_find
by_length c = stopped _ _ _ _ (ne_eqb _ _ c.if-answer-ne-ANSWER_LENGTH.true)

answers : tie.Need-returns
answers c =
    let t = c.before.before in
    let d = t.before.before.before in
    radio_found _ (eq-eqb _ _ d.before.if-answer-ne-ANSWER_LENGTH.false) _ d.find-done.ensures t.before.radio_told.ensures t.tell.ensures

pub radio_find_spec : {M : Type 1} → statement M
radio_find_spec =
    tie.close
    (tie.spec
    by_length
    (λ c κs. search rules)
    (λ c κs. search rules)
    (λ c κs. search rules)
    (λ c. search rules)
    answers)
