-- `alert_read` meets its contract: the answer's length, or what reading answers. Assumes nothing.
use borrow.Author.Rules.{rules}
use borrow.Author.Tests.{eq-eqb, ne_eqb}
use Rattle.slices.proofs.Calls.{stopped}
use Rattle.c_loader.specs.Calls.{dds_alert_read}
use Rattle.c_loader.proofs.Laws.{alert_read}
use Rattle.c_loader.proofs.alert_read.Statement.{statement}
use Rattle.c_loader.proofs.alert_read.Tie as tie

by_length : tie.Need-returns-then-answer-ne-ANSWER_LENGTH
unfolding dds_alert_read
by_length c = stopped _ _ _ _ (ne_eqb _ _ c.if-answer-ne-ANSWER_LENGTH.true)

answers : tie.Need-returns
answers c =
    let t = c.before.before in
    let d = t.before.before.before in
    alert_read _ (eq-eqb _ _ d.before.if-answer-ne-ANSWER_LENGTH.false) _ d.read-done.ensures t.before.alert_told.ensures t.tell.ensures

pub alert_read_spec : {M : Type 1} → statement M
alert_read_spec =
    tie.close
    (tie.spec
    by_length
    (λ c κs. search rules)
    (λ c κs. search rules)
    (λ c κs. search rules)
    (λ c. search rules)
    answers)
