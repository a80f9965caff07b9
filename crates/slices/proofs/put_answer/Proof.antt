-- `put_answer` meets its contract: six numbers, one after another. Assumes nothing.
use borrow.Author.Rules.{rules}
use mathlib.Core.List.{[], ◌∷◌}
use Rattle.numbers.proofs.InBytes.{puts_whole}
use Rattle.slices.proofs.put_answer.Statement.{statement}
use Rattle.slices.proofs.put_answer.Tie as tie

returns : tie.Need-returns
returns c =
    let c6 = c.before.before in
    let c5 = c6.before.before.before.before in
    let c4 = c5.before.before.before.before in
    let c3 = c4.before.before.before.before in
    let c2 = c3.before.before.before.before in
    let c1 = c2.before.before.before.before in
    let s = c1.before.before.before in
    rw (c6.put_number-6.ensures, c5.put_number-5.ensures, c4.put_number-4.ensures, c3.put_number-3.ensures, c2.put_number-2.ensures, c1.put_number.ensures) (puts_whole s.args.answer.now (s.args.refusal ∷ s.args.place ∷ s.args.outcome ∷ s.args.number ∷ s.args.entries ∷ s.args.taken ∷ []) s.requires)

pub put_answer_spec : {M : Type 1} → statement M
put_answer_spec =
    tie.close
    (tie.spec
    (λ c κs. search rules)
    (λ c κs. search rules)
    (λ c κs. search rules)
    (λ c κs. search rules)
    (λ c κs. search rules)
    (λ c κs. search rules)
    (λ c. search rules)
    returns)
