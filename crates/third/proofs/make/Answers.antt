-- `make` meets its contract. Assumes nothing.
use borrow.Author.Rules.{rules}
use native.Mathlib.Omega.{arith}
use lib.ListN.{length}
use Rattle.third.proofs.Answers.{make_kept}
use Rattle.third.proofs.make.Goals as goal

pub restore_both-requires : goal.restore_both-requires
restore_both-requires c =
    let k = make_kept (length c.args.rows.now) c.args.n (search rules) in
    (omega arith, omega arith, (λ e. absurd (omega arith)), k.long)
