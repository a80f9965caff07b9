-- `restore_two` meets its contract. Assumes nothing.
use borrow.Author.Rules.{rules}
use native.Mathlib.Omega.{arith}
use lib.ListN.{length}
use Rattle.third.proofs.Answers.{two_kept}
use Rattle.third.proofs.restore_two.Goals as goal

pub restore_both-requires : goal.restore_both-requires
restore_both-requires c =
    let k = two_kept (length c.args.rows.now) c.args.n c.args.first c.args.second (search rules) in
    (omega (arith, k.first), omega (arith, k.second), k.other, k.length.long)
