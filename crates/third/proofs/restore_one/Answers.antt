-- `restore_one` meets its contract. Assumes nothing.
use borrow.Author.Rules.{rules}
use native.Mathlib.Omega.{arith}
use lib.ListN.{length}
use Rattle.third.proofs.Answers.{one_kept}
use Rattle.third.proofs.restore_one.Goals as goal

pub restore_row-requires : goal.restore_row-requires
restore_row-requires c = let k = one_kept (length c.args.rows.now) c.args.n c.args.row (search rules) in (omega (arith, k.1), k.0.long)
