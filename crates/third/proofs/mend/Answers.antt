-- `mend` meets its contract. Assumes nothing.
use borrow.Author.Rules.{rules}
use lib.ListN.{length}
use Rattle.third.proofs.Answers.{make_kept}
use Rattle.third.proofs.mend.Goals as goal

pub first_hopeless-requires : goal.first_hopeless-requires
first_hopeless-requires c = (make_kept (length c.args.rows.now) c.args.n (search rules)).long

pub mend_columns-requires : goal.mend_columns-requires
mend_columns-requires c = ((make_kept (length c.args.rows.now) c.args.n (search rules)).long, search rules)
