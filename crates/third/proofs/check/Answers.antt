-- `check` meets its contract. Assumes nothing.
use borrow.Author.Rules.{rules}
use lib.ListN.{length}
use Rattle.third.proofs.Answers.{make_kept}
use Rattle.third.proofs.check.Goals as goal

pub first_broken-requires : goal.first_broken-requires
first_broken-requires c = (make_kept (length c.args.rows.now) c.args.n (search rules)).long
