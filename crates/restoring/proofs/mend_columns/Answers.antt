-- `mend_columns` meets its contract. Assumes nothing.
use native.Mathlib.Omega.{arith}
use Rattle.column.specs.Column.{mendable}
use Rattle.column.proofs.Judging.{is_within}
use Rattle.restoring.proofs.Failing.{first}
use Rattle.restoring.proofs.mend_columns.Goals as goal

pub done_to_all-requires-clause-may : goal.done_to_all-requires-clause-may
done_to_all-requires-clause-may c =
    λ d l. is_within _ ((first mendable c.args.rows.now c.args.n 0 c.args.n).before d (omega arith) (omega arith))
