-- `first_broken` meets its contract. Assumes nothing.
use borrow.Author.Tests.{tests}
use native.Mathlib.Omega.{arith}
use Rattle.std.proofs.Common.{rules, refl, not}
use Rattle.std.proofs.lemmas.Iterator.{YieldsList-from_range}
use Rattle.std.proofs.lemmas.Iterator.Search.{find_from_yields_List}
use Rattle.column.specs.Column.{column, lawful}
use Rattle.restoring.proofs.Failing.{found_first}
use Rattle.restoring.proofs.first_broken.Goals as goal

pub returns : goal.returns
returns c =
    let a = c.args in
    found_first lawful a.rows.now a.n c.find.result
    (find_from_yields_List (λ d. not (lawful (column a.rows.now a.n d))) _ _ c.find.result c.find.ensures.ran (YieldsList-from_range 0 a.n a.n refl (omega arith))
    (λ x b q k. search (rules, tests)))
