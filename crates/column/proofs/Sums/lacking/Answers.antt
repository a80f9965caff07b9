-- `Sums::lacking` meets its contract. Assumes nothing.
use borrow.Author.Rules.{rules}
use Rattle.field.specs.Field.{◌⊕◌}
use Rattle.column.specs.Column.{lacking}
use Rattle.column.proofs.Sums.lacking.Goals as goal

pub returns : goal.returns
unfolding lacking ◌⊕◌
returns c = search rules
