-- `apart_of` meets its contract. Assumes nothing.
use borrow.Author.Rules.{rules}
use Rattle.field.specs.Field.{◌⊕◌}
use Rattle.column.specs.Column.{apart}
use Rattle.column.proofs.apart_of.Goals as goal

pub returns : goal.returns
unfolding apart ◌⊕◌
returns c = search rules
