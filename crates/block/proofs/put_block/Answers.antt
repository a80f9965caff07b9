-- `put_block` meets its contract: header, items and close. Assumes nothing.
use borrow.Author.Rules.{rules}
use Rattle.block.proofs.BlockLaws.{zero_closed, lent_closed}
use Rattle.block.proofs.put_block.Goals as goal

pub returns-then-header-eq6 : goal.returns-then-header-eq6
returns-then-header-eq6 c =
    zero_closed _ _ _ c.args.places.now c.args.block.now _ _ _ c.requires (search rules) (search rules) (search rules)
    c.if-header-eq6.true (c.fill.ensures.after (λ y e. e))

pub returns-else-header-eq6 : goal.returns-else-header-eq6
returns-else-header-eq6 c =
    lent_closed _ _ _ c.args.places.now c.args.block.now _ _ _ c.requires (search rules) (search rules) (search rules)
    c.if-header-eq6.false c.copy_from_slice-else-header-eq6.ensures.after
