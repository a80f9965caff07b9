-- `add` meets its contract: the word is stored where the free bytes began, and those behind it stay. Assumes nothing.
use Rattle.std.proofs.Common.{rules}
use Rattle.words.proofs.AddedLaws.{stored}
use Rattle.words.proofs.Text.add.Goals as goal

pub returns : goal.returns
returns c = stored _ _ _ _ _ _ (search rules) c.self.view_is c.self.invariant
