-- `are_zeros` meets its contract: `all` at the test for zero is the definition. Assumes nothing.
use Rattle.std.proofs.Common.{rules, ◌∙◌, eqb}
use Rattle.std.proofs.lemmas.Iterator.{YieldsList-from_slice}
use Rattle.std.proofs.lemmas.Iterator.Search.{all_from_yields_List}
use Rattle.numbers.proofs.Stores.{zeros_all}
use Rattle.numbers.proofs.Tests.{tests}
use Rattle.numbers.proofs.bytes.are_zeros.Goals as goal

pub returns : goal.returns
returns c =
    all_from_yields_List (λ byte. eqb byte 0) _ _ _ c.all.ensures.ran (YieldsList-from_slice c.args.bytes.now c.iter.ensures.rest) (λ x b q k. search (rules, tests))
    ∙ zeros_all c.args.bytes.now
