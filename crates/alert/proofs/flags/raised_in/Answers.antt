-- `raised_in` meets its contract: a word's ones. Assumes nothing.
use mathlib.Core.Path.{ap, ◌∙◌}
use native.Mathlib.Omega.{arith}
use lib.Count.{ones}
use Rattle.alert.proofs.FlagLaws.{raised_ones}
use Rattle.alert.proofs.flags.raised_in.Goals as goal

pub returns : goal.returns
returns c = ap ones c.word_of.ensures ∙ raised_ones c.args.high c.args.low (omega arith) (omega arith)
