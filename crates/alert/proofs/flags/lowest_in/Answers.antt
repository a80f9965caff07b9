-- `lowest_in` meets its contract: none, or one more than a word's leading zeros. Assumes nothing.
use mathlib.Core.Path.{sym, ap, ◌∙◌}
use Prim.Native.Nat.{ℕ, ◌+◌}
use native.Mathlib.Omega.{arith}
use lib.Count.{count_leading_zeros}
use Rattle.alert.proofs.FlagLaws.{lowest_none, lowest_leading}
use Rattle.alert.proofs.flags.lowest_in.Goals as goal

pub returns-then-word-eq0 : goal.returns-then-word-eq0
returns-then-word-eq0 c = lowest_none c.args.high c.args.low (omega arith) (omega arith) (sym c.word_of-word.ensures ∙ c.if-word-eq0.true)

pub returns-else-word-eq0 : goal.returns-else-word-eq0
returns-else-word-eq0 c =
    ap (λ (n : ℕ). count_leading_zeros 64 n + 1) c.word_of-word.ensures
    ∙ lowest_leading c.args.high c.args.low (omega arith) (omega arith) (λ z. c.if-word-eq0.false (c.word_of-word.ensures ∙ z))
