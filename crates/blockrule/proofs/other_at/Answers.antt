-- `other_at` meets its contract: the first of the entries that are left is the first of all. Assumes nothing.
use Rattle.std.proofs.Common.{sym, ◌∙◌, arith}
use Rattle.numbers.proofs.Tests.{fails, holds}
use Rattle.blockrule.proofs.Turns.{none_left, found_here, kept_here}
use Rattle.blockrule.proofs.other_at.Goals as goal

pub returns-then-not-block_kept : goal.returns-then-not-block_kept
returns-then-not-block_kept c =
    found_here _ _ _ _ _ _ (omega arith) (omega arith) c.entry_at-entry.ensures.0 (fails c.block_kept.ensures c.if-not-block_kept.true) ∙ c.loop-left.invariant

pub loop-left-preserved : goal.loop-left-preserved
loop-left-preserved c =
    sym (kept_here _ _ _ _ _ _ (omega arith) (omega arith) c.entry_at-entry.ensures.0 (holds c.block_kept.ensures c.if-not-block_kept.false)) ∙ c.loop-left.invariant

pub returns : goal.returns
returns c = none_left _ _ _ _ _ (omega arith) ∙ c.loop-left.invariant
