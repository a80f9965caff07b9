-- `judge_making` meets its contract: the Area ID, and the Pack IDs block by block. Assumes nothing.
use mathlib.Core.Path.{refl, ◌∙◌}
use borrow.Author.Rules.{rules}
use Rattle.numbers.proofs.Tests.{fails, holds}
use Rattle.track.specs.Answer.{pack_fault}
use Rattle.track.proofs.Judged.{judged_fault, judged_on, judged_all, pack_faulty, pack_right, make_area, make_packs}
use Rattle.track.proofs.blocks.judge_making.Goals as goal

pub returns-then-not-area_kept : goal.returns-then-not-area_kept
returns-then-not-area_kept c =
    rw c.into.ensures
    (make_area _ _ _ _ _ (record { track = refl; packs = search rules; items = refl; numbers = refl }) (fails c.area_kept.ensures c.if-not-area_kept.true))

pub loop-block-preserved : goal.loop-block-preserved
loop-block-preserved c =
    judged_on (pack_fault _) _ 0 c.loop-block-test.true (pack_right c.args.packs.now c.loop-block.block _ c.pack_in.ensures (holds c.pack_kept.ensures c.if-not-pack_kept.false)) c.loop-block.invariant refl

pub returns-then-not-pack_kept : goal.returns-then-not-pack_kept
returns-then-not-pack_kept c =
    rw c.from.ensures
    (judged_fault (pack_fault _) _ _ c.loop-block-test.true (pack_faulty c.args.packs.now c.loop-block.block _ c.pack_in.ensures (fails c.pack_kept.ensures c.if-not-pack_kept.true)) c.loop-block.invariant refl
    ∙ make_packs _ _ _ _ _ (record { track = refl; packs = search rules; items = refl; numbers = refl }) (holds c.area_kept.ensures c.if-not-area_kept.false))

pub returns : goal.returns
returns c =
    judged_all (pack_fault _) c.loop-block.block (search rules) c.loop-block.invariant
    ∙ make_packs _ _ _ _ _ (record { track = refl; packs = search rules; items = refl; numbers = refl }) (holds c.area_kept.ensures c.if-not-area_kept.false)
