-- `judge` meets its contract: a length, a meaning, a block size, a record of another length, or none of them. Assumes nothing.
use native.Mathlib.Omega.{arith}
use Rattle.numbers.proofs.Tests.{fails, holds}
use Rattle.blocks.proofs.Judged.{bad_block}
use Rattle.c_blocks.proofs.Laws as laws
use Rattle.c_blocks.proofs.judge.Goals as goal

pub returns-then-not-lengths_kept : goal.returns-then-not-lengths_kept
returns-then-not-lengths_kept c = laws.by_length _ _ _ _ _ _ (fails c.lengths_kept.ensures c.if-not-lengths_kept.true)

pub returns-then-not-reader_meant : goal.returns-then-not-reader_meant
returns-then-not-reader_meant c =
    laws.not_meant _ _ _ _ _ _ (holds c.lengths_kept.ensures c.if-not-lengths_kept.false) (fails c.reader_meant.ensures c.if-not-reader_meant.true) (rw c.into.ensures at c.tell.ensures)

pub returns-then-not-is_block_size : goal.returns-then-not-is_block_size
returns-then-not-is_block_size c =
    laws.refused_there _ _ _ _ _ _ (holds c.lengths_kept.ensures c.if-not-lengths_kept.false) 1 0 (λ z. omega arith) (holds c.reader_meant.ensures c.if-not-reader_meant.false)
    (bad_block _ _ _ _ _ _ (rw c.number_at-block.ensures at (fails c.is_block_size.ensures c.if-not-is_block_size.true))) (rw c.into-then-not-is_block_size.ensures at c.tell-then-not-is_block_size.ensures)

pub returns : goal.returns
returns c =
    laws.other_length _ _ _ _ _ _ (holds c.lengths_kept.ensures c.if-not-lengths_kept.false) _ _ _ c.number_at-block.ensures c.reader_of-reader.ensures c.other_place.ensures c.in-Some.place c.in-Some.is
    (holds c.reader_meant.ensures c.if-not-reader_meant.false) c.tell-2.ensures
