-- Change request 2026-01: the refusals 31 to 34 at one block, "31 parity, 32 SW1 .., 33 SW2, 34 a non-zero close with Pack ID 6".
-- Assumes nothing.
use Rattle.std.specs.Prelude.{ℕ, List, Bool, true, cond, not, eqb}
use Rattle.numbers.specs.Store.{zeros}
use Rattle.header.specs.Header.{parity_of, pack_of, sw1_kept, sw2_kept}
use Rattle.block.specs.Block.{sw1_in, sw2_in, parity_in, close_in}

-- 31: the third byte is the parity of the first two.
abbrev pub parity_kept : List ℕ → Bool
parity_kept block = eqb (parity_in block) (parity_of (sw1_in block) (sw2_in block))

-- 34: with Pack ID 6 the block closes in zeros.
abbrev pub close_kept : List ℕ → Bool
close_kept block = cond (eqb (pack_of (sw2_in block)) 6) (zeros (close_in block)) true

-- At the block of this number 31, 32, 33, 34 in this order: the refusal that it meets, 0 if it has no fault.
unfoldable pub block_fault : (area number : ℕ) (block : List ℕ) → ℕ
block_fault area number block =
    cond (not (parity_kept block)) 31
    (cond (not (sw1_kept area number (sw1_in block))) 32
    (cond (not (sw2_kept number (sw2_in block))) 33
    (cond (not (close_kept block)) 34 0)))
