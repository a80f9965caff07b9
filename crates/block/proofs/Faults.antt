-- Laws of the refusals at one block: each is given where its rule is the first that is broken, whatever later rules say.
-- Assumes nothing.
use mathlib.Core.Path.{◌≡◌}
use mathlib.Core.Bool.{true, false}
use mathlib.Core.List.{List}
use Prim.Native.Nat.{ℕ}
use Rattle.header.specs.Header.{sw1_kept, sw2_kept}
use Rattle.block.specs.Block.{sw1_in, sw2_in}
use Rattle.block.specs.Faults.{parity_kept, close_kept, block_fault}

module _ (area number : ℕ) (block : List ℕ) where
  pub at_parity : parity_kept block ≡ false → 31 ≡ block_fault area number block
  unfolding block_fault
  at_parity p = rw p

  pub at_sw1 : parity_kept block ≡ true → sw1_kept area number (sw1_in block) ≡ false → 32 ≡ block_fault area number block
  unfolding block_fault
  at_sw1 p q = rw (p, q)

  pub at_sw2 : parity_kept block ≡ true → sw1_kept area number (sw1_in block) ≡ true → sw2_kept number (sw2_in block) ≡ false → 33 ≡ block_fault area number block
  unfolding block_fault
  at_sw2 p q r = rw (p, q, r)

  pub at_close : parity_kept block ≡ true → sw1_kept area number (sw1_in block) ≡ true → sw2_kept number (sw2_in block) ≡ true → close_kept block ≡ false → 34 ≡ block_fault area number block
  unfolding block_fault
  at_close p q r s = rw (p, q, r, s)

  pub at_none : parity_kept block ≡ true → sw1_kept area number (sw1_in block) ≡ true → sw2_kept number (sw2_in block) ≡ true → close_kept block ≡ true → 0 ≡ block_fault area number block
  unfolding block_fault
  at_none p q r s = rw (p, q, r, s)
