-- A block of each row of Table 3, by computation: the even blocks with Pack ID 6 close in zeros, all others as they were lent, and
-- none has a fault.
-- Assumes nothing.
use mathlib.Core.Path.{◌≡◌, refl}
use mathlib.Core.List.{map, ◌++◌}
use lib.ListN.{replicate}
use Rattle.header.specs.Header.{area_kept, header_of, sw1_kept, sw2_kept}
use Rattle.header.specs.Worked.{even_six, even_seven, odd_six, odd_seven, headers}
use Rattle.block.specs.Block.{block_of}
use Rattle.block.specs.Faults.{block_fault}
use Rattle.block.specs.Worked.{zero_close, lent_close, block_made, fault_made, block_expected}

pub worked_blocks : map block_made headers ≡ map (block_expected zero_close) even_six ++ map (block_expected lent_close) (even_seven ++ odd_six ++ odd_seven)
unfolding header_of block_of
worked_blocks = refl

pub worked_faults : map fault_made headers ≡ replicate 20 0
unfolding area_kept header_of sw1_kept sw2_kept block_of block_fault
worked_faults = refl
