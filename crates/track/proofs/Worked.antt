-- A track with the worked header of change request 2026-01, and the refusals, by computation.
-- Assumes nothing.
use mathlib.Core.Path.{◌≡◌, refl}
use Rattle.header.specs.Header.{area_kept, header_of, sw1_kept, sw2_kept}
use Rattle.header.specs.Worked.{worked_header}
use Rattle.items.specs.Turns.{in_turn}
use Rattle.block.specs.Block.{block_of}
use Rattle.block.specs.Faults.{block_fault}
use Rattle.track.specs.Blocks.{track_of}
use Rattle.track.specs.Answer.{lengths_kept, fault_from, make_call, read_call}
use Rattle.track.specs.Worked.{made_of, shown, expected, told_making, told_reading, reading_refused, refused, refused_expected}

pub worked : shown worked_header ≡ expected worked_header
unfolding area_kept header_of sw1_kept sw2_kept in_turn block_of block_fault track_of lengths_kept fault_from make_call read_call made_of shown
worked = refl

pub worked_refusals : refused ≡ refused_expected
unfolding area_kept header_of sw1_kept sw2_kept in_turn block_of block_fault track_of lengths_kept fault_from make_call read_call made_of told_making told_reading reading_refused
worked_refusals = refl
