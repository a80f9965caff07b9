-- Starts, reads and searches of blocks from C, by computation.
-- Assumes nothing.
use mathlib.Core.Path.{◌≡◌, refl}
use Rattle.numbers.specs.Numbers.{number_at, bytes_of, in_bytes}
use Rattle.numbers.specs.Store.{put}
use Rattle.group.specs.Entries.{entry_at, entries_below}
use Rattle.group.specs.Flags.{meaning_of}
use Rattle.group.specs.State.{run_sound, start_refusal}
use Rattle.entry.specs.Rules.{may_follow, entry_fault}
use Rattle.rows.specs.Rows.{rows_from}
use Rattle.reader.specs.Answer.{is_repeat, read_refusal, group_rows}
use Rattle.blockrule.specs.Rule.{block_scan}
use Rattle.blocks.specs.Answer.{blocks_start_refusal, blocks_start_call, blocks_scan, blocks_read_call}
use Rattle.seek.specs.Find.{beginning, find_call}
use Rattle.slices.specs.Call.{lengths_kept, called}
use Rattle.states.specs.States.{reader_of, reader_meant}
use Rattle.c_blocks.specs.Calls.{dds_blocks_start, dds_blocks_read, dds_blocks_find}
use Rattle.c_blocks.specs.Worked.{starts_shown, starts_expected, reads_shown, reads_expected, finds_shown, finds_expected}

pub worked_starts : starts_shown ≡ starts_expected
unfolding bytes_of in_bytes start_refusal blocks_start_refusal blocks_start_call lengths_kept called dds_blocks_start
worked_starts = refl

pub worked_reads : reads_shown ≡ reads_expected
unfolding number_at bytes_of in_bytes put entry_at entries_below meaning_of run_sound may_follow entry_fault rows_from is_repeat read_refusal group_rows block_scan blocks_scan blocks_read_call reader_of reader_meant lengths_kept called dds_blocks_read
worked_reads = refl

pub worked_finds : finds_shown ≡ finds_expected
unfolding number_at bytes_of in_bytes beginning find_call called dds_blocks_find
worked_finds = refl
