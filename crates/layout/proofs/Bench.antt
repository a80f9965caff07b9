-- Document 01, "Marked P: proved together": the bench table's cases P1 to P12, three on b4 and three on a total that is owed, as
-- one theorem over one list, by computation.
-- Assumes nothing.
use mathlib.Core.Path.{◌≡◌, refl}
use mathlib.Core.List.{map}
use Rattle.laying.specs.Start.{writer_start_call}
use Rattle.numbers.specs.Store.{put}
use Rattle.numbers.specs.Numbers.{number_at, bytes_of}
use Rattle.group.specs.Entries.{entry_at, entry_bytes, entries_below}
use Rattle.group.specs.Flags.{meaning_of}
use Rattle.group.specs.State.{run_sound, start_refusal}
use Rattle.entry.specs.Rules.{may_follow, entry_fault}
use Rattle.entry.specs.Scan.{scan}
use Rattle.rows.specs.Rows.{rows_from}
use Rattle.reader.specs.Answer.{reader_start_call, is_repeat, read_refusal, group_scan, read_call, group_rows}
use Rattle.sound.specs.State.{room_kept, empty_kept, rest_kept, data_kept, spent_kept, writer_sound, record_refusal, separator_refusal, end_refusal}
use Rattle.laying.specs.Room.{room, fit_of}
use Rattle.laying.specs.Laying.{lay_entry, lay_data, lay_part, moved, lay_skip, zero_gap, shut, warn_state, pay_owed, ready}
use Rattle.writer.specs.Calls.{finished, closed, or_refused, by_fit, record_free, middle, last, record_inside, record_accepted, record_call, separator_accepted, separator_call, end_accepted, end_call, call}
use Rattle.layout.specs.BenchTable.{Case, shown, shown_from, answer_to, read_all, read_to, desk_after, closed_by, next, told_all, closed_all, desk_left, from, bench_table}

-- All that must open for a case to be computed.
unfoldable pub opens : Unit {0}
unfolding put number_at bytes_of entry_at entry_bytes entries_below meaning_of run_sound start_refusal may_follow entry_fault scan rows_from reader_start_call is_repeat read_refusal group_scan read_call group_rows room_kept empty_kept rest_kept data_kept spent_kept writer_sound record_refusal separator_refusal end_refusal room fit_of lay_entry lay_data lay_part moved lay_skip zero_gap shut warn_state pay_owed ready finished closed or_refused writer_start_call by_fit record_free middle last record_inside record_accepted record_call separator_accepted separator_call end_accepted end_call call
opens = tt

-- Each case comes to what is expected of it.
pub bench : map (λ (c : Case). shown c.given) bench_table ≡ map (λ (c : Case). c.expected) bench_table
unfolding opens shown shown_from answer_to read_all read_to desk_after closed_by next told_all closed_all desk_left from bench_table
bench = refl
