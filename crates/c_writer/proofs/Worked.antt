-- A writer's start from C, a record that is laid and one that closes its group, by computation.
-- Assumes nothing.
use mathlib.Core.Path.{◌≡◌, refl}
use Rattle.numbers.specs.Store.{put}
use Rattle.numbers.specs.Numbers.{number_at, bytes_of, in_bytes}
use Rattle.group.specs.Entries.{entry_bytes}
use Rattle.group.specs.State.{run_sound, start_refusal}
use Rattle.laying.specs.Start.{writer_start_call}
use Rattle.laying.specs.Room.{room, fit_of}
use Rattle.laying.specs.Laying.{lay_entry, lay_data, lay_part, moved, lay_skip, zero_gap, shut, warn_state, pay_owed, ready}
use Rattle.sound.specs.State.{room_kept, empty_kept, rest_kept, data_kept, spent_kept, writer_sound, record_refusal}
use Rattle.writer.specs.Calls.{finished, closed, or_refused, by_fit, record_free, record_accepted, record_call, state_of}
use Rattle.slices.specs.Call.{lengths_kept, called}
use Rattle.states.specs.States.{writer_of, writer_meant}
use Rattle.c_writer.specs.Calls.{dds_writer_start, written, dds_record}
use Rattle.c_writer.specs.Worked.{calls_shown, calls_expected}

pub worked : calls_shown ≡ calls_expected
unfolding put number_at bytes_of in_bytes entry_bytes run_sound start_refusal writer_start_call room fit_of lay_entry lay_data lay_part moved lay_skip zero_gap shut warn_state pay_owed ready room_kept empty_kept rest_kept data_kept spent_kept writer_sound record_refusal finished closed or_refused by_fit record_free record_accepted record_call state_of lengths_kept called writer_of writer_meant dds_writer_start written dds_record
worked = refl
