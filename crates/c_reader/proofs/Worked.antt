-- A reader's starts from C, and repeats, by computation.
-- Assumes nothing.
use mathlib.Core.Path.{◌≡◌, refl}
use Rattle.numbers.specs.Numbers.{number_at, bytes_of, in_bytes}
use Rattle.group.specs.State.{run_sound, start_refusal}
use Rattle.reader.specs.Answer.{reader_start_call, is_repeat, read_refusal, read_call}
use Rattle.slices.specs.Call.{lengths_kept, called}
use Rattle.states.specs.States.{reader_of, reader_meant}
use Rattle.c_reader.specs.Calls.{dds_reader_start, dds_read}
use Rattle.c_reader.specs.Worked.{starts_shown, starts_expected, repeats_shown, repeats_expected}

pub worked : starts_shown ≡ starts_expected
unfolding bytes_of in_bytes start_refusal reader_start_call lengths_kept called dds_reader_start
worked = refl

pub worked_repeats : repeats_shown ≡ repeats_expected
unfolding number_at bytes_of in_bytes run_sound is_repeat read_refusal read_call reader_of reader_meant lengths_kept called dds_read
worked_repeats = refl
