-- Change request 2026-11: what the five calls on the AIT loader's memory return and what they leave in every slice that they may
-- write, for every input. Each is the own call of the crate volume, alert or radio.
-- Assumes nothing.
use Rattle.std.specs.Prelude.{ℕ, List, [], ◌∷◌, length}
use Rattle.volume.specs.Information.{volume_of, fields_of, make_refusal, read_refusal, answer_of, told}
use Rattle.alert.specs.Flags as flags
use Rattle.radio.specs.Search as radio
use Rattle.slices.specs.Call.{Left, slice, answer_kept, called}

-- Making Volume Information may write the volume, reading it the fields.
unfoldable pub dds_volume_make : (fields volume answer : List ℕ) → Left
dds_volume_make fields volume answer =
    called (answer_kept answer) (told (answer_of (make_refusal fields (length volume)) fields)) (volume_of fields ∷ []) (volume ∷ []) answer

abbrev pub volume_made : Left → List ℕ
volume_made m = slice m 0

unfoldable pub dds_volume_read : (volume fields answer : List ℕ) → Left
dds_volume_read volume fields answer =
    called (answer_kept answer) (told (answer_of (read_refusal volume (length fields)) (fields_of volume))) (fields_of volume ∷ []) (fields ∷ []) answer

abbrev pub fields_read : Left → List ℕ
fields_read r = slice r 0

-- Making the flags' bytes may write them. Reading them, and the search, write the answer alone.
unfoldable pub dds_alert_make : (high low : ℕ) (alert answer : List ℕ) → Left
dds_alert_make high low alert answer =
    called (answer_kept answer) (flags.told (flags.make_call high low (length alert))) (flags.alert_of high low ∷ []) (alert ∷ []) answer

abbrev pub alert_made : Left → List ℕ
alert_made m = slice m 0

unfoldable pub dds_alert_read : (alert answer : List ℕ) → Left
dds_alert_read alert answer = called (answer_kept answer) (flags.told (flags.read_call alert)) [] [] answer

unfoldable pub dds_radio_find : (received answer : List ℕ) → Left
dds_radio_find received answer = called (answer_kept answer) (radio.told (radio.find_call received)) [] [] answer
