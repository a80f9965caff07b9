-- What the calls on a loader's memory leave, once the answer slice is of its length: what their own crates' calls answer and leave.
-- Assumes nothing.
use mathlib.Core.Path.{◌≡◌}
use mathlib.Core.Bool.{true}
use mathlib.Core.List.{List, [], ◌∷◌}
use Prim.Native.Nat.{ℕ}
use Rattle.answer.specs.Answer.{Told}
use Rattle.volume.specs.Information.{VolumeAnswer}
use Rattle.alert.specs.Flags.{AlertAnswer}
use Rattle.radio.specs.Search.{RadioAnswer}
use Rattle.volume.specs.Information.{told, Makes, Reads}
use Rattle.alert.specs.Flags as flags
use Rattle.radio.specs.Search as radio
use Rattle.slices.specs.Call.{left, answer_kept, Tells}
use Rattle.slices.proofs.Calls.{answered, none_lent, more_lent}
use Rattle.c_loader.specs.Calls.{dds_volume_make, dds_volume_read, dds_alert_make, dds_alert_read, dds_radio_find}

module _ {t : Told} {refusal : ℕ} (answer : List ℕ) {answer' : List ℕ} (kept : answer_kept answer ≡ true) where
  pub volume_made_lem : (fields volume : List ℕ) {a : VolumeAnswer} {volume' : List ℕ} → Makes fields volume a volume' → t ≡ told a → Tells t refusal answer'
      → left refusal (volume' ∷ []) answer' ≡ dds_volume_make fields volume answer
  unfolding dds_volume_make
  volume_made_lem fields volume {a} m e t = answered told _ _ answer kept m.answer e (more_lent (told a) _ _ _ _ m.volume_left (none_lent (told a))) t

  pub volume_read : (volume fields : List ℕ) {a : VolumeAnswer} {fields' : List ℕ} → Reads volume fields a fields' → t ≡ told a → Tells t refusal answer'
      → left refusal (fields' ∷ []) answer' ≡ dds_volume_read volume fields answer
  unfolding dds_volume_read
  volume_read volume fields {a} r e t = answered told _ _ answer kept r.answer e (more_lent (told a) _ _ _ _ r.fields_left (none_lent (told a))) t

  pub alert_made_lem : (high low : ℕ) (alert : List ℕ) {a : AlertAnswer} {alert' : List ℕ} → flags.Makes high low alert a alert' → t ≡ flags.told a → Tells t refusal answer'
      → left refusal (alert' ∷ []) answer' ≡ dds_alert_make high low alert answer
  unfolding dds_alert_make
  alert_made_lem high low alert {a} m e t = answered flags.told _ _ answer kept m.answer e (more_lent (flags.told a) _ _ _ _ m.alert_left (none_lent (flags.told a))) t

  pub alert_read : (alert : List ℕ) {a : AlertAnswer} → a ≡ flags.read_call alert → t ≡ flags.told a → Tells t refusal answer' → left refusal [] answer' ≡ dds_alert_read alert answer
  unfolding dds_alert_read
  alert_read alert {a} r e t = answered flags.told _ _ answer kept r e (none_lent (flags.told a)) t

  pub radio_found : (received : List ℕ) {a : RadioAnswer} → a ≡ radio.find_call received → t ≡ radio.told a → Tells t refusal answer' → left refusal [] answer' ≡ dds_radio_find received answer
  unfolding dds_radio_find
  radio_found received {a} f e t = answered radio.told _ _ answer kept f e (none_lent (radio.told a)) t
