-- The worked examples, those that are accepted and those that are refused, by computation.
-- Assumes nothing.
use mathlib.Core.Path.{◌≡◌, refl}
use Rattle.volume.specs.Information.{volume_of, fields_of, byte_refusal, make_refusal, read_refusal, answer_of}
use Rattle.volume.specs.Worked.{makes, reads, volumes, volumes_expected, refusals, refusals_expected}

pub worked : (volumes ≡ volumes_expected) × (refusals ≡ refusals_expected)
unfolding volume_of fields_of byte_refusal make_refusal read_refusal answer_of makes reads
worked = (refl, refl)
