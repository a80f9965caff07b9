-- The worked examples, by computation.
-- Assumes nothing.
use mathlib.Core.Path.{◌≡◌, refl}
use Rattle.numbers.specs.Numbers.{number_at, bytes_of}
use Rattle.alert.specs.Flags.{raised, count_from, lowest_from, alert_of, make_call, read_call}
use Rattle.alert.specs.Worked.{alerts, alerts_expected}

pub worked : alerts ≡ alerts_expected
unfolding number_at bytes_of raised count_from lowest_from alert_of make_call read_call
worked = refl
