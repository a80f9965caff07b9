-- What fits at the standard's size, by computation.
-- Assumes nothing.
use mathlib.Core.Path.{◌≡◌, refl}
use Rattle.laying.specs.Room.{room, fit_of}
use Rattle.laying.specs.Worked.{fits_shown, fits_expected, separators_shown, separators_expected, parts_shown, parts_expected}

pub fits_worked : fits_shown ≡ fits_expected
unfolding room fit_of
fits_worked = refl

pub separators_worked : separators_shown ≡ separators_expected
unfolding room
separators_worked = refl

pub parts_worked : parts_shown ≡ parts_expected
parts_worked = refl
