-- What the code makes of a phase and of b4 as numbers.
-- Assumes nothing.
use mathlib.Core.Path.{◌≡◌, refl}
use mathlib.Core.Bool.{Bool, true, false}
use mir.Val.{bool_byte}
use denote.Enum.Declared.{tag_of}
use Rattle.group.specs.declared.Phase.{Phase}
use Rattle.group.specs.declared.Phase.TheVariants.{Free, Inside, Owed}
use Rattle.group.specs.contracts.Phase.{the_type}
use Rattle.states.specs.States.{phase_number, b4_number}

pub phase_cast : (p : Phase) → tag_of the_type p ≡ phase_number p
phase_cast Free = refl
phase_cast Inside = refl
phase_cast Owed = refl

pub b4_cast : (b : Bool) → bool_byte b ≡ b4_number b
b4_cast false = refl
b4_cast true = refl
