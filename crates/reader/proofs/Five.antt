-- Whether a refusal is 5, the number that is not the next: the code compares the refusal, the definitions its number.
-- Assumes nothing.
use mathlib.Core.Path.{◌≡◌, refl}
use lib.Dec.{eqb}
use denote.Enum.Bare.{sameb}
use Rattle.answer.specs.contracts.refusals.Refusal.{the_type}
use Rattle.answer.specs.declared.refusals.Refusal.{Refusal}
use Rattle.answer.specs.declared.refusals.Refusal.TheVariants as refusal
use Rattle.answer.specs.Numbers.{refusal_number}

pub is_five : (r : Refusal) → sameb the_type r refusal.Number ≡ eqb (refusal_number r) 5
is_five refusal.State = refl
is_five refusal.Size = refl
is_five refusal.First = refl
is_five refusal.Group = refl
is_five refusal.Number = refl
is_five refusal.Entries = refl
is_five refusal.Rows = refl
is_five refusal.Flag = refl
is_five refusal.B4 = refl
is_five refusal.Follow = refl
is_five refusal.Count = refl
is_five refusal.Room = refl
is_five refusal.Skip = refl
is_five refusal.NoNumber = refl
is_five refusal.RecordLength = refl
is_five refusal.Rest = refl
is_five refusal.Open = refl
is_five refusal.Separator = refl
is_five refusal.ZeroPart = refl
is_five refusal.AboveOne = refl
is_five refusal.TooLong = refl
is_five refusal.TotalDiffers = refl
is_five refusal.OwedEarly = refl
is_five refusal.Explanation = refl
