-- Serves the trait `Numbered` only: no refusal has the number 0, which is told of an accepted call.
-- Assumes nothing.
use Rattle.std.specs.Prelude.{◌≡◌, refl, false, eqb}
use Rattle.answer.specs.Numbers.{refusal_number, track_number, third_number, loader_number, blocks_number}
use Rattle.answer.specs.declared.refusals.Refusal.{Refusal}
use Rattle.answer.specs.declared.refusals.Refusal.TheVariants as refusal
use Rattle.answer.specs.declared.refusals.TrackRefusal.{TrackRefusal}
use Rattle.answer.specs.declared.refusals.TrackRefusal.TheVariants as track
use Rattle.answer.specs.declared.refusals.ThirdRefusal.{ThirdRefusal}
use Rattle.answer.specs.declared.refusals.ThirdRefusal.TheVariants as third
use Rattle.answer.specs.declared.refusals.LoaderRefusal.{LoaderRefusal}
use Rattle.answer.specs.declared.refusals.LoaderRefusal.TheVariants as loader
use Rattle.answer.specs.declared.refusals.BlocksRefusal.{BlocksRefusal}
use Rattle.answer.specs.declared.refusals.BlocksRefusal.TheVariants as blocks

pub refusal_not_zero : (r : Refusal) → eqb (refusal_number r) 0 ≡ false
refusal_not_zero refusal.State = refl
refusal_not_zero refusal.Size = refl
refusal_not_zero refusal.First = refl
refusal_not_zero refusal.Group = refl
refusal_not_zero refusal.Number = refl
refusal_not_zero refusal.Entries = refl
refusal_not_zero refusal.Rows = refl
refusal_not_zero refusal.Flag = refl
refusal_not_zero refusal.B4 = refl
refusal_not_zero refusal.Follow = refl
refusal_not_zero refusal.Count = refl
refusal_not_zero refusal.Room = refl
refusal_not_zero refusal.Skip = refl
refusal_not_zero refusal.NoNumber = refl
refusal_not_zero refusal.RecordLength = refl
refusal_not_zero refusal.Rest = refl
refusal_not_zero refusal.Open = refl
refusal_not_zero refusal.Separator = refl
refusal_not_zero refusal.ZeroPart = refl
refusal_not_zero refusal.AboveOne = refl
refusal_not_zero refusal.TooLong = refl
refusal_not_zero refusal.TotalDiffers = refl
refusal_not_zero refusal.OwedEarly = refl
refusal_not_zero refusal.Explanation = refl

pub track_not_zero : (r : TrackRefusal) → eqb (track_number r) 0 ≡ false
track_not_zero track.Length = refl
track_not_zero track.Parity = refl
track_not_zero track.Sw1 = refl
track_not_zero track.Sw2 = refl
track_not_zero track.Close = refl

pub third_not_zero : (r : ThirdRefusal) → eqb (third_number r) 0 ≡ false
third_not_zero third.RowLength = refl
third_not_zero third.Row = refl
third_not_zero third.SameRow = refl
third_not_zero third.Hopeless = refl

pub loader_not_zero : (r : LoaderRefusal) → eqb (loader_number r) 0 ≡ false
loader_not_zero loader.Length = refl
loader_not_zero loader.Reserved = refl
loader_not_zero loader.Thickness = refl
loader_not_zero loader.Flags = refl

pub blocks_not_zero : (r : BlocksRefusal) → eqb (blocks_number r) 0 ≡ false
blocks_not_zero (blocks.Reader r) = refusal_not_zero r
blocks_not_zero blocks.BlockSize = refl
blocks_not_zero blocks.BlockLength = refl
