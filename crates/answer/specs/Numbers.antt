-- Documents 01 and 02, "Numbers the firmware sees": the number of each refusal, in the order of the documents' lists.
-- Assumes nothing.
use Rattle.std.specs.Prelude.{ℕ}
use Rattle.answer.specs.declared.refusals.Refusal.{Refusal}
use Rattle.answer.specs.declared.refusals.Refusal.TheVariants as refusal
use Rattle.answer.specs.declared.refusals.TrackRefusal.{TrackRefusal}
use Rattle.answer.specs.declared.refusals.TrackRefusal.TheVariants as track
use Rattle.answer.specs.declared.refusals.ThirdRefusal.{ThirdRefusal}
use Rattle.answer.specs.declared.refusals.ThirdRefusal.TheVariants as third
use Rattle.answer.specs.declared.refusals.LoaderRefusal.{LoaderRefusal}
use Rattle.answer.specs.declared.refusals.LoaderRefusal.TheVariants as loader
use Rattle.answer.specs.declared.refusals.BlocksRefusal.{BlocksRefusal}
use Rattle.answer.specs.declared.refusals.BlocksRefusal.TheVariants as blocks

abbrev pub refusal_number : Refusal → ℕ
refusal_number refusal.State = 1
refusal_number refusal.Size = 2
refusal_number refusal.First = 3
refusal_number refusal.Group = 4
refusal_number refusal.Number = 5
refusal_number refusal.Entries = 6
refusal_number refusal.Rows = 7
refusal_number refusal.Flag = 8
refusal_number refusal.B4 = 9
refusal_number refusal.Follow = 10
refusal_number refusal.Count = 11
refusal_number refusal.Room = 12
refusal_number refusal.Skip = 13
refusal_number refusal.NoNumber = 14
refusal_number refusal.RecordLength = 15
refusal_number refusal.Rest = 16
refusal_number refusal.Open = 17
refusal_number refusal.Separator = 18
refusal_number refusal.ZeroPart = 19
refusal_number refusal.AboveOne = 20
refusal_number refusal.TooLong = 21
refusal_number refusal.TotalDiffers = 22
refusal_number refusal.OwedEarly = 23
refusal_number refusal.Explanation = 24

abbrev pub track_number : TrackRefusal → ℕ
track_number track.Length = 30
track_number track.Parity = 31
track_number track.Sw1 = 32
track_number track.Sw2 = 33
track_number track.Close = 34

abbrev pub third_number : ThirdRefusal → ℕ
third_number third.RowLength = 40
third_number third.Row = 41
third_number third.SameRow = 42
third_number third.Hopeless = 43

abbrev pub loader_number : LoaderRefusal → ℕ
loader_number loader.Length = 60
loader_number loader.Reserved = 61
loader_number loader.Thickness = 62
loader_number loader.Flags = 63

abbrev pub blocks_number : BlocksRefusal → ℕ
blocks_number (blocks.Reader r) = refusal_number r
blocks_number blocks.BlockSize = 50
blocks_number blocks.BlockLength = 51
