-- Document 01, "Reading": how a scan ends, and what a result of the code says of it.
-- Assumes nothing.
use Rattle.std.specs.Prelude.{ℕ, Result, Ok, Err}
use Rattle.answer.specs.Numbers.{refusal_number}
use Rattle.entry.specs.declared.Cursor.{Cursor}
use Rattle.entry.specs.declared.Stop.{Stop}

-- At the table's end, or at the first entry that breaks a rule, with its number, its place and where the scan stood.
pub data ScanEnd : Type 0 where
  Reached : Cursor → ScanEnd
  Refused : (refusal place : ℕ) → Cursor → ScanEnd

abbrev pub end_of : Result Cursor Stop → ScanEnd
end_of (Ok c) = Reached c
end_of (Err s) = Refused (refusal_number s.refusal) s.place s.here
