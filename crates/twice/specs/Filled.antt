-- Document 01, "Writing": how full a group is when a call closes it, by its bytes and by what the caller sees. Nothing here knows
-- the room or the order in which things are laid.
-- Assumes nothing.
use Rattle.std.specs.Prelude.{ℕ, ◌+◌, ◌*◌, ◌-◌, ◌≤◌, ◌<◌, List, ◌++◌, Bool, ◌||◌, ◌≡◌, length, replicate}
use Rattle.group.specs.declared.Kind.TheVariants.{Skip}
use Rattle.group.specs.declared.Phase.{Phase}
use Rattle.group.specs.declared.Phase.TheVariants.{Free, Inside, Owed}
use Rattle.group.specs.Flags.{flag_of}
use Rattle.group.specs.Entries.{entry, entry_bytes}
use Rattle.laying.specs.Laying.{Desk}
use Rattle.writer.specs.WriteAnswer.{WriteAnswer}
use Rattle.writer.specs.WriteAnswer.{Finished, Closed, Refused}
use Rattle.writer.specs.Calls.{Call}
use Rattle.writer.specs.Calls.Call.{a_record, a_separator, an_end}

-- "A call may set b4": whether this one does.
abbrev pub warn_of : Call → Bool
warn_of (a_record bytes warn) = warn
warn_of (a_separator value warn) = warn
warn_of (an_end warn) = warn

-- "skip, close" while free: of a record its entry and one byte did not fit, of a separator its entry; an end may leave any gap.
abbrev pub FreeGap : Call → ℕ → Type 0
FreeGap (a_record bytes warn) gap = gap ≤ 4
FreeGap (a_separator value warn) gap = gap < 4
FreeGap (an_end warn) gap = Unit {0}

-- "Bytes between data and the lowest entry are the gap": what a close leaves of them, by the phase after it. None where a record
-- goes on; where a total is owed, too few for its entry.
abbrev pub GapAfter : Phase → Call → ℕ → Type 0
GapAfter Inside c gap = gap ≡ 0
GapAfter Owed c gap = gap < 4
GapAfter Free c gap = FreeGap c gap

-- A closed group: so much data; a gap of zeros; the skip, with b4 as it was or as this call sets it, its count L less the data;
-- then the entries before it and the last 32 bytes. No group is closed with its skip alone.
pub record Filled (c : Call) (size holds : ℕ) (b4 : Bool) (after : Phase) (entries : ℕ) (group : List ℕ) : Type 0 where
  pub front : List ℕ
  pub gap : ℕ
  pub behind : List ℕ
  pub stands : group ≡ front ++ (replicate gap 0 ++ (entry_bytes (entry (flag_of Skip (warn_of c || b4)) (size - length front)) ++ behind))
  pub data_bytes : length front ≡ holds
  pub long : length front + gap + 4 + length behind ≡ size
  pub table : length behind + 4 ≡ 32 + 4 * entries
  pub some : 2 ≤ entries
  pub left : GapAfter after c gap

-- .. where a call closes: the data is what stood and what the call took. One that finishes or is refused closes nothing.
abbrev pub FilledBy : Call → Desk → WriteAnswer → List ℕ → Type 0
FilledBy c w (Finished s) group = Unit {0}
FilledBy c w (Closed s number entries taken) group = Filled c w.state.size (w.state.filled + taken) w.state.warned s.phase entries group
FilledBy c w (Refused s refusal) group = Unit {0}
