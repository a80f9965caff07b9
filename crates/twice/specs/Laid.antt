-- Document 01, "Writing": what a call writes into its group, by the bytes before and after it.
-- Assumes nothing.
use Rattle.std.specs.Prelude.{ℕ, ◌+◌, ◌≤◌, ◌<◌, List, [], ◌++◌, Bool, ◌||◌, ◌≡◌, length, take, drop, get_or}
use Rattle.group.specs.declared.Entry.{Entry}
use Rattle.group.specs.Sizes.{entry_offset}
use Rattle.group.specs.Flags.{b4_of}
use Rattle.group.specs.Entries.{table_bytes}
use Rattle.laying.specs.declared.Writer.{Writer}
use Rattle.laying.specs.Laying.{Desk}
use Rattle.writer.specs.WriteAnswer.{WriteAnswer}
use Rattle.writer.specs.WriteAnswer.{Finished, Closed, Refused}
use Rattle.writer.specs.Calls.{Call}
use Rattle.writer.specs.Calls.Call.{a_record, a_separator, an_end}
use Rattle.layout.specs.Items.{Each}
use Rattle.twice.specs.Filled.{warn_of}

-- The bytes that a call offers.
abbrev pub offer_of : Call → List ℕ
offer_of (a_record bytes warn) = bytes
offer_of (a_separator value warn) = []
offer_of (an_end warn) = []

-- "All entries laid by that call carry it." Below the table that stood come these new entries, each with b4 as it was or as the
-- call sets it; behind the data that stood come these bytes, the first of the offer.
pub record LaidIn (c : Call) (w : Desk) (entries : ℕ) (group : List ℕ) : Type 0 where
  pub new : List Entry
  pub bytes : List ℕ
  pub counted : entries ≡ w.state.entries + length new
  pub marked : Each (λ (e : Entry). b4_of e.flag ≡ (warn_of c || w.state.warned)) new
  pub table : drop (entry_offset w.state.size entries) group ≡ table_bytes new ++ drop (entry_offset w.state.size w.state.entries) w.group
  pub offered : bytes ≡ take (length bytes) (offer_of c)
  pub behind : take (w.state.filled + length bytes) group ≡ take w.state.filled w.group ++ bytes

-- "A call may set b4"; it then stays set. "An end that closes nothing leaves the state as it came, b4 included."
abbrev pub b4_after : Call → Bool → Bool
b4_after (a_record bytes warn) b4 = warn || b4
b4_after (a_separator value warn) b4 = warn || b4
b4_after (an_end warn) b4 = b4

-- "A call either finishes its work": all that was offered is laid and counted, and every byte between data and table stays.
pub record FinishedIn (c : Call) (w : Desk) (s : Writer) (group : List ℕ) : Type 0 where
  pub laid : LaidIn c w s.entries group
  pub whole : laid.bytes ≡ offer_of c
  pub holds : s.filled ≡ w.state.filled + length laid.bytes
  pub between : (i : ℕ) → s.filled ≤ i → i < entry_offset w.state.size s.entries → get_or group i 0 ≡ get_or w.group i 0
  pub b4 : s.warned ≡ b4_after c w.state.warned

-- ".. or closes the group and says its number, its entry count and how many bytes it took": those that it laid. After a close d and
-- e begin anew "and the number is one higher"; b4 is as the skip has it: "a close no longer clears it".
pub record ClosedIn (c : Call) (w : Desk) (s : Writer) (number entries taken : ℕ) (group : List ℕ) : Type 0 where
  pub laid : LaidIn c w entries group
  pub took : taken ≡ length laid.bytes
  pub closes : number ≡ w.state.next
  pub next : s.next ≡ number + 1
  pub filled : s.filled ≡ 0
  pub none : s.entries ≡ 0
  pub b4 : s.warned ≡ (warn_of c || w.state.warned)

-- By a call's answer.
abbrev pub LaidBy : Call → Desk → WriteAnswer → List ℕ → Type 0
LaidBy c w (Finished s) group = FinishedIn c w s group
LaidBy c w (Closed s number entries taken) group = ClosedIn c w s number entries taken group
LaidBy c w (Refused s refusal) group = Unit {0}
