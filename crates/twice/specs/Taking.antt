-- Document 01, "Numbers the firmware sees": the calls that a caller may make who keeps account of what it has offered.
-- Assumes nothing.
use Rattle.std.specs.Prelude.{ℕ, ◌≤◌, ◌≡◌, length}
use Rattle.group.specs.declared.Phase.{Phase}
use Rattle.group.specs.declared.Phase.TheVariants.{Free, Inside, Owed}
use Rattle.writer.specs.Calls.{Call}
use Rattle.writer.specs.Calls.Call.{a_record, a_separator, an_end}
use Rattle.layout.specs.Writing.{Account}

-- "A record is 1 to 16,777,215 bytes": one of n bytes.
abbrev pub ARecord : ℕ → Type 0
ARecord n = (1 ≤ n) × (n ≤ 16777215)

-- A proper call, by the phase that the caller sees and its account: a record or, inside one, exactly what is still asked for; a
-- separator of 0 or 1, and an end, where no record is open.
abbrev pub Proper : Call → Phase → Account → Type 0
Proper (a_record bytes warn) Free a = ARecord (length bytes)
Proper (a_record bytes warn) Inside a = bytes ≡ a.asked
Proper (a_record bytes warn) Owed a = ARecord (length bytes)
Proper (a_separator value warn) Free a = value ≤ 1
Proper (a_separator value warn) Inside a = ⊥
Proper (a_separator value warn) Owed a = value ≤ 1
Proper (an_end warn) Free a = Unit {0}
Proper (an_end warn) Inside a = ⊥
Proper (an_end warn) Owed a = Unit {0}
