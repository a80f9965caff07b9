-- The theorems of this crate, each under document 01's sentence.
-- Assumes nothing.
use Prim.Native.Nat.{ℕ, ◌≤◌}
use mathlib.Core.List.{List}
use mathlib.Core.Bool.{true}
use mathlib.Core.Path.{◌≡◌, ◌∙◌}
use lib.ListN.{length}
use Rattle.answer.specs.Answer.{refusal_told}
use Rattle.reader.specs.declared.Reader.{Reader}
use Rattle.reader.specs.ReadAnswer as answer
use Rattle.reader.specs.Answer as reading
use Rattle.reader.specs.Answer.{reader_start_call, read_call, as_numbers, Reads}
use Rattle.laying.specs.Start.{writer_start_call}
use Rattle.laying.specs.Laying.{Desk}
use Rattle.writer.specs.Calls.{Call, call, told, start_told, state_of}
use Rattle.writer.proofs.Theorems.{refusal_told_lem}
use Rattle.layout.specs.Layout.{Image}
use Rattle.layout.specs.Writing.{Account, Wrote}
use Rattle.twice.specs.Filled.{FilledBy}
use Rattle.twice.specs.Laid.{LaidBy}
use Rattle.twice.specs.Taking.{Proper}
use Rattle.twice.specs.RowsAre.{RowsAre}
use Rattle.twice.specs.Owing.{OwedEarlyIn}
use Rattle.twice.specs.Orders.{FirstBroken, start_rules, call_rules, BeforeScan}
use Rattle.twice.proofs.Fills as filling
use Rattle.twice.proofs.Lays as laying
use Rattle.twice.proofs.Warned as staying
use Rattle.twice.proofs.Takes as taking
use Rattle.twice.proofs.Rows as rowed
use Rattle.twice.proofs.Owing as owing
use Rattle.twice.proofs.InOrder as ordered

-- "Closing sets the gap to zeros." Every close, from any state, leaves data, zeros, the skip and what stands behind it, with two
-- entries at least; no gap where a record goes on, one too small where an item did not fit or a total is owed, any at an end.
pub fills : (c : Call) (w : Desk) → FilledBy c w (call c w).answer (call c w).group
fills = filling.fills

-- "Every other byte that isn't a new data byte or new entry stays." Below the old table come only the new entries, each with b4 as
-- this call or an earlier one of the run set it; behind the old data come only bytes of the offer, from its first, and a close
-- says how many. Old table and old data stay, and where the call finishes so does each byte between them.
pub lays : (c : Call) (w : Desk) → LaidBy c w (call c w).answer (call c w).group
lays = laying.lays

-- "a close no longer clears it": b4 that is set stays set, whatever call comes, and where that is refused too.
pub warned_stays : (c : Call) (w : Desk) → w.state.warned ≡ true → (state_of (call c w).answer).warned ≡ true
warned_stays = staying.warned_stays

-- "Useless versions: refusing all": in a run that was written from its start, with whatever calls and refusals, no proper call is
-- refused while a group number remains.
pub takes : {size first : ℕ} {w : Desk} {run : List Image} {closed now : Account} (c : Call) → Wrote size first w run closed now →
    w.state.next ≤ 65535 → Proper c w.state.phase now → refusal_told (told (call c w).answer) ≡ 0
takes {w = w} c x n p = refusal_told_lem c w ∙ taking.takes c x n p

-- "kind, data offset reached before this entry, count. Rows after the n-th are untouched." The rows of every accepted read, from any
-- state and over any buffer: row k is kind, data before and count of the entry at L − 32 − 4k, and what stands behind row n stays.
pub rows_are : (s t : Reader) (group : List ℕ) (number n : ℕ) (old rows : List ℕ) →
    Reads as_numbers s group number n (length old) old (answer.Accepted t) rows → RowsAre s.size n group old rows
rows_are = rowed.rows_are

-- 2026-06: "Refuse a group of two entries, last then skip, whose skip count is 44 or more." From no state is such a group accepted.
pub owed_early_refused : (s t : Reader) (group : List ℕ) (number n room : ℕ) → OwedEarlyIn s.size n group → read_call s group number n room ≡ answer.Accepted t → ⊥
owed_early_refused = owing.owed_early_refused

-- "23 total owed too early, at entry 2": it is told of no other group, and nowhere else.
pub owed_early_only : (s t : Reader) (group : List ℕ) (number n room place : ℕ) → read_call s group number n room ≡ answer.Refused t 23 place →
    OwedEarlyIn s.size n group × (place ≡ 2)
owed_early_only = owing.owed_early_only

-- "Order: start 2, 3." What is told of a start, a reader's and a writer's, is the first of its rules that is broken.
pub reader_start_order : (size first : ℕ) → FirstBroken (start_rules size first) (refusal_told (reading.start_told (reader_start_call size first)))
reader_start_order = ordered.reader_start_order

pub writer_start_order : (size first : ℕ) → FirstBroken (start_rules size first) (refusal_told (start_told (writer_start_call size first)))
writer_start_order = ordered.writer_start_order

-- "Read 1, 4, 5, 6, 7, then entry by entry": so before its scan a read, with a repeat "decided after 4, before 5".
pub read_order : (s : Reader) (group : List ℕ) (number n room : ℕ) → BeforeScan s group number n room
read_order = ordered.read_order

-- "Record 1, 4, 14, 15, 16. Separator 1, 4, 14, 17, 18. End 1, 4, 17, 14": so the writer's three calls.
pub call_order : (c : Call) (w : Desk) → FirstBroken (call_rules c w) (refusal_told (told (call c w).answer))
call_order = ordered.call_order
