-- Document 01, "Writing": what each call answers and the buffer that it leaves, for every input; and what the firmware is told.
-- Assumes nothing.
use Rattle.std.specs.Prelude.{ℕ, ◌+◌, ◌-◌, ◌≡◌, List, Bool, cond, length, take, eqb, leb, ltb}
use Rattle.answer.specs.Answer.{Told}
use Rattle.answer.specs.Answer as answer
use Rattle.answer.specs.Answer.{accepted}
use Rattle.group.specs.declared.Kind.TheVariants as kind
use Rattle.group.specs.declared.Phase.{Phase}
use Rattle.group.specs.declared.Phase.TheVariants.{Free, Inside, Owed}
use Rattle.laying.specs.declared.Writer.{Writer}
use Rattle.laying.specs.declared.Fit.{Fit}
use Rattle.laying.specs.declared.Fit.TheVariants as fit
use Rattle.laying.specs.Room.{room, fit_of, separator_fits, middle_length, last_with_total}
use Rattle.laying.specs.Laying.{Desk, lay_entry, lay_part, moved, shut, ready}
use Rattle.sound.specs.State.{ends_empty, record_refusal, separator_refusal, end_refusal}
use Rattle.laying.specs.WriterStart.{WriterStart}
use Rattle.laying.specs.WriterStart as start
use Rattle.writer.specs.WriteAnswer.{WriteAnswer}
use Rattle.writer.specs.WriteAnswer.{Finished, Closed, Refused}

-- A call's answer and the buffer that it leaves.
pub record Done : Type 0 where
  pub answer : WriteAnswer
  pub group : List ℕ

-- An outcome of the two.
abbrev pub done : WriteAnswer → List ℕ → Done
done a g = record { answer = a; group = g }

-- What the contract of a call says: its answer, the state in it with the rest, and every byte of the group that it leaves.
pub record Meets (d : Done) (a : WriteAnswer) (left : List ℕ) : Type 0 where
  pub answer : a ≡ d.answer
  pub group : left ≡ d.group

-- "A call either finishes its work, .."
unfoldable pub finished : Desk → Done
finished w = done (Finished w.state) w.group

-- ".. or closes the group and says its number, its entry count and how many bytes it took": the skip is counted.
unfoldable pub closed : ℕ → Desk → Done
closed taken w = done (Closed (shut w).state w.state.next (w.state.entries + 1) taken) (shut w).group

-- "A refusal answers the number .. and the state as given; nothing lent changes."
unfoldable pub or_refused : ℕ → Desk → Done → Done
or_refused refusal w a = cond (eqb refusal 0) a (done (Refused w.state refusal) w.group)

-- "Record of n bytes, free. n ≤ r: entire. Otherwise with r ≥ 1: start of r bytes, skip, close. With r ≤ 0: skip, close,
-- nothing taken."
unfoldable pub by_fit : Fit → List ℕ → Desk → Done
by_fit fit.Entire bytes w = finished (lay_part kind.Entire bytes w)
by_fit (fit.Start r) bytes w = closed r (moved Inside r (length bytes - r) (lay_part kind.Start (take r bytes) w))
by_fit fit.Close bytes w = closed 0 w

-- "n ≤ r ..": by the room that is left once an owed total is laid.
unfoldable pub record_free : List ℕ → Desk → Done
record_free bytes w = by_fit (fit_of (length bytes) (room w.state)) bytes w

-- "middle of L − 40, skip, close"
unfoldable pub middle : ℕ → List ℕ → Desk → Done
middle n bytes w =
    closed n (moved Inside (w.state.sum + n) (length bytes - n) (lay_part kind.Middle (take n bytes) w))

-- "n ≤ L − 44: last, total, free. Between: last, skip, close, total owed."
unfoldable pub last : List ℕ → Desk → Done
last bytes w =
    let whole = w.state.sum + length bytes in
    let v = lay_part kind.Last bytes w in
    cond (leb (length bytes) (last_with_total w.state)) (finished (moved Free 0 0 (lay_entry kind.Total whole v)))
    (closed (length bytes) (moved Owed whole 0 v))

-- "Record, inside. n > L − 40: middle."
unfoldable pub record_inside : List ℕ → Desk → Done
record_inside bytes w =
    cond (ltb (middle_length w.state) (length bytes)) (middle (middle_length w.state) bytes w) (last bytes w)

-- By the phase that the state came in: an owed total is laid by then, and leaves the writer free.
unfoldable pub record_accepted : Phase → List ℕ → Desk → Done
record_accepted Free bytes w = record_free bytes w
record_accepted Inside bytes w = record_inside bytes w
record_accepted Owed bytes w = record_free bytes w

-- The call: refused, or, once b4 is as it says and an owed total is laid, what an accepted record does.
unfoldable pub record_call : List ℕ → Bool → Desk → Done
record_call bytes warn w =
    or_refused (record_refusal w.state (length w.group) (length bytes)) w
    (record_accepted w.state.phase bytes (ready warn w))

-- "Separator: laid if r ≥ 0, else skip, close, not laid."
unfoldable pub separator_accepted : ℕ → Desk → Done
separator_accepted value w =
    cond (separator_fits (room w.state)) (finished (lay_entry kind.Separator value w)) (closed 0 w)

-- The call: refused, or, once b4 is as it says and an owed total is laid, what an accepted separator does.
unfoldable pub separator_call : ℕ → Bool → Desk → Done
separator_call value warn w =
    or_refused (separator_refusal w.state (length w.group) value) w (separator_accepted value (ready warn w))

-- "End: free with e = 0, and no total owed, closes nothing. Otherwise skip and close." "An end that closes nothing leaves
-- the state as it came, b4 included."
unfoldable pub end_accepted : Bool → Desk → Done
end_accepted warn w = cond (ends_empty w.state) (finished w) (closed 0 (ready warn w))

-- The call: refused, or what an accepted end does.
unfoldable pub end_call : Bool → Desk → Done
end_call warn w = or_refused (end_refusal w.state (length w.group)) w (end_accepted warn w)

-- Any call that is given a state, the number of its refusal, and what it answers and leaves.
pub data Call : Type 0 where
  a_record : List ℕ → Bool → Call
  a_separator : ℕ → Bool → Call
  an_end : Bool → Call

unfoldable pub refusal_of : Call → Desk → ℕ
refusal_of (a_record bytes warn) w = record_refusal w.state (length w.group) (length bytes)
refusal_of (a_separator value warn) w = separator_refusal w.state (length w.group) value
refusal_of (an_end warn) w = end_refusal w.state (length w.group)

unfoldable pub call : Call → Desk → Done
call (a_record bytes warn) w = record_call bytes warn w
call (a_separator value warn) w = separator_call value warn w
call (an_end warn) w = end_call warn w

-- What the firmware is told of each case: a close is outcome 1, with the group's number, its entry count and the bytes taken.
abbrev pub told : WriteAnswer → Told
told (Finished s) = accepted
told (Closed s number entries taken) = answer.Accepted 1 number entries taken
told (Refused s refusal) = answer.RefusedAt refusal 0

-- .. and of a start.
abbrev pub start_told : WriterStart → Told
start_told (start.Started s) = accepted
start_told (start.Refused refusal) = answer.RefusedAt refusal 0

-- The state that an answer gives.
unfoldable pub state_of : WriteAnswer → Writer
state_of (Finished s) = s
state_of (Closed s number entries taken) = s
state_of (Refused s refusal) = s
