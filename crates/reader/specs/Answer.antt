-- Document 01, "Reading" and "Numbers the firmware sees": what a start and a read answer, the state and the rows they leave.
-- Assumes nothing.
use Rattle.std.specs.Prelude.{ℕ, ◌+◌, ◌*◌, ◌-◌, ◌≡◌, List, Bool, true, false, cond, not, ◌&&◌, ◌||◌, eqb, leb, length}
use Rattle.group.specs.declared.Phase.TheVariants as phase
use Rattle.group.specs.Sizes.{information_length, last_number, entries_kept, entry_offset}
use Rattle.numbers.specs.Store.{put}
use Rattle.answer.specs.Answer.{Told}
use Rattle.answer.specs.Answer.{Accepted, RefusedAt}
use Rattle.answer.specs.Answer.{accepted}
use Rattle.group.specs.Entries.{entries_below}
use Rattle.group.specs.State.{run_sound, start_refusal}
use Rattle.reader.specs.declared.Reader.{Reader}
use Rattle.entry.specs.declared.Cursor.{Cursor}
use Rattle.entry.specs.ScanEnd.{ScanEnd}
use Rattle.entry.specs.ScanEnd as scanned
use Rattle.reader.specs.ReaderStart.{ReaderStart}
use Rattle.reader.specs.ReaderStart as start
use Rattle.reader.specs.ReadAnswer.{ReadAnswer}
use Rattle.reader.specs.ReadAnswer as answer
use Rattle.entry.specs.Rules.{stand_at, phase_after}
use Rattle.entry.specs.Scan.{scan}
use Rattle.rows.specs.Rows.{rows_from}

-- "A reader starts with L and the first number." b4 is clear: "a close no longer clears it, a fresh start does". No group has been
-- accepted yet.
abbrev pub fresh : ℕ → ℕ → Reader
fresh size first = record { size = size; next = first; phase = phase.Free; warned = false; accepted = false; sum = 0 }

-- "Order: start 2, 3." "a refused start gives no state"
unfoldable pub reader_start_call : ℕ → ℕ → ReaderStart
reader_start_call size first =
    cond (eqb (start_refusal size first) 0) (start.Started (fresh size first)) (start.Refused (start_refusal size first))

-- 2026-05: a state "with next number 1 that says a group was accepted is not sound".
abbrev pub accepted_kept : (next : ℕ) (accepted : Bool) → Bool
accepted_kept next accepted = leb 2 next || not accepted

-- "It is sound if .." (what both states share), and what it says of an accepted group can be.
abbrev pub sound : Reader → Bool
sound s = run_sound s.size s.next s.phase s.sum && accepted_kept s.next s.accepted

-- 4: the group buffer's length is L.
abbrev pub length_kept : Reader → ℕ → Bool
length_kept s length = eqb length s.size

-- 2026-05: "A group with the number of the last accepted group of this run". "Before any group has been accepted in the run there
-- is no repeat."
abbrev pub repeats : Reader → ℕ → Bool
repeats s number = eqb (number + 1) s.next && s.accepted

-- "decided after 4, before 5, and so at 65,536 too": the state is sound, the buffer L bytes long, and the group a repeat.
unfoldable pub is_repeat : Reader → (length number : ℕ) → Bool
is_repeat s length number = sound s && (length_kept s length && repeats s number)

-- 5: the number is the next. "At 65,536 every number is refused."
abbrev pub next_is : Reader → ℕ → Bool
next_is s number = eqb number s.next && leb number last_number

-- 7: there are 3n row numbers at least.
abbrev pub rows_fit : ℕ → ℕ → Bool
rows_fit n room = leb (3 * n) room

-- "Read 1, 4, 5, 6, 7": the number of a refusal before the scan, 0 if there is none.
unfoldable pub read_refusal : Reader → (length number n room : ℕ) → ℕ
read_refusal s length number n room =
    cond (not (sound s)) 1
    (cond (not (length_kept s length)) 4
    (cond (not (next_is s number)) 5
    (cond (not (entries_kept s.size n)) 6
    (cond (not (rows_fit n room)) 7 0))))

-- Where a group's scan begins. b4 is as the group before left it: "Reader and writer states carry it".
abbrev pub opening : Reader → Cursor
opening s = record { stand = stand_at s.phase; warned = s.warned; sum = s.sum; reached = 0 }

-- The state after a group whose scan reached its end: it says that a group was accepted.
abbrev pub closing : Reader → Cursor → Reader
closing s c =
    record { size = s.size; next = s.next + 1; phase = phase_after c.stand; warned = c.warned; accepted = true; sum = c.sum }

-- The scan of a whole group of n entries.
unfoldable pub group_scan : Reader → List ℕ → ℕ → ScanEnd
group_scan s group n =
    scan s.size (entry_offset s.size n) (entries_below group (s.size - information_length) n) 1 (opening s)

-- "A refusal answers the number, the place and the state as given."
abbrev pub answered : Reader → ScanEnd → ReadAnswer
answered s (scanned.Reached c) = answer.Accepted (closing s c)
answered s (scanned.Refused fault place c) = answer.Refused s fault place

-- What a read answers that is lent rows for `room` numbers. Of a repeat "the contents aren't examined".
unfoldable pub read_call : Reader → (group : List ℕ) (number n room : ℕ) → ReadAnswer
read_call s group number n room =
    cond (is_repeat s (length group) number) (answer.Repeated s)
    (cond (eqb (read_refusal s (length group) number n room) 0) (answered s (group_scan s group n))
    (answer.Refused s (read_refusal s (length group) number n room) 0))

-- The rows of a group of n entries.
unfoldable pub group_rows : Reader → List ℕ → ℕ → List ℕ
group_rows s group n = rows_from 0 (entries_below group (s.size - information_length) n)

-- What the firmware is told of each case. A repeat is outcome 2: "C returns 0, its answer slice says so".
abbrev pub told : ReadAnswer → Told
told (answer.Accepted t) = accepted
told (answer.Repeated s) = Accepted 2 0 0 0
told (answer.Refused s refusal place) = RefusedAt refusal place

abbrev pub start_told : ReaderStart → Told
start_told (start.Started s) = accepted
start_told (start.Refused refusal) = RefusedAt refusal 0

-- "Rows after the n-th are untouched." A repeat and a refusal leave all of them.
abbrev pub rows_left : ReadAnswer → (new old : List ℕ) → List ℕ
rows_left (answer.Accepted t) new old = put old 0 new
rows_left (answer.Repeated s) new old = old
rows_left (answer.Refused s refusal place) new old = old

-- The state that a read leaves: "the state as given" where it is refused, and at a repeat, which lets "state and rows stay".
abbrev pub state_of : ReadAnswer → Reader
state_of (answer.Accepted t) = t
state_of (answer.Repeated s) = s
state_of (answer.Refused s refusal place) = s

-- Rows that are lent as numbers. (Lent as bytes they are stored by `in_bytes`.)
abbrev pub as_numbers : List ℕ → List ℕ
as_numbers rows = rows

-- Reading a group: what it answers, and the rows that it leaves in place of `old`, which has room for `room` numbers and
-- stores them in this form.
pub record Reads (form : List ℕ → List ℕ) (s : Reader) (group : List ℕ) (number n room : ℕ) (old : List ℕ) (a : ReadAnswer) (rows : List ℕ) : Type 0 where
  pub answer : a ≡ read_call s group number n room
  pub rows_left : rows ≡ rows_left a (form (group_rows s group n)) old
