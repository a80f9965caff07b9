-- Document 01, "What the box holds": what a reader's start and a read return and what they leave in every slice that they may write,
-- for every input. Each is the reader's own call on the state that the slice holds.
-- Assumes nothing.
use Rattle.std.specs.Prelude.{ℕ, ◌/◌, List, [], ◌∷◌, length}
use Rattle.numbers.specs.Numbers.{in_bytes}
use Rattle.reader.specs.ReadAnswer.{ReadAnswer}
use Rattle.reader.specs.ReadAnswer as read
use Rattle.reader.specs.Answer.{fresh, reader_start_call, start_told, read_call, told, group_rows, rows_left}
use Rattle.slices.specs.Call.{Left, slice, lengths_kept, of_meaning, called}
use Rattle.states.specs.States.{reader_length, reader_of, reader_bytes, reader_meant}

-- "A reader starts with L and the first number": its state's bytes, or 2 or 3. "a refused start gives no state": what stood in the
-- slice stays, whatever it is. It is never looked at.
unfoldable pub dds_reader_start : (size first : ℕ) (state answer : List ℕ) → Left
dds_reader_start size first state answer =
    called (lengths_kept (length state) reader_length (length answer)) (start_told (reader_start_call size first))
    (reader_bytes (fresh size first) ∷ []) (state ∷ []) answer

-- What a read leaves in the state slice: the new state's bytes, and what stood there where it answers a repeat, for which "state and
-- rows stay", or is refused.
abbrev pub state_left : ReadAnswer → (old : List ℕ) → List ℕ
state_left (read.Accepted t) old = reader_bytes t
state_left (read.Repeated s) old = old
state_left (read.Refused s refusal place) old = old

-- "One call reads one group." "A row slice under 12n bytes is 7": it has room for a fourth as many numbers as it has bytes. "Rows
-- after the n-th are untouched."
unfoldable pub dds_read : (state group : List ℕ) (number n : ℕ) (rows answer : List ℕ) → Left
dds_read state group number n rows answer =
    let s = reader_of state in
    let a = read_call s group number n (length rows / 4) in
    called (lengths_kept (length state) reader_length (length answer)) (of_meaning (reader_meant state) (told a))
    (state_left a state ∷ rows_left a (in_bytes (group_rows s group n)) rows ∷ []) (state ∷ rows ∷ []) answer

-- What a start or a read leaves in the state slice, and a read in the rows.
abbrev pub reader_left : Left → List ℕ
reader_left o = slice o 0

abbrev pub rows_read : Left → List ℕ
rows_read o = slice o 1
