-- Document 01, "What the box holds": "Each call returns the number, 0 if accepted." When a reader's start and a read are accepted, when
-- a read is a repeat and what it leaves then, and what a read leaves that is refused.
-- Assumes nothing.
use Rattle.std.specs.Prelude.{ℕ, ◌/◌, ◌≡◌, true, false, List, [], ◌∷◌, length}
use Rattle.numbers.specs.Numbers.{in_bytes}
use Rattle.reader.specs.declared.Reader.{Reader}
use Rattle.reader.specs.ReaderStart.{Started}
use Rattle.reader.specs.ReadAnswer.{Accepted}
use Rattle.reader.specs.Answer.{fresh, reader_start_call, is_repeat, read_call}
use Rattle.reader.specs.Refused.{RefusedRead}
use Rattle.slices.specs.Call.{Left, left, lengths_kept}
use Rattle.states.specs.States.{reader_length, reader_of, reader_meant}

-- The slices are of their lengths, and the reader's own start starts.
pub record StartAccepted (size first : ℕ) (state answer : List ℕ) : Type 0 where
  pub kept : lengths_kept (length state) reader_length (length answer) ≡ true
  pub starts : reader_start_call size first ≡ Started (fresh size first)

-- The slices are of their lengths, the numbers of the state have a meaning, and the reader's own read of the state that the
-- slice holds accepts the group.
pub record ReadAccepted (state group : List ℕ) (number n : ℕ) (rows answer : List ℕ) : Type 0 where
  pub kept : lengths_kept (length state) reader_length (length answer) ≡ true
  pub meant : reader_meant state ≡ true
  pub left : Reader
  pub accepts : read_call (reader_of state) group number n (length rows / 4) ≡ Accepted left

-- The slices are of their lengths, the numbers of the state have a meaning, and the group is a repeat. Nothing here speaks of the
-- group's bytes, the entry count or the rows: "the contents aren't examined".
pub record ReadRepeated (state group : List ℕ) (number : ℕ) (answer : List ℕ) : Type 0 where
  pub kept : lengths_kept (length state) reader_length (length answer) ≡ true
  pub meant : reader_meant state ≡ true
  pub repeat : is_repeat (reader_of state) (length group) number ≡ true

-- What a repeat leaves: "C returns 0, its answer slice says so", by outcome 2; "state and rows stay".
abbrev pub repeat_left : (state rows : List ℕ) → Left
repeat_left state rows = left 0 (state ∷ rows ∷ []) (in_bytes (0 ∷ 0 ∷ 2 ∷ 0 ∷ 0 ∷ 0 ∷ []))

-- "A state or answer slice of another length is refusal 1, .. with nothing written." "Otherwise a refusal writes just the answer slice":
-- its number and its place, and no more. (A number of the state that has no meaning is 1, with place 0, as well.)
pub data ReadRefused (state : List ℕ) (n : ℕ) (rows answer : List ℕ) : Left → Type 0 where
  by_a_length : lengths_kept (length state) reader_length (length answer) ≡ false → ReadRefused state n rows answer (left 1 (state ∷ rows ∷ []) answer)
  told : {s : Reader} {refusal place : ℕ} → RefusedRead (reader_of state) n s refusal place →
      ReadRefused state n rows answer (left refusal (state ∷ rows ∷ []) (in_bytes (refusal ∷ place ∷ 0 ∷ 0 ∷ 0 ∷ 0 ∷ [])))
