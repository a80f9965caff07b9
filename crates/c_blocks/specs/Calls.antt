-- Change request 2026-09: what the three calls on blocks of one size return and what they leave in every slice that they may
-- write, for every input.
-- Assumes nothing.
use Rattle.std.specs.Prelude.{ℕ, ◌/◌, List, [], ◌∷◌, ◌++◌, length, take, drop}
use Rattle.numbers.specs.Numbers.{number_at, bytes_of, in_bytes, field}
use Rattle.answer.specs.Answer.{Told}
use Rattle.answer.specs.Answer.{Accepted}
use Rattle.answer.specs.Answer.{accepted}
use Rattle.reader.specs.Answer.{fresh, start_told, told, group_rows, rows_left}
use Rattle.blocks.specs.Answer.{blocks_start_call, blocks_read_call}
use Rattle.std.specs.Prelude.{Option, Some, None}
use Rattle.seek.specs.Find.{find_call}
use Rattle.slices.specs.Call.{Left, left, slice, lengths_kept, answer_kept, of_meaning, called}
use Rattle.states.specs.States.{reader_length, reader_of, reader_bytes, reader_meant}
use Rattle.c_reader.specs.Calls.{state_left}

-- A state slice is a plain reader's, and the block size behind it.
abbrev pub blocks_length : ℕ
blocks_length = 28

abbrev pub reader_part : (state : List ℕ) → List ℕ
reader_part state = take reader_length state

abbrev pub block_part : (state : List ℕ) → List ℕ
block_part state = drop reader_length state

abbrev pub block_of : (state : List ℕ) → ℕ
block_of state = field state 6

-- "a block size is chosen at start": a fresh reader's bytes and the block size's, or 2, 3 or 50.
unfoldable pub dds_blocks_start : (size first block : ℕ) (state answer : List ℕ) → Left
dds_blocks_start size first block state answer =
    called (lengths_kept (length state) blocks_length (length answer)) (start_told (blocks_start_call size first block))
    ((reader_bytes (fresh size first) ++ bytes_of 4 block) ∷ []) (state ∷ []) answer

-- "a profile beside the plain reader": a read, with what the plain reader leaves in its part of the state and in the rows. The
-- block size stays.
unfoldable pub dds_blocks_read : (state group : List ℕ) (number n : ℕ) (rows answer : List ℕ) → Left
dds_blocks_read state group number n rows answer =
    let s = reader_of (reader_part state) in
    let a = blocks_read_call (block_of state) s group number n (length rows / 4) in
    called (lengths_kept (length state) blocks_length (length answer)) (of_meaning (reader_meant (reader_part state)) (told a))
    ((state_left a (reader_part state) ++ block_part state) ∷ rows_left a (in_bytes (group_rows s group n)) rows ∷ []) (state ∷ rows ∷ []) answer

-- "the offset in the row of block b .. or that b doesn't begin there": outcome 1 and the offset, or outcome 0.
abbrev pub find_told : Option ℕ → Told
find_told (Some offset) = Accepted 1 offset 0 0
find_told None = accepted

unfoldable pub dds_blocks_find : (rows : List ℕ) (before b : ℕ) (answer : List ℕ) → Left
dds_blocks_find rows before b answer = called (answer_kept answer) (find_told (find_call rows before b)) [] [] answer

-- The offset in the answer slice of a search: the fourth of its six numbers.
abbrev pub offset_seen : Left → ℕ
offset_seen o = number_at 4 o.answer 12

-- What a start or a read leaves in the state slice, and a read in the rows.
abbrev pub blocks_left : Left → List ℕ
blocks_left o = slice o 0

abbrev pub blocks_rows : Left → List ℕ
blocks_rows o = slice o 1

-- What a plain read leaves, with the block size's bytes behind the state.
abbrev pub with_block : (block : List ℕ) → Left → Left
with_block block o = left o.refusal ((slice o 0 ++ block) ∷ slice o 1 ∷ []) o.answer
