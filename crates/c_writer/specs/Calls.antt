-- Document 01, "What the box holds": what a writer's start, a record, a separator and an end return and what they leave in every
-- slice that they may write, for every input. Each is the writer's own call on the state that the slice holds.
-- Assumes nothing.
use Rattle.std.specs.Prelude.{ℕ, List, [], ◌∷◌, Bool, ◌&&◌, length}
use Rattle.laying.specs.Start.{fresh_state, writer_start_call}
use Rattle.laying.specs.Laying.{Desk, desk}
use Rattle.writer.specs.Calls.{Done, start_told, record_call, separator_call, end_call, told, state_of}
use Rattle.slices.specs.Call.{Left, slice, lengths_kept, of_meaning, called}
use Rattle.states.specs.States.{writer_length, b4_set, b4_meant, writer_of, writer_bytes, writer_meant}

-- "A writer starts the same way."
unfoldable pub dds_writer_start : (size first : ℕ) (state answer : List ℕ) → Left
dds_writer_start size first state answer =
    called (lengths_kept (length state) writer_length (length answer)) (start_told (writer_start_call size first))
    (writer_bytes (fresh_state size first) ∷ []) (state ∷ []) answer

-- What a record, a separator or an end leaves, by what the writer's own call has done on the state that the slice holds. `warn` is a
-- b4 number too.
unfoldable pub written : Done → (state group : List ℕ) (warn : ℕ) (answer : List ℕ) → Left
written done state group warn answer =
    called (lengths_kept (length state) writer_length (length answer)) (of_meaning (writer_meant state && b4_meant warn) (told done.answer))
    (writer_bytes (state_of done.answer) ∷ done.group ∷ []) (state ∷ group ∷ []) answer

-- A record, a separator or an end through the slices.
abbrev pub writing : (Bool → Desk → Done) → (state group : List ℕ) (warn : ℕ) (answer : List ℕ) → Left
writing call state group warn answer = written (call (b4_set warn) (desk (writer_of state) group)) state group warn answer

unfoldable pub dds_record : (state group bytes : List ℕ) (warn : ℕ) (answer : List ℕ) → Left
dds_record state group bytes warn answer = writing (record_call bytes) state group warn answer

unfoldable pub dds_separator : (state group : List ℕ) (value warn : ℕ) (answer : List ℕ) → Left
dds_separator state group value warn answer = writing (separator_call value) state group warn answer

unfoldable pub dds_end : (state group : List ℕ) (warn : ℕ) (answer : List ℕ) → Left
dds_end state group warn answer = writing end_call state group warn answer

-- What a call leaves in the state slice, and all but a start in the group.
abbrev pub writer_left : Left → List ℕ
writer_left o = slice o 0

abbrev pub group_left : Left → List ℕ
group_left o = slice o 1
