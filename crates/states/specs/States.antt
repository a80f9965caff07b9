-- Document 01, "What the box holds": "a state, an answer and rows are lent byte slices, each number four bytes, most
-- significant first". The length and the fields of a state slice, from the slice to a state and back.
-- Assumes nothing.
use Rattle.std.specs.Prelude.{ℕ, List, [], ◌∷◌, Bool, true, false, cond, ◌&&◌, eqb, leb}
use Rattle.group.specs.declared.Phase.{Phase}
use Rattle.group.specs.declared.Phase.TheVariants.{Free, Inside, Owed}
use Rattle.numbers.specs.Numbers.{in_bytes, field}
use Rattle.reader.specs.declared.Reader.{Reader}
use Rattle.laying.specs.declared.Writer.{Writer}
use Rattle.states.specs.declared.Run.{Run}

-- Both states begin with the same four numbers; a reader's has two more, a writer's four.
abbrev pub run_length : ℕ
run_length = 16

abbrev pub reader_length : ℕ
reader_length = 24

abbrev pub writer_length : ℕ
writer_length = 32

-- "free / inside / owed" as a number, and back. Above 2 a number "has no meaning".
abbrev pub phase_number : Phase → ℕ
phase_number Free = 0
phase_number Inside = 1
phase_number Owed = 2

abbrev pub phase_of : ℕ → Phase
phase_of n = cond (eqb n 0) Free (cond (eqb n 1) Inside Owed)

abbrev pub phase_meant : ℕ → Bool
phase_meant n = leb n 2

-- b4 as a number, 0 clear and 1 set, and back. Above 1 a number "has no meaning". A reader's `accepted` is told by the same two
-- numbers: 1 where a group of the run has been accepted.
abbrev pub b4_number : Bool → ℕ
b4_number false = 0
b4_number true = 1

abbrev pub b4_set : ℕ → Bool
b4_set n = eqb n 1

abbrev pub b4_meant : ℕ → Bool
b4_meant n = leb n 1

-- What both begin with: size L, next number, phase, sum of parts.
abbrev pub run_of : List ℕ → Run
run_of slice = record { size = field slice 0; next = field slice 1; phase = phase_of (field slice 2); sum = field slice 3 }

-- A reader's state: these four, then b4 and, since 2026-05, whether a group has been accepted.
unfoldable pub reader_of : List ℕ → Reader
reader_of slice =
    record {
      size = (run_of slice).size;
      next = (run_of slice).next;
      phase = (run_of slice).phase;
      warned = b4_set (field slice 4);
      accepted = b4_set (field slice 5);
      sum = (run_of slice).sum;
    }

abbrev pub reader_numbers : Reader → List ℕ
reader_numbers s = s.size ∷ s.next ∷ phase_number s.phase ∷ s.sum ∷ b4_number s.warned ∷ b4_number s.accepted ∷ []

abbrev pub reader_bytes : Reader → List ℕ
reader_bytes s = in_bytes (reader_numbers s)

-- A writer's state: the same four, then data bytes d, entries e, b4, rest.
unfoldable pub writer_of : List ℕ → Writer
writer_of slice =
    record {
      size = (run_of slice).size;
      next = (run_of slice).next;
      phase = (run_of slice).phase;
      warned = b4_set (field slice 6);
      sum = (run_of slice).sum;
      rest = field slice 7;
      filled = field slice 4;
      entries = field slice 5;
    }

abbrev pub writer_numbers : Writer → List ℕ
writer_numbers s =
    s.size ∷ s.next ∷ phase_number s.phase ∷ s.sum ∷ s.filled ∷ s.entries ∷ b4_number s.warned ∷ s.rest ∷ []

abbrev pub writer_bytes : Writer → List ℕ
writer_bytes s = in_bytes (writer_numbers s)

-- The numbers of a state slice that could have no meaning have one.
unfoldable pub reader_meant : List ℕ → Bool
reader_meant slice = phase_meant (field slice 2) && (b4_meant (field slice 4) && b4_meant (field slice 5))

unfoldable pub writer_meant : List ℕ → Bool
writer_meant slice = phase_meant (field slice 2) && b4_meant (field slice 6)
