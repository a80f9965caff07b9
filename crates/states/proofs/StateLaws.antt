-- A state that was encoded decodes to itself, and a slice whose numbers have a meaning is what its state encodes to.
-- Assumes nothing.
use mathlib.Core.Path.{◌≡◌, refl}
use mathlib.Core.Bool.{Bool, true, false, ◌&&◌}
use mathlib.Core.List.{List}
use Prim.Native.Nat.{ℕ, ◌^◌, ◌≤◌, ◌<◌}
use native.Mathlib.Omega.{arith}
use lib.ListN.{length}
use Rattle.numbers.proofs.InBytes.{field_of_bytes, bytes_of_all}
use Rattle.numbers.specs.Numbers.{Bytes, field}
use Rattle.numbers.proofs.Tests.{both}
use Rattle.group.specs.State.{run_sound}
use Rattle.group.proofs.StateLaws.{run_of_sound, sum_small}
use Rattle.reader.specs.declared.Reader.{Reader}
use Rattle.reader.specs.Answer as reader
use Rattle.laying.specs.declared.Writer.{Writer}
use Rattle.sound.specs.State.{is_free, is_inside, writer_sound}
use Rattle.sound.proofs.SoundLaws.{Sound, sound}
use Rattle.states.specs.States.{reader_length, writer_length, phase_meant, b4_meant, reader_of, reader_numbers, reader_bytes, reader_meant, writer_of, writer_numbers, writer_bytes, writer_meant}
use Rattle.states.proofs.NumberLaws.{phase_of_number, number_of_phase, phase_meant_lem, b4_of_number, number_of_b4, b4_meant_lem}

-- Numbers of a state that have room in four bytes.
pub record ReaderFits (s : Reader) : Type 0 where
  pub size : s.size < 256 ^ 4
  pub next : s.next < 256 ^ 4
  pub sum : s.sum < 256 ^ 4

pub record WriterFits (s : Writer) : Type 0 where
  pub size : s.size < 256 ^ 4
  pub next : s.next < 256 ^ 4
  pub sum : s.sum < 256 ^ 4
  pub rest : s.rest < 256 ^ 4
  pub filled : s.filled < 256 ^ 4
  pub entries : s.entries < 256 ^ 4

-- A state that was encoded decodes to itself.
pub reader_of_bytes : (s : Reader) → ReaderFits s → reader_of (reader_bytes s) ≡ s
unfolding reader_of
reader_of_bytes s h =
    rw (field_of_bytes (reader_numbers s) 0 (omega arith) h.size, field_of_bytes (reader_numbers s) 1 (omega arith) h.next, field_of_bytes (reader_numbers s) 2 (omega arith) (phase_meant_lem s.phase).0, field_of_bytes (reader_numbers s) 3 (omega arith) h.sum, field_of_bytes (reader_numbers s) 4 (omega arith) (b4_meant_lem s.warned).0, field_of_bytes (reader_numbers s) 5 (omega arith) (b4_meant_lem s.accepted).0, phase_of_number s.phase, b4_of_number s.warned, b4_of_number s.accepted)

pub writer_of_bytes : (s : Writer) → WriterFits s → writer_of (writer_bytes s) ≡ s
unfolding writer_of
writer_of_bytes s h =
    rw (field_of_bytes (writer_numbers s) 0 (omega arith) h.size, field_of_bytes (writer_numbers s) 1 (omega arith) h.next, field_of_bytes (writer_numbers s) 2 (omega arith) (phase_meant_lem s.phase).0, field_of_bytes (writer_numbers s) 3 (omega arith) h.sum, field_of_bytes (writer_numbers s) 4 (omega arith) h.filled, field_of_bytes (writer_numbers s) 5 (omega arith) h.entries, field_of_bytes (writer_numbers s) 6 (omega arith) (b4_meant_lem s.warned).0, field_of_bytes (writer_numbers s) 7 (omega arith) h.rest, phase_of_number s.phase, b4_of_number s.warned)

-- The phase, b4 and accepted of a state that was encoded have a meaning.
pub meant_reader : (s : Reader) → reader_meant (reader_bytes s) ≡ true
unfolding reader_meant
meant_reader s =
    let p = phase_meant_lem s.phase in
    let b = b4_meant_lem s.warned in
    let a = b4_meant_lem s.accepted in
    rw (field_of_bytes (reader_numbers s) 2 (omega arith) p.0, field_of_bytes (reader_numbers s) 4 (omega arith) b.0, field_of_bytes (reader_numbers s) 5 (omega arith) a.0, p.1, b.1, a.1)

pub meant_writer : (s : Writer) → writer_meant (writer_bytes s) ≡ true
unfolding writer_meant
meant_writer s =
    let p = phase_meant_lem s.phase in
    let b = b4_meant_lem s.warned in
    rw (field_of_bytes (writer_numbers s) 2 (omega arith) p.0, field_of_bytes (writer_numbers s) 6 (omega arith) b.0, p.1, b.1)

-- A sound state's numbers have room in four bytes.
pub sound_reader_fits : (s : Reader) → reader.sound s ≡ true → ReaderFits s
sound_reader_fits s e =
    let shared = (both (run_sound s.size s.next s.phase s.sum) (reader.accepted_kept s.next s.accepted) e).0 in
    let r = run_of_sound s.size s.next s.phase s.sum shared in
    record { size = omega arith; next = omega arith; sum = omega (arith, sum_small s.phase s.sum r.kept) }

held_small : (s : Writer) (free : Bool) → is_free s.phase ≡ free → Sound s → (s.filled ≤ 126632) × (s.entries ≤ 126632)
held_small s true e h = let r = h.room e in let m = h.run.most in (omega arith, omega arith)
held_small s false e h = let r = h.empty e in (omega arith, omega arith)

rest_small : (s : Writer) (inside : Bool) → is_inside s.phase ≡ inside → Sound s → s.rest ≤ 16777215
rest_small s true e h = omega (arith, h.more e)
rest_small s false e h = omega (arith, h.done e)

pub sound_writer_fits : (s : Writer) → writer_sound s ≡ true → WriterFits s
sound_writer_fits s e =
    let h = sound s e in
    let r = h.run in
    let held = held_small s (is_free s.phase) refl h in
    record {
      size = omega arith;
      next = omega arith;
      sum = omega (arith, sum_small s.phase s.sum r.kept);
      rest = omega (arith, rest_small s (is_inside s.phase) refl h);
      filled = omega arith;
      entries = omega arith;
    }

-- A slice of its length whose phase, b4 and accepted have a meaning is the bytes of the state that it holds: so of any sound one.
pub bytes_of_reader : (slice : List ℕ) → Bytes slice → length slice ≡ reader_length → reader_meant slice ≡ true
    → reader_bytes (reader_of slice) ≡ slice
unfolding reader_of reader_meant
bytes_of_reader slice b long e =
    let h = both (phase_meant (field slice 2)) (b4_meant (field slice 4) && b4_meant (field slice 5)) e in
    let k = both (b4_meant (field slice 4)) (b4_meant (field slice 5)) h.1 in
    rw (number_of_phase (field slice 2) h.0, number_of_b4 (field slice 4) k.0, number_of_b4 (field slice 5) k.1) (bytes_of_all slice 6 b long)

pub bytes_of_writer : (slice : List ℕ) → Bytes slice → length slice ≡ writer_length → writer_meant slice ≡ true
    → writer_bytes (writer_of slice) ≡ slice
unfolding writer_of writer_meant
bytes_of_writer slice b long e =
    let h = both (phase_meant (field slice 2)) (b4_meant (field slice 6)) e in
    rw (number_of_phase (field slice 2) h.0, number_of_b4 (field slice 6) h.1) (bytes_of_all slice 8 b long)
