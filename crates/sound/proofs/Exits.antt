-- Two exits of the chains that the code tests: what is met on the way to them, as facts, gives the definition's value.
-- Assumes nothing.
use mathlib.Core.Path.{◌≡◌}
use mathlib.Core.Bool.{true, false}
use Prim.Native.Nat.{ℕ, ◌≤◌, ◌<◌}
use borrow.Author.Tests.{eq-eqb, le-leb, lt-leb}
use Rattle.group.specs.Sizes.{last_number}
use Rattle.laying.specs.declared.Writer.{Writer}
use Rattle.sound.specs.State.{is_inside, is_owed, writer_sound, record_refusal, end_refusal}

-- What is met on the way through the links "1, 4" and "1, 4, 14".
module _ (w : Writer) (len : ℕ) where
  abbrev pub LengthMet : Type 0
  LengthMet = (writer_sound w ≡ true) × (len ≡ w.size)

  abbrev pub RemainsMet : Type 0
  RemainsMet = LengthMet × (w.next ≤ last_number)

-- A record's, "1, 4, 14, 15, 16": an empty record is 15.
pub record_empty : (w : Writer) (len n : ℕ) → RemainsMet w len → n < 1 → 15 ≡ record_refusal w len n
unfolding record_refusal
record_empty w len n m h = rw (m.0.0, eq-eqb len w.size m.0.1, le-leb w.next last_number m.1, lt-leb 1 n h)

-- An end's, "1, 4, 17, 14, where 14 is given only if a total is owed".
module _ (w : Writer) (len : ℕ) where
  -- No record is open.
  abbrev pub ShutMet : Type 0
  ShutMet = LengthMet w len × (is_inside w.phase ≡ false)

  pub end_unowed : ShutMet → is_owed w.phase ≡ false → 0 ≡ end_refusal w len
  unfolding end_refusal
  end_unowed m o = rw (m.0.0, eq-eqb len w.size m.0.1, m.1, o)
