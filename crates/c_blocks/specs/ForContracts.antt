-- Serves contracts and proofs only: what a read of blocks does before the plain call.
-- Assumes nothing.
use Rattle.std.specs.Prelude.{ℕ, ◌/◌, ◌≡◌, true, List, [], ◌∷◌, length}
use Rattle.reader.specs.Answer.{read_call}
use Rattle.blocks.specs.Answer.{blocks_read_call}
use Rattle.slices.specs.Call.{left, lengths_kept}
use Rattle.states.specs.States.{reader_of}
use Rattle.c_blocks.specs.Calls.{blocks_length, reader_part, block_of, dds_blocks_read}

-- A number that is not 0 is returned, and the call is over. With 0 the answer slice is as it was, the slices are of their
-- lengths, and the plain reader's own answer is the profile's.
pub record Judges (state group : List ℕ) (number n : ℕ) (rows answer : List ℕ) (refusal : ℕ) (told : List ℕ) : Type 0 where
  pub refused : (refusal ≡ 0 → ⊥) → left refusal (state ∷ rows ∷ []) told ≡ dds_blocks_read state group number n rows answer
  pub stays : refusal ≡ 0 → told ≡ answer
  pub kept : refusal ≡ 0 → lengths_kept (length state) blocks_length (length answer) ≡ true
  pub plainly : refusal ≡ 0 → blocks_read_call (block_of state) (reader_of (reader_part state)) group number n (length rows / 4) ≡ read_call (reader_of (reader_part state)) group number n (length rows / 4)
