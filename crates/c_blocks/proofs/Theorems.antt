-- The theorems of this crate, each under the words of change request 2026-09. The crates above cite these.
-- Assumes nothing.
use Prim.Native.Nat.{ℕ, ◌/◌}
use mathlib.Core.Path.{◌≡◌, refl, sym, ap, ◌∙◌}
use mathlib.Core.Logic.{◌↔◌, ◌⊎◌, inl, inr}
use mathlib.Core.Bool.{Bool, true, false}
use mathlib.Core.List.{List, [], ◌∷◌}
use lib.ListN.{length}
use Rattle.answer.specs.Answer.{Told}
use Rattle.answer.specs.Answer.{Accepted, RefusedAt}
use Rattle.answer.specs.Answer.{refusal_told}
use Rattle.reader.specs.declared.Reader.{Reader}
use Rattle.reader.specs.ReaderStart.{ReaderStart}
use Rattle.reader.specs.ReaderStart as start
use Rattle.reader.specs.ReadAnswer.{ReadAnswer}
use Rattle.reader.specs.ReadAnswer as read
use Rattle.reader.specs.Answer.{fresh, start_told, read_call, told}
use Rattle.blocks.specs.Answer.{blocks_start_refusal, blocks_start_call, blocks_read_call}
use Rattle.blocks.proofs.Judged.{either}
use Rattle.slices.specs.Call.{left, lengths_kept, of_meaning, called}
use Rattle.slices.proofs.Calls.{returns_zero, meant_zero}
use Rattle.states.specs.States.{reader_of, reader_meant}
use Rattle.c_reader.proofs.Theorems.{start_told_lem}
use Rattle.c_reader.specs.Calls.{dds_read, reader_left, rows_read}
use Rattle.c_blocks.specs.Calls.{blocks_length, reader_part, block_part, block_of, dds_blocks_start, dds_blocks_read, with_block}
use Rattle.c_blocks.proofs.Laws.{plain_call}

-- A call that may write two slices leaves two.
two_lent : (kept : Bool) (told : Told) (new-state new-rows state rows answer : List ℕ) →
    (let o = called kept told (new-state ∷ new-rows ∷ []) (state ∷ rows ∷ []) answer in left o.refusal (reader_left o ∷ rows_read o ∷ []) o.answer ≡ o)
unfolding called
two_lent true (Accepted outcome number entries taken) new-state new-rows state rows answer = refl
two_lent true (RefusedAt refusal place) new-state new-rows state rows answer = refl
two_lent false told new-state new-rows state rows answer = refl

-- .. and so does a plain read.
pub read_lent : (state group : List ℕ) (number n : ℕ) (rows answer : List ℕ) →
    (let o = dds_read state group number n rows answer in left o.refusal (reader_left o ∷ rows_read o ∷ []) o.answer ≡ o)
unfolding dds_read
read_lent state group number n rows answer = two_lent _ _ _ _ _ _ _

-- "a block size is chosen at start": a start returns 0 exactly where the slices are of their lengths and the profile's own
-- start starts.
pub blocks_start_zero : (size first block : ℕ) (state answer : List ℕ) →
    ((dds_blocks_start size first block state answer).refusal ≡ 0) ↔ ((lengths_kept (length state) blocks_length (length answer) ≡ true) × (blocks_start_call size first block ≡ start.Started (fresh size first)))
unfolding dds_blocks_start blocks_start_call
blocks_start_zero size first block state answer =
    let r = returns_zero _ (start_told (blocks_start_call size first block)) _ _ answer in (
      λ e. let z = r.0 e in (z.0, start_told_lem (blocks_start_refusal size first block) (fresh size first) z.1),
      λ a. r.1 (a.0, ap (λ (x : ReaderStart). refusal_told (start_told x)) a.1),
    )

module _ (state group : List ℕ) (number n : ℕ) (rows answer : List ℕ) where
  -- A read that returns 0: the slices are of their lengths, the numbers of the state have a meaning, and the profile's own
  -- answer is the plain reader's.
  pub blocks_returned : (dds_blocks_read state group number n rows answer).refusal ≡ 0 →
      (lengths_kept (length state) blocks_length (length answer) ≡ true)
      × (blocks_read_call (block_of state) (reader_of (reader_part state)) group number n (length rows / 4) ≡ read_call (reader_of (reader_part state)) group number n (length rows / 4))
  unfolding dds_blocks_read
  blocks_returned e =
      let own : ReadAnswer = blocks_read_call (block_of state) (reader_of (reader_part state)) group number n (length rows / 4) in
      let z = (returns_zero _ (of_meaning (reader_meant (reader_part state)) (told own)) _ _ answer).0 e in
      let y = (meant_zero (reader_meant (reader_part state)) (told own)).0 z.1 in
      (z.0, by y.1 (either (block_of state) (reader_of (reader_part state)) group number n (length rows / 4)))
    where
      s : Reader
      s = reader_of (reader_part state)

      by : refusal_told (told (blocks_read_call (block_of state) s group number n (length rows / 4))) ≡ 0 →
          (blocks_read_call (block_of state) s group number n (length rows / 4) ≡ read_call s group number n (length rows / 4))
          ⊎ ((fault : ℕ) × ((place : ℕ) × ((blocks_read_call (block_of state) s group number n (length rows / 4) ≡ read.Refused s fault place) × (fault ≡ 0 → ⊥)))) →
          blocks_read_call (block_of state) s group number n (length rows / 4) ≡ read_call s group number n (length rows / 4)
      by z (inl same) = same
      by z (inr r) = absurd (r.1.1.1 (sym (ap (λ (a : ReadAnswer). refusal_told (told a)) r.1.1.0) ∙ z))

  -- "a profile beside the plain reader": what a read leaves that returns 0 is what the plain call on the first 24 bytes of the
  -- state leaves, and the block size behind it.
  pub blocks_plainly : (dds_blocks_read state group number n rows answer).refusal ≡ 0 →
      with_block (block_part state) (dds_read (reader_part state) group number n rows answer) ≡ dds_blocks_read state group number n rows answer
  blocks_plainly e =
      let r = blocks_returned e in
      plain_call state group number n rows answer r.0 r.1 (read_lent (reader_part state) group number n rows answer)
