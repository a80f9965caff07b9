-- What a start and a read leave: one law an exit.
-- Assumes nothing.
use Prim.Native.Nat.{ℕ, ◌/◌, min}
use native.Mathlib.Omega.{arith}
use mathlib.Core.Path.{◌≡◌, refl, sym, ap, ◌∙◌}
use mathlib.Core.Bool.{true, false}
use mathlib.Core.List.{List, [], ◌∷◌, ◌++◌}
use borrow.Author.Tests.{eq-eqb, ne_eqb}
use lib.ListN.{length, replicate, take-append-drop, length-take}
use Rattle.std.specs.Prelude.{Option, Some, None}
use Rattle.numbers.specs.Numbers.{bytes_of, in_bytes}
use Rattle.numbers.specs.Store.{put}
use Rattle.numbers.proofs.Tests.{and}
use Rattle.answer.specs.Answer.{Told}
use Rattle.answer.specs.Answer.{Accepted, RefusedAt, accepted}
use Rattle.answer.specs.Numbers.{blocks_number}
use Rattle.answer.specs.declared.refusals.BlocksRefusal.{BlocksRefusal}
use Rattle.reader.specs.ReaderStart as start
use Rattle.answer.specs.Answer.{if_accepted}
use Rattle.reader.specs.declared.Reader.{Reader}
use Rattle.reader.specs.ReadAnswer.{ReadAnswer}
use Rattle.reader.specs.ReadAnswer as read
use Rattle.reader.specs.Answer.{fresh, start_told, read_call, told}
use Rattle.blocks.specs.Answer.{blocks_start_call, blocks_read_call}
use Rattle.blocks.proofs.Started.{begun_blocks}
use Rattle.blocks.specs.Bounds.{unless_other}
use Rattle.std.specs.Prelude.{Option}
use Rattle.seek.specs.Find.{find_call}
use Rattle.slices.specs.Call.{Left, left, answer_length, answer_kept, lengths_kept, of_meaning, called, Tells}
use Rattle.slices.proofs.Calls.{lengths, stopped, started, not_started_lem, went_on, answered, none_lent}
use Rattle.states.specs.States.{reader_length, reader_of, reader_bytes, reader_meant}
use Rattle.c_reader.specs.Calls.{dds_read}
use Rattle.c_blocks.specs.Calls.{blocks_length, reader_part, block_part, block_of, dds_blocks_start, dds_blocks_read, find_told, dds_blocks_find}
use Rattle.c_blocks.specs.ForContracts.{Judges}

-- A fresh state: two numbers over zeros, and the block size over the last.
pub fresh_bytes : (size first block : ℕ) → put (in_bytes (size ∷ first ∷ replicate 5 0)) 24 (bytes_of 4 block) ≡ reader_bytes (fresh size first) ++ bytes_of 4 block
unfolding in_bytes bytes_of put
fresh_bytes size first block = refl

-- A start: with the fresh state and the block size behind it, and refused.
module _ (size first block : ℕ) (state answer : List ℕ) (kept : lengths_kept (length state) blocks_length (length answer) ≡ true) {told : Told} {state' after : List ℕ} {refusal : ℕ} (tells : Tells told refusal after) where
  pub start_done : {s : Reader} {begun : List ℕ} → start.Started s ≡ blocks_start_call size first block → told ≡ accepted → begun ≡ in_bytes (s.size ∷ s.next ∷ replicate 5 0)
      → state' ≡ put begun 24 (bytes_of 4 block) → left refusal (state' ∷ []) after ≡ dds_blocks_start size first block state answer
  unfolding dds_blocks_start
  start_done {s} e p b f =
      started _ _ _ kept (ap start_told (sym e))
      (f ∙ ap (λ (l : List ℕ). put l 24 (bytes_of 4 block)) (b ∙ ap (λ (r : Reader). in_bytes (r.size ∷ r.next ∷ replicate 5 0)) (begun_blocks _ _ _ _ (sym e)).1.0) ∙ fresh_bytes _ _ _)
      (rw p at tells)

  pub start_refused : (r : BlocksRefusal) → start.Refused (blocks_number r) ≡ blocks_start_call size first block → told ≡ RefusedAt (blocks_number r) 0 → state' ≡ state
      → left refusal (state' ∷ []) after ≡ dds_blocks_start size first block state answer
  unfolding dds_blocks_start
  start_refused r e p b = rw b (not_started_lem (blocks_number r) _ _ _ kept (ap start_told (sym e)) (rw p at tells))

-- What a read does before the plain call: one law an exit.
module _ (state group : List ℕ) (number n : ℕ) (rows answer : List ℕ) where
  abbrev own : ReadAnswer
  own = blocks_read_call (block_of state) (reader_of (reader_part state)) group number n (length rows / 4)

  over : {refusal : ℕ} {told : List ℕ} → (refusal ≡ 0 → ⊥) → left refusal (state ∷ rows ∷ []) told ≡ dds_blocks_read state group number n rows answer → Judges state group number n rows answer refusal told
  over h e = record { refused = λ z. e; stays = λ z. absurd (h z); kept = λ z. absurd (h z); plainly = λ z. absurd (h z) }

  -- A slice of another length.
  pub by_length : lengths_kept (length state) blocks_length (length answer) ≡ false → Judges state group number n rows answer 1 answer
  unfolding dds_blocks_read
  by_length e = over (λ z. omega arith) (stopped _ _ _ _ e)

  module _ (kept : lengths_kept (length state) blocks_length (length answer) ≡ true) where
    -- A state slice with a number that has no meaning.
    pub not_meant : {refusal : ℕ} {told : List ℕ} → reader_meant (reader_part state) ≡ false → Tells (RefusedAt 1 0) refusal told → Judges state group number n rows answer refusal told
    unfolding dds_blocks_read
    not_meant e t = over (λ z. omega (arith, t.returns)) (rw e (went_on (RefusedAt 1 0) _ _ answer kept refl t))

    -- A block size out of range, or a record of another length.
    pub refused_there : (fault place : ℕ) {s : Reader} {refusal : ℕ} {told : List ℕ} → (fault ≡ 0 → ⊥) → reader_meant (reader_part state) ≡ true → own ≡ read.Refused s fault place →
        Tells (RefusedAt fault place) refusal told → Judges state group number n rows answer refusal told
    unfolding dds_blocks_read
    refused_there fault place h m e t = over (λ z. h (sym t.returns ∙ z)) (rw (m, e) (went_on (RefusedAt fault place) _ _ answer kept refl t))

    module _ (block : ℕ) (other : Option ℕ) (s : Reader) (is_block : block ≡ block_of state) (is : s ≡ reader_of (reader_part state))
        (judged : blocks_read_call block s group number n (length rows / 4) ≡ unless_other other s (read_call s group number n (length rows / 4))) where
      pub other_length : {refusal : ℕ} {told : List ℕ} (place : ℕ) → other ≡ Some place → reader_meant (reader_part state) ≡ true → Tells (RefusedAt 51 place) refusal told → Judges state group number n rows answer refusal told
      other_length place z m t = refused_there 51 place {s = reader_of (reader_part state)} (λ z. omega arith) m (rw (is_block, is, z) at judged) t

      -- Neither: the plain call is made.
      pub goes_on : other ≡ None → Judges state group number n rows answer 0 answer
      goes_on z = record { refused = λ h. absurd (h refl); stays = λ h. refl; kept = λ h. kept; plainly = λ h. rw (is_block, is, z) at judged }

-- What a search tells.
pub found : (rows : List ℕ) (before b : ℕ) (answer : List ℕ) {answer' : List ℕ} {refusal : ℕ} {a : Option ℕ} {t : Told} → answer_kept answer ≡ true → a ≡ find_call rows before b → t ≡ find_told a → Tells t refusal answer' →
    left refusal [] answer' ≡ dds_blocks_find rows before b answer
unfolding dds_blocks_find
found rows before b answer {a = a} kept e f t = answered find_told _ _ answer kept e f (none_lent (find_told a)) t

-- What is left of the reader's part, with the block size behind it.
with_block_lem : (told : Told) (new rows_new old rows block : List ℕ) {part rows' whole : List ℕ} → part ∷ rows' ∷ [] ≡ if_accepted told (new ∷ rows_new ∷ []) (old ∷ rows ∷ []) → old ++ block ≡ whole →
    (part ++ block) ∷ rows' ∷ [] ≡ if_accepted told ((new ++ block) ∷ rows_new ∷ []) (whole ∷ rows ∷ [])
with_block_lem told new rows_new old rows block {part} {rows'} {whole} e w = by told e
  where
    by : (told : Told) → part ∷ rows' ∷ [] ≡ if_accepted told (new ∷ rows_new ∷ []) (old ∷ rows ∷ []) →
        (part ++ block) ∷ rows' ∷ [] ≡ if_accepted told ((new ++ block) ∷ rows_new ∷ []) (whole ∷ rows ∷ [])
    by (Accepted outcome number entries taken) e = let f : part ≡ new = cc in let g : rows' ≡ rows_new = cc in rw (f, g)
    by (RefusedAt refusal place) e = let f : part ≡ old = cc in let g : rows' ≡ rows = cc in rw (f, g, w)

-- The reader's part is as long as a reader's state.
pub part_long : (state : List ℕ) → length state ≡ blocks_length → length (reader_part state) ≡ reader_length
part_long state e = length-take reader_length state ∙ ap (min reader_length) e

-- Slices of their lengths.
pub are_kept : {state own answer : ℕ} → state ≡ own → answer ≡ answer_length → lengths_kept state own answer ≡ true
unfolding lengths_kept
are_kept {state} {own} {answer} e f = and (eq-eqb state own e) (eq-eqb answer answer_length f)

part_kept : (state answer : List ℕ) → lengths_kept (length state) blocks_length (length answer) ≡ true → lengths_kept (length (reader_part state)) reader_length (length answer) ≡ true
part_kept state answer kept =
    let l = lengths (length state) blocks_length (length answer) kept in
    are_kept (part_long state l.0) l.1

-- The plain call, where it is the whole of it.
pub plain_call : (state group : List ℕ) (number n : ℕ) (rows answer : List ℕ) {part rows' answer' : List ℕ} {refusal : ℕ} → lengths_kept (length state) blocks_length (length answer) ≡ true →
    own state group number n rows answer ≡ read_call (reader_of (reader_part state)) group number n (length rows / 4) →
    left refusal (part ∷ rows' ∷ []) answer' ≡ dds_read (reader_part state) group number n rows answer →
    left refusal ((part ++ block_part state) ∷ rows' ∷ []) answer' ≡ dds_blocks_read state group number n rows answer
unfolding dds_read dds_blocks_read called
plain_call state group number n rows answer kept same e =
    let t : Told = of_meaning (reader_meant (reader_part state)) (told (own state group number n rows answer)) in
    let f = rw (part_kept state answer kept, ← same) at e in
    went_on t _ _ answer kept (with_block_lem t _ _ (reader_part state) rows (block_part state) (ap (λ (o : Left). o.lent) f) (take-append-drop reader_length state))
    (record { returns = ap (λ (o : Left). o.refusal) f; numbers = ap (λ (o : Left). o.answer) f })
