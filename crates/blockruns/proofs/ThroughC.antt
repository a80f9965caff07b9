-- A reading of blocks from C is the profile's own, and the profile's own is made through C.
-- Assumes nothing.
use Prim.Native.Nat.{ℕ, ◌/◌}
use native.Mathlib.Omega.{arith}
use mathlib.Core.List.{List, [], ◌∷◌, ◌++◌}
use mathlib.Core.Bool.{true}
use mathlib.Core.Path.{◌≡◌, refl, sym, ap, ◌∙◌, subst}
use lib.ListN.{length, length-append}
use Rattle.numbers.specs.Numbers.{number_at, bytes_of, in_bytes, numbers_in}
use Rattle.numbers.proofs.Tests.{within}
use Rattle.numbers.proofs.NumberLaws.{length_bytes, number_from, number_of_bytes}
use Rattle.numbers.proofs.InBytes.{length_numbers}
use Rattle.reader.specs.declared.Reader.{Reader}
use Rattle.reader.specs.ReadAnswer.{ReadAnswer}
use Rattle.reader.specs.Answer.{sound, read_call, group_rows, rows_left}
use Rattle.reader.proofs.Sound.{sound_again}
use Rattle.layout.specs.Layout.{Image}
use Rattle.blocks.specs.Answer.{block_size_kept, blocks_read_call}
use Rattle.blocks.proofs.Judged.{accepts_plainly, repeats_plainly}
use Rattle.slices.specs.Call.{Left, outcome_seen, answer_length}
use Rattle.states.specs.States.{reader_of}
use Rattle.c_reader.specs.Calls.{dds_read, rows_read}
use Rattle.c_reader.specs.Accepted.{repeat_left}
use Rattle.c_blocks.specs.Calls.{blocks_length, reader_part, block_part, block_of, dds_blocks_read, blocks_left, blocks_rows, with_block}
use Rattle.c_blocks.proofs.Laws.{are_kept, plain_call}
use Rattle.c_blocks.proofs.Theorems.{read_lent, blocks_returned, blocks_plainly}
use Rattle.trip.specs.ThroughC.{Loan, numbers_lent, ToEndC}
use Rattle.trip.proofs.Reading.{slice, accepted, long_slice, held_slice, Made, made, repeated_through, Answering, long_enough}
use Rattle.trip.proofs.Accepting.{Step, stepped, again}
use Rattle.blockruns.specs.Stated.{ToEndBlocks}
use Rattle.blockruns.specs.ThroughC.{ToEndBlocksC}

-- The bytes of a reader's state and of a block size: the two parts of a state slice.
abbrev pub both : Reader → (block : ℕ) → List ℕ
both s block = slice s ++ bytes_of 4 block

pub reader_is : (s : Reader) (block : ℕ) → reader_part (both s block) ≡ slice s
unfolding in_bytes bytes_of
reader_is s block = refl

pub block_is : (s : Reader) (block : ℕ) → block_part (both s block) ≡ bytes_of 4 block
unfolding in_bytes bytes_of
block_is s block = refl

number_is : (s : Reader) (block : ℕ) → block_size_kept block ≡ true → block_of (both s block) ≡ block
unfolding bytes_of
number_is s block h =
    let (least, most) = within 1 block 16777215 h in
    number_from 4 (slice s) (bytes_of 4 block) 24 (long_slice s) ∙ number_of_bytes 4 block [] (omega arith)

long_both : (s : Reader) (block : ℕ) → length (both s block) ≡ blocks_length
long_both s block = length-append (slice s) (bytes_of 4 block) ∙ omega (arith, long_slice s, length_bytes 4 block)

-- Reads from the bytes of a sound state, behind which stands a block size that is one.
module _ (block : ℕ) (size_kept_lem : block_size_kept block ≡ true) (s : Reader) (h : sound s ≡ true) (g : Image) (loan : Loan) where
  abbrev room : ℕ
  room = length loan.rows / 4

  abbrev plain : Left
  plain = dds_read (slice s) g.bytes g.number g.entries loan.rows loan.answer

  abbrev made_of : Left
  made_of = dds_blocks_read (both s block) g.bytes g.number g.entries loan.rows loan.answer

  held : reader_of (reader_part (both s block)) ≡ s
  held = ap reader_of (reader_is s block) ∙ held_slice s h

  -- One that returned 0 is the plain call, and the profile's own answer is the plain reader's.
  pub is_plain : made_of.refusal ≡ 0 → with_block (bytes_of 4 block) plain ≡ made_of
  is_plain e = rw (reader_is s block, block_is s block) at (blocks_plainly (both s block) g.bytes g.number g.entries loan.rows loan.answer e)

  pub same_answer : made_of.refusal ≡ 0 → blocks_read_call block s g.bytes g.number g.entries room ≡ read_call s g.bytes g.number g.entries room
  same_answer e = rw (held, number_is s block size_kept_lem) at (blocks_returned (both s block) g.bytes g.number g.entries loan.rows loan.answer e).1

  -- .. and where that is so it is the plain call.
  pub call_is : length loan.answer ≡ answer_length → blocks_read_call block s g.bytes g.number g.entries room ≡ read_call s g.bytes g.number g.entries room →
      with_block (bytes_of 4 block) plain ≡ made_of
  call_is l e =
      let same = subst (λ (r : Reader). blocks_read_call (block_of (both s block)) r g.bytes g.number g.entries room ≡ read_call r g.bytes g.number g.entries room) (sym held)
      (ap (λ (b : ℕ). blocks_read_call b s g.bytes g.number g.entries room) (number_is s block size_kept_lem) ∙ e) in
      rw (reader_is s block, block_is s block)
      at (plain_call (both s block) g.bytes g.number g.entries loan.rows loan.answer (are_kept (long_both s block) l) same
      (read_lent (reader_part (both s block)) g.bytes g.number g.entries loan.rows loan.answer))

  -- The row buffer as numbers has the same room.
  same_room : blocks_read_call block s g.bytes g.number g.entries room ≡ read_call s g.bytes g.number g.entries room →
      blocks_read_call block s g.bytes g.number g.entries (length (numbers_in loan.rows)) ≡ read_call s g.bytes g.number g.entries (length (numbers_in loan.rows))
  same_room e = rw (length_numbers loan.rows) e

-- From the bytes of a sound state: the profile's own reads, and the plain reader's from C.
pub record OwnBlocks (block : ℕ) (s : Reader) (run : List Image) (loans : List Loan) (rows : List (List ℕ)) (final : List ℕ) : Type 0 where
  pub last : Reader
  pub reads : ToEndBlocks block s run (numbers_lent loans) rows last
  pub plain_reads : ToEndC (slice s) run loans rows (slice last)
  pub sound_last : sound last ≡ true
  pub bytes : both last block ≡ final

module _ (block : ℕ) (size_kept_lem : block_size_kept block ≡ true) where
  own_more : {s : Reader} {g : Image} {gs : List Image} {loan : Loan} {loans : List Loan} {rows : List (List ℕ)} {final : List ℕ} {o : Left} → (h : sound s ≡ true) →
      (z : (plain block size_kept_lem s h g loan).refusal ≡ 0) → outcome_seen (plain block size_kept_lem s h g loan) ≡ 0 → with_block (bytes_of 4 block) (plain block size_kept_lem s h g loan) ≡ o →
      blocks_read_call block s g.bytes g.number g.entries (length (numbers_in loan.rows)) ≡ read_call s g.bytes g.number g.entries (length (numbers_in loan.rows)) →
      (k : Step s g loan (plain block size_kept_lem s h g loan)) → OwnBlocks block k.next gs loans rows final → OwnBlocks block s (g ∷ gs) (loan ∷ loans) (numbers_in (blocks_rows o) ∷ rows) final
  own_more {s} {g} {gs} {loan} {loans} {rows} {final} {o} h z f e same k r =
      let row : numbers_in (rows_read (plain block size_kept_lem s h g loan)) ≡ numbers_in (blocks_rows o) = ap (λ (x : Left). numbers_in (blocks_rows x)) e in
      let first = ap (λ (a : ReadAnswer). rows_left a (group_rows s g.bytes g.entries) (numbers_in loan.rows)) same ∙ sym k.row ∙ row in
      record {
        last = r.last;
        reads = subst (λ (x : List ℕ). ToEndBlocks block s (g ∷ gs) (numbers_in loan.rows ∷ numbers_lent loans) (x ∷ rows) r.last) first
            (ToEndBlocks.end_more (numbers_in loan.rows) (same ∙ k.accepts) r.reads);
        plain_reads = subst (λ (x : List ℕ). ToEndC (slice s) (g ∷ gs) (loan ∷ loans) (x ∷ rows) (slice r.last)) row
            (ToEndC.end_more refl z f (subst (λ (x : List ℕ). ToEndC x gs loans rows (slice r.last)) (sym k.left_state) r.plain_reads));
        sound_last = r.sound_last;
        bytes = r.bytes;
      }

  pub own : {state final : List ℕ} {run : List Image} {loans : List Loan} {rows : List (List ℕ)} → ToEndBlocksC state run loans rows final → (s : Reader) → sound s ≡ true → state ≡ both s block →
      OwnBlocks block s run loans rows final
  own ToEndBlocksC.end_none s h e = record { last = s; reads = ToEndBlocks.end_none; plain_reads = ToEndC.end_none; sound_last = h; bytes = sym e }
  own (ToEndBlocksC.end_more {g = g} {loan = loan} {o = o} d n z a) s h e =
      let d' : made_of block size_kept_lem s h g loan ≡ o = ap (λ (x : List ℕ). dds_blocks_read x g.bytes g.number g.entries loan.rows loan.answer) (sym e) ∙ d in
      let zero = ap (λ (x : Left). x.refusal) d' ∙ n in
      let p = is_plain block size_kept_lem s h g loan zero ∙ d' in
      let zero-plain = ap (λ (x : Left). x.refusal) p ∙ n in
      let seen = ap outcome_seen p ∙ z in
      let k = stepped s g loan h refl zero-plain seen in
      let next = ap blocks_left (sym p) ∙ ap (λ (x : List ℕ). x ++ bytes_of 4 block) k.left_state in
      own_more h zero-plain seen p (same_room block size_kept_lem s h g loan (same_answer block size_kept_lem s h g loan zero)) k (own a k.next k.sound_next next)
  own (ToEndBlocksC.end_repeat {g = g} {gs = gs} {loan = loan} {loans = loans} {rows = rows} {o = o} d n z a) s h e =
      let d' : made_of block size_kept_lem s h g loan ≡ o = ap (λ (x : List ℕ). dds_blocks_read x g.bytes g.number g.entries loan.rows loan.answer) (sym e) ∙ d in
      let zero = ap (λ (x : Left). x.refusal) d' ∙ n in
      let p = is_plain block size_kept_lem s h g loan zero ∙ d' in
      let zero-plain = ap (λ (x : Left). x.refusal) p ∙ n in
      let seen = ap outcome_seen p ∙ z in
      let k = again s g loan h refl zero-plain seen in
      let r = own a s h (ap blocks_left (sym p) ∙ ap (λ (x : List ℕ). x ++ bytes_of 4 block) k.left_state) in
      record {
        last = r.last;
        reads = ToEndBlocks.end_repeat (numbers_in loan.rows) (same_room block size_kept_lem s h g loan (same_answer block size_kept_lem s h g loan zero) ∙ k.repeats) r.reads;
        plain_reads = ToEndC.end_repeat refl zero-plain seen (subst (λ (x : List ℕ). ToEndC x gs loans rows (slice r.last)) (sym k.left_state) r.plain_reads);
        sound_last = r.sound_last;
        bytes = r.bytes;
      }

  -- The other way round: the profile's own reads, made through the slices, with answer slices of their length.
  more_through : {s t : Reader} {g : Image} {loan : Loan} {old : List ℕ} {gs : List Image} {loans : List Loan} {rows : List (List ℕ)} {final row : List ℕ} (h : sound s ≡ true) →
      (m : Made s t g loan old) → with_block (bytes_of 4 block) (plain block size_kept_lem s h g loan) ≡ made_of block size_kept_lem s h g loan → numbers_in m.left ≡ row → ToEndBlocksC (both t block) gs loans rows final →
      ToEndBlocksC (both s block) (g ∷ gs) (loan ∷ loans) (row ∷ rows) final
  unfolding number_at in_bytes bytes_of
  more_through {s} {t} {g} {loan} {gs = gs} {loans = loans} {rows = rows} {final = final} h m p e a =
      let d : made_of block size_kept_lem s h g loan ≡ with_block (bytes_of 4 block) (accepted t (m.left ∷ [])) = sym p ∙ ap (with_block (bytes_of 4 block)) m.reads in
      subst (λ (k : List ℕ). ToEndBlocksC (both s block) (g ∷ gs) (loan ∷ loans) (k ∷ rows) final) e (ToEndBlocksC.end_more d refl refl a)

  again_through : (s : Reader) {g : Image} {loan : Loan} {gs : List Image} {loans : List Loan} {rows : List (List ℕ)} {final : List ℕ} (h : sound s ≡ true) →
      plain block size_kept_lem s h g loan ≡ repeat_left (slice s) loan.rows → with_block (bytes_of 4 block) (plain block size_kept_lem s h g loan) ≡ made_of block size_kept_lem s h g loan →
      ToEndBlocksC (both s block) gs loans rows final → ToEndBlocksC (both s block) (g ∷ gs) (loan ∷ loans) rows final
  unfolding number_at in_bytes bytes_of
  again_through s {g} {loan} h e p a =
      let d : made_of block size_kept_lem s h g loan ≡ with_block (bytes_of 4 block) (repeat_left (slice s) loan.rows) = sym p ∙ ap (with_block (bytes_of 4 block)) e in
      ToEndBlocksC.end_repeat d refl refl a

  pub through : {s t : Reader} {run : List Image} {lent rows : List (List ℕ)} {loans : List Loan} → ToEndBlocks block s run lent rows t → sound s ≡ true → Answering loans → lent ≡ numbers_lent loans →
      ToEndBlocksC (both s block) run loans rows (both t block)
  through ToEndBlocks.end_none h Answering.answers_none e = ToEndBlocksC.end_none
  through ToEndBlocks.end_none h (Answering.answers_more l r) e = let z : ◌≡◌ {A = ℕ} 0 1 = cc in absurd (omega arith)
  through (ToEndBlocks.end_more old e a) h Answering.answers_none q = let z : ◌≡◌ {A = ℕ} 0 1 = cc in absurd (omega arith)
  through (ToEndBlocks.end_more {s} {t} {g = g} {lent = lent} old e a) h (Answering.answers_more {loan = loan} {loans = loans} l r) q =
      let same : old ≡ numbers_in loan.rows = cc in
      let rest : lent ≡ numbers_lent loans = cc in
      let p = (accepts_plainly block s t g.bytes g.number g.entries (length old) e).0 in
      let there : length old ≡ length loan.rows / 4 = ap length same ∙ length_numbers loan.rows in
      let answers = rw there at (e ∙ sym p) in
      let m = made s t g loan old h (long_enough s t g loan old same p) l same p in
      more_through h m (call_is block size_kept_lem s h g loan l answers) (m.row ∙ ap (λ (x : ReadAnswer). rows_left x (group_rows s g.bytes g.entries) old) (p ∙ sym e))
      (through a (sound_again s t g.bytes g.number g.entries (length old) p) r rest)
  through (ToEndBlocks.end_repeat old e a) h Answering.answers_none q = let z : ◌≡◌ {A = ℕ} 0 1 = cc in absurd (omega arith)
  through (ToEndBlocks.end_repeat {s} {g = g} {lent = lent} old e a) h (Answering.answers_more {loan = loan} {loans = loans} l r) q =
      let same : old ≡ numbers_in loan.rows = cc in
      let rest : lent ≡ numbers_lent loans = cc in
      let p = repeats_plainly block s s g.bytes g.number g.entries (length old) e in
      let there : length old ≡ length loan.rows / 4 = ap length same ∙ length_numbers loan.rows in
      let answers = rw there at (e ∙ sym p) in
      again_through s h (repeated_through s g loan old h l p) (call_is block size_kept_lem s h g loan l answers) (through a h r rest)
