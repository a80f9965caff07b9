-- Change request 2026-09 through C: a run that is read to its end by dds_blocks_read, by nothing but what C sees.
-- Assumes nothing.
use Rattle.std.specs.Prelude.{ℕ, List, [], ◌∷◌, ◌≡◌}
use Rattle.numbers.specs.Numbers.{bytes_of, numbers_in}
use Rattle.reader.specs.declared.Reader.{Reader}
use Rattle.reader.specs.Answer.{fresh}
use Rattle.layout.specs.Layout.{Image}
use Rattle.slices.specs.Call.{Left, outcome_seen}
use Rattle.states.specs.States.{reader_of}
use Rattle.c_reader.specs.Calls.{dds_reader_start, reader_left}
use Rattle.c_blocks.specs.Calls.{reader_part, block_part, dds_blocks_start, dds_blocks_read, blocks_left, blocks_rows}
use Rattle.trip.specs.ThroughC.{Loan, numbers_lent, ToEndC}
use Rattle.blockruns.specs.Stated.{ToEndBlocks}

-- As a reading from C is: each read is lent its loan and returns 0. Outcome 0 says that the group is accepted, and the numbers
-- of its rows are listed; outcome 2 that it is a repeat.
pub data ToEndBlocksC : List ℕ → List Image → List Loan → List (List ℕ) → List ℕ → Type 0 where
  end_none : {state : List ℕ} → ToEndBlocksC state [] [] [] state
  end_more : {state final : List ℕ} {g : Image} {gs : List Image} {loan : Loan} {loans : List Loan} {rows : List (List ℕ)} {o : Left} →
      dds_blocks_read state g.bytes g.number g.entries loan.rows loan.answer ≡ o →
      o.refusal ≡ 0 → outcome_seen o ≡ 0 → ToEndBlocksC (blocks_left o) gs loans rows final →
      ToEndBlocksC state (g ∷ gs) (loan ∷ loans) (numbers_in (blocks_rows o) ∷ rows) final
  end_repeat : {state final : List ℕ} {g : Image} {gs : List Image} {loan : Loan} {loans : List Loan} {rows : List (List ℕ)} {o : Left} →
      dds_blocks_read state g.bytes g.number g.entries loan.rows loan.answer ≡ o →
      o.refusal ≡ 0 → outcome_seen o ≡ 2 → ToEndBlocksC (blocks_left o) gs loans rows final →
      ToEndBlocksC state (g ∷ gs) (loan ∷ loans) rows final

-- A run of blocks that C reads to its end: the start returned 0, and from the state slice that it left every read did, lent
-- just these slices.
pub record ReadBlocksC (size first block : ℕ) (state answer : List ℕ) (run : List Image) (loans : List Loan) : Type 0 where
  pub starts : (dds_blocks_start size first block state answer).refusal ≡ 0
  pub rows : List (List ℕ)
  pub final : List ℕ
  pub reads : ToEndBlocksC (blocks_left (dds_blocks_start size first block state answer)) run loans rows final

-- The profile's own reads read the same; and so do the plain calls, from the plain start, on the first 24 bytes of the state:
-- the same groups are accepted, the same are repeats, the rows are the same, and behind the last the first 24 bytes of the
-- state. The block size stays.
pub record ReadsAlike (size first block : ℕ) (state answer : List ℕ) (run : List Image) (loans : List Loan) (rows : List (List ℕ)) (final : List ℕ) : Type 0 where
  pub last : Reader
  pub own : ToEndBlocks block (fresh size first) run (numbers_lent loans) rows last
  pub holds : reader_of (reader_part final) ≡ last
  pub starts_plainly : (dds_reader_start size first (reader_part state) answer).refusal ≡ 0
  pub plainly : ToEndC (reader_left (dds_reader_start size first (reader_part state) answer)) run loans rows (reader_part final)
  pub block_stays : block_part final ≡ bytes_of 4 block
