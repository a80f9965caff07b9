-- What the profile's start answers, by what the plain reader's answers.
-- Assumes nothing.
use Prim.Native.Nat.{ℕ}
use native.Mathlib.Omega.{arith}
use mathlib.Core.Path.{◌≡◌, refl, sym, ap}
use mathlib.Core.Bool.{Bool, true, false, cond, not}
use lib.Dec.{eqb}
use Rattle.group.specs.State.{start_refusal}
use Rattle.reader.specs.declared.Reader.{Reader}
use Rattle.reader.specs.ReaderStart as start
use Rattle.reader.specs.Answer.{fresh, reader_start_call}
use Rattle.reader.proofs.Accepted.{begun_at}
use Rattle.blocks.specs.Answer.{block_size_kept, blocks_start_refusal, blocks_start_call}

module _ (size first block : ℕ) where
  -- 50 comes "after 3".
  comes_after : eqb (start_refusal size first) 0 ≡ false → blocks_start_refusal size first block ≡ start_refusal size first
  unfolding blocks_start_refusal
  comes_after x = ap (λ (b : Bool). cond b (cond (not (block_size_kept block)) 50 0) (start_refusal size first)) x

  pub as_refused : (refusal : ℕ) → reader_start_call size first ≡ start.Refused refusal → start.Refused refusal ≡ blocks_start_call size first block
  unfolding reader_start_call blocks_start_call
  as_refused refusal e = by (eqb (start_refusal size first) 0) refl e
    where
      by : (b : Bool) → eqb (start_refusal size first) 0 ≡ b → cond b (start.Started (fresh size first)) (start.Refused (start_refusal size first)) ≡ start.Refused refusal →
          start.Refused refusal ≡ blocks_start_call size first block
      by true x h = let z : ◌≡◌ {A = ℕ} 0 1 = cc in absurd (omega arith)
      by false x h = rw (comes_after x, x) (sym h)

  pub out_of_range : (s : Reader) → reader_start_call size first ≡ start.Started s → block_size_kept block ≡ false → start.Refused 50 ≡ blocks_start_call size first block
  unfolding blocks_start_call blocks_start_refusal
  out_of_range s e h = rw ((begun_at size first s e).0, h)

  pub as_started : (s : Reader) → reader_start_call size first ≡ start.Started s → block_size_kept block ≡ true → start.Started s ≡ blocks_start_call size first block
  unfolding blocks_start_call blocks_start_refusal
  as_started s e h = rw ((begun_at size first s e).0, h, (begun_at size first s e).1)

-- A start that starts: what the plain reader's start answers, with a block size that is one.
pub begun_blocks : (size first block : ℕ) (s : Reader) → blocks_start_call size first block ≡ start.Started s → (reader_start_call size first ≡ start.Started s) × ((s ≡ fresh size first) × (block_size_kept block ≡ true))
unfolding blocks_start_call blocks_start_refusal reader_start_call
begun_blocks size first block s e = by (eqb (start_refusal size first) 0) refl (block_size_kept block) refl e
  where
    by : (a : Bool) → eqb (start_refusal size first) 0 ≡ a → (b : Bool) → block_size_kept block ≡ b →
        cond (eqb (cond a (cond (not b) 50 0) (start_refusal size first)) 0) (start.Started (fresh size first)) (start.Refused (cond a (cond (not b) 50 0) (start_refusal size first))) ≡ start.Started s →
        (reader_start_call size first ≡ start.Started s) × ((s ≡ fresh size first) × (b ≡ true))
    by true x true y h = (rw x h, (cc, refl))
    by true x false y h = let z : ◌≡◌ {A = ℕ} 0 1 = cc in absurd (omega arith)
    by false x b y h = let i = rw x at h in let z : ◌≡◌ {A = ℕ} 0 1 = cc in absurd (omega arith)
