-- One block both ways: a block that is made has no fault and gives back what it was made of, and a block without a fault is
-- the one that is made of what it holds.
-- Assumes nothing.
use mathlib.Core.Path.{◌≡◌, refl, sym, ap, ◌∙◌}
use mathlib.Core.Bool.{Bool, true, false, cond, not}
use mathlib.Core.List.{List, [], ◌∷◌, ◌++◌}
use Prim.Native.Nat.{ℕ, ◌<◌}
use native.Mathlib.Omega.{arith}
use borrow.Author.Tests.{eq-eqb, eqb-true, not-false}
use lib.Dec.{eqb}
use lib.ListN.{length, take, drop, replicate, take-append-drop, length-drop}
use lib.Seq.{length-take-le, drop_at}
use Rattle.numbers.specs.Store.{zeros}
use Rattle.numbers.proofs.Tests.{passed}
use Rattle.numbers.proofs.Stores.{zeros_made, zeros_are}
use Rattle.header.specs.Header.{area_kept, sw1_of, sw2_of, parity_of, header_of, pack_of, pack_kept, sw1_kept, sw2_kept}
use Rattle.header.proofs.TakenApart.{pack_small, sw1_taken, sw1_again, pack_taken, sw2_taken, sw2_apart, sw2_again}
use Rattle.block.specs.Block.{data_part_of, block_of, sw1_in, sw2_in, parity_in, data_part_in}
use Rattle.block.specs.Faults.{parity_kept, close_kept, block_fault}

-- What a block gives back of the places it was made of.
pub data_part_made : (area pack block : ℕ) (places : List ℕ) → data_part_in (block_of area pack block places) ≡ data_part_of pack places
unfolding block_of header_of
data_part_made area pack block places = refl

pub sw2_made_in : (area pack block : ℕ) (places : List ℕ) → sw2_in (block_of area pack block places) ≡ sw2_of pack block
unfolding block_of header_of
sw2_made_in area pack block places = refl

close_made : (pack : ℕ) (places : List ℕ) → length places ≡ 32 → cond (eqb pack 6) (zeros (drop 24 (data_part_of pack places))) true ≡ true
close_made pack places long = by (eqb pack 6) refl
  where
    by : (b : Bool) → eqb pack 6 ≡ b → cond b (zeros (drop 24 (take 24 places ++ cond b (replicate 8 0) (drop 24 places)))) true ≡ true
    by true x = ap zeros (drop_at (take 24 places) (replicate 8 0) 24 (length-take-le 24 places (omega arith))) ∙ zeros_made 8
    by false x = refl

-- A block that is made has no fault.
pub made_kept : (area pack block : ℕ) (places : List ℕ) → area_kept area ≡ true → pack_kept block pack ≡ true → block < 16 → length places ≡ 32
    → block_fault area block (block_of area pack block places) ≡ 0
unfolding block_fault block_of header_of
made_kept area pack block places a p b long =
    let taken = pack_taken pack block (pack_small block pack p) b in
    rw (
      eq-eqb (parity_of (sw1_of area block) (sw2_of pack block)) (parity_of (sw1_of area block) (sw2_of pack block)) refl,
      sw1_taken area block a,
      sw2_taken pack block b p,
      taken,
      close_made pack places long,
    )

-- What the absence of a fault shows.
pub record Sound (area number : ℕ) (block : List ℕ) : Type 0 where
  pub parity : parity_in block ≡ parity_of (sw1_in block) (sw2_in block)
  pub sw1 : sw1_kept area number (sw1_in block) ≡ true
  pub sw2 : sw2_kept number (sw2_in block) ≡ true
  pub close : close_kept block ≡ true

pub sound : (area number : ℕ) (block : List ℕ) → block_fault area number block ≡ 0 → Sound area number block
unfolding block_fault
sound area number block e =
    let p = passed (not (parity_kept block)) 30 e in
    let q = passed (not (sw1_kept area number (sw1_in block))) 31 p.1 in
    let r = passed (not (sw2_kept number (sw2_in block))) 32 q.1 in
    let s = passed (not (close_kept block)) 33 r.1 in
    record {
      parity = eqb-true (parity_in block) _ (not-false _ p.0);
      sw1 = not-false _ q.0;
      sw2 = not-false _ r.0;
      close = not-false _ s.0;
    }

-- A data part whose close is kept is the one that is made of it.
data_part_again : (pack : ℕ) (rest : List ℕ) → length rest ≡ 32 → cond (eqb pack 6) (zeros (drop 24 rest)) true ≡ true → data_part_of pack rest ≡ rest
data_part_again pack rest long e = by (eqb pack 6) refl e
  where
    by : (b : Bool) → eqb pack 6 ≡ b → cond b (zeros (drop 24 rest)) true ≡ true → take 24 rest ++ cond b (replicate 8 0) (drop 24 rest) ≡ rest
    by true x h =
        let eight : length (drop 24 rest) ≡ 8 = omega (arith, length-drop 24 rest) in
        let same : replicate 8 0 ≡ drop 24 rest = ap (λ (n : ℕ). replicate n 0) (sym eight) ∙ zeros_are (drop 24 rest) h in
        ap (λ (l : List ℕ). take 24 rest ++ l) same ∙ take-append-drop 24 rest
    by false x h = take-append-drop 24 rest

-- A block without a fault is the one that is made of what it holds.
pub block_again : (area number : ℕ) (block : List ℕ) → length block ≡ 35 → Sound area number block
    → block_of area (pack_of (sw2_in block)) number (data_part_in block) ≡ block
unfolding block_of header_of
block_again area number [] long s = absurd (omega arith)
block_again area number (a ∷ []) long s = absurd (omega arith)
block_again area number (a ∷ b ∷ []) long s = absurd (omega arith)
block_again area number (a ∷ b ∷ c ∷ rest) long s =
    let e : sw1_of area number ≡ a = sw1_again area number a s.sw1 in
    let f : sw2_of (pack_of b) number ≡ b = sw2_again number b (sw2_apart number b s.sw2) in
    rw (e, f, ← s.parity, data_part_again (pack_of b) rest (omega arith) s.close)
