-- Laws of a block: how long its pieces are, and a block that is stored piece by piece.
-- Assumes nothing.
use mathlib.Core.Path.{◌≡◌, refl, sym, ap, ◌∙◌}
use mathlib.Core.Bool.{Bool, true, false}
use mathlib.Core.List.{List, ◌++◌}
use Prim.Native.Nat.{ℕ, ◌+◌, ◌-◌, ◌≤◌}
use native.Mathlib.Omega.{arith}
use borrow.Author.Tests.{eq-eqb, ne_eqb}
use lib.Dec.{eqb}
use lib.ListN.{length, take, drop, replicate, length-append, length-drop}
use lib.Seq.{length-take-le}
use Rattle.std.proofs.lemmas.List.{append_assoc, append-nil, take_at, drop_at, take_all, drop_all, take_rest}
use borrow.Rule.Slice.PartMut.{put_mid}
use Rattle.numbers.specs.Store.{put}
use Rattle.numbers.proofs.Stores.{put_part}
use Rattle.header.specs.Header.{header_of}
use Rattle.header.proofs.TakenApart.{length_header}
use Rattle.block.specs.Block.{close_of, data_part_of, block_of}

-- A close is 8 bytes, and so the Data Part 32 and a block 35.
pub length_close : (pack : ℕ) (close : List ℕ) → length close ≡ 8 → length (close_of pack close) ≡ 8
length_close pack close h = by (eqb pack 6) refl
  where
    by : (b : Bool) → eqb pack 6 ≡ b → length (close_of pack close) ≡ 8
    by true e = rw e
    by false e = rw e h

pub length_data_part : (pack : ℕ) (places : List ℕ) → length places ≡ 32 → length (data_part_of pack places) ≡ 32
length_data_part pack places h =
    let close : length (drop 24 places) ≡ 8 = omega (arith, length-drop 24 places) in
    simp length-append (omega (arith, length-take-le 24 places (omega arith), length_close pack (drop 24 places) close))

pub length_block : (area pack block : ℕ) (places : List ℕ) → length places ≡ 32 → length (block_of area pack block places) ≡ 35
unfolding block_of
length_block area pack block places h =
    length-append (header_of area pack block) (data_part_of pack places) ∙ omega (arith, length_header area pack block, length_data_part pack places h)

-- A block written over a part of a list is a store.
pub block_put : (old : List ℕ) (at area pack block : ℕ) (places : List ℕ) → at + 35 ≤ length old → length places ≡ 32
    → put_mid at (at + 35 - at) old (block_of area pack block places) ≡ put old at (block_of area pack block places)
block_put old at area pack block places h p =
    let long = length_block area pack block places p in
    put_part old at (at + 35 - at) (block_of area pack block places) (omega (arith, long)) (omega (arith, long))

-- What stands at a block's close is all that follows its items.
pub close_at : (block : List ℕ) → length block ≡ 35 → take 8 (drop 27 block) ≡ drop 27 block
close_at block h = take_all 8 (drop 27 block) (omega (arith, length-drop 27 block))

-- What is written behind the first bytes of a list, and over all that follows them.
put_behind : (at n : ℕ) (pre old new : List ℕ) → length pre ≡ at → put_mid at n (pre ++ old) new ≡ pre ++ (new ++ drop n old)
put_behind at n pre old new e = rw (take_at pre old at e, drop_at pre old at e)

put_last : (at n : ℕ) (pre old new : List ℕ) → length pre ≡ at → length old ≤ n → put_mid at n (pre ++ old) new ≡ pre ++ new
put_last at n pre old new e h = put_behind at n pre old new e ∙ rw (drop_all n old h, append-nil)

-- Header and items, one behind the other, and behind them a close of zeros or the one that is lent.
module _ (area pack block : ℕ) (places old header items close : List ℕ) (o : length old ≡ 35) (p : length places ≡ 32)
    (e : header ≡ header_of area pack block) (f : items ≡ take 24 places) where
  abbrev pub stored : List ℕ
  stored = put_mid 3 24 (header ++ drop 3 old) items

  three : length header ≡ 3
  three = ap length e ∙ length_header area pack block

  items_end : length (header ++ items) ≡ 27
  items_end = length-append header items ∙ omega (arith, three, ap length f, length-take-le 24 places (omega arith))

  stored_is : stored ≡ (header ++ items) ++ drop 24 (drop 3 old)
  stored_is = put_behind 3 24 header (drop 3 old) items three ∙ sym (append_assoc header items (drop 24 (drop 3 old)))

  length_stored : length stored ≡ 35
  length_stored = ap length stored_is ∙ length-append (header ++ items) (drop 24 (drop 3 old)) ∙ omega (arith, items_end, length-drop 24 (drop 3 old), length-drop 3 old)

  closed : close ≡ close_of pack (drop 24 places) → put_mid 27 (length stored - 27) stored close ≡ block_of area pack block places
  unfolding block_of
  closed g =
      rw stored_is (put_last 27 _ (header ++ items) (drop 24 (drop 3 old)) close items_end (omega (arith, length-drop 24 (drop 3 old), length-drop 3 old, length_stored, ap length stored_is)))
      ∙ append_assoc header items close ∙ rw (e, f, g)

  pub zero_closed : pack ≡ 6 → close ≡ replicate (length (take (length stored - 27) (drop 27 stored))) 0
      → put_mid 27 (length stored - 27) stored close ≡ block_of area pack block places
  zero_closed six g =
      let eight : length (take (length stored - 27) (drop 27 stored)) ≡ 8 = ap length (take_rest stored 27) ∙ length-drop 27 stored ∙ omega (arith, length_stored) in
      closed (rw (eq-eqb pack 6 six) (g ∙ ap (λ (n : ℕ). replicate n 0) eight))

  pub lent_closed : (pack ≡ 6 → ⊥) → close ≡ take 8 (drop 24 places) → put_mid 27 (length stored - 27) stored close ≡ block_of area pack block places
  lent_closed other g =
      closed (rw (ne_eqb pack 6 other) (g ∙ take_all 8 (drop 24 places) (omega (arith, length-drop 24 places))))
