-- A header both ways: SW1 and SW2 that are made are kept and give back what they were made of, and those that are kept are the
-- ones that are made of what they hold. Before it, what the rules say of numbers.
-- Assumes nothing.
use mathlib.Core.Path.{◌≡◌, refl, sym, ap, ◌∙◌}
use mathlib.Core.Bool.{Bool, true, false, cond, ◌&&◌}
use Prim.Native.Nat.{ℕ, ◌+◌, ◌*◌, ◌/◌, ◌%◌, ◌<◌}
use native.Mathlib.Omega.{arith}
use borrow.Author.Tests.{eq-eqb, eqb-true, leb-true}
use lib.Dec.{eqb, leb}
use lib.ListN.{length}
use Rattle.numbers.specs.Numbers.{between}
use Rattle.numbers.proofs.Tests.{both, and, within}
use Rattle.header.specs.Header.{even, area_kept, sw1_of, sw2_of, header_of, pack_of, pack_kept, sw1_kept, sw2_kept}

-- A header is 3 bytes.
pub length_header : (area pack block : ℕ) → length (header_of area pack block) ≡ 3
unfolding header_of
length_header area pack block = refl

-- What the rules say of numbers: an Area ID has four bits, a Pack ID three.
pub area_small : (area : ℕ) → area_kept area ≡ true → area < 16
unfolding area_kept
area_small area e = omega (arith, leb-true area 15 (both (leb area 15) _ e).0)

pub pack_small : (block pack : ℕ) → pack_kept block pack ≡ true → pack < 8
pack_small block pack e = by (even block) refl e
  where
    by : (b : Bool) → even block ≡ b → cond b (between 6 pack 7) (eqb pack 0) ≡ true → pack < 8
    by true x h = omega (arith, within 6 pack 7 h)
    by false x h = omega (arith, eqb-true pack 0 h)

-- SW1 made and taken apart.
pub sw1_taken : (area block : ℕ) → area_kept area ≡ true → sw1_kept area block (sw1_of area block) ≡ true
unfolding sw1_kept
sw1_taken area block e = by (even block) refl
  where
    by : (b : Bool) → even block ≡ b → cond b (eqb (cond b (16 * area + 8) 0 % 16) 8 && (eqb (cond b (16 * area + 8) 0 / 16) area && area_kept area)) (eqb (cond b (16 * area + 8) 0) 0) ≡ true
    by true x = and (eq-eqb ((16 * area + 8) % 16) 8 (omega arith)) (and (eq-eqb ((16 * area + 8) / 16) area (omega arith)) e)
    by false x = refl

pub sw1_again : (area block sw1 : ℕ) → sw1_kept area block sw1 ≡ true → sw1_of area block ≡ sw1
unfolding sw1_kept
sw1_again area block sw1 e = by (even block) refl e
  where
    by : (b : Bool) → even block ≡ b → cond b (eqb (sw1 % 16) 8 && (eqb (sw1 / 16) area && area_kept area)) (eqb sw1 0) ≡ true → cond b (16 * area + 8) 0 ≡ sw1
    by true x h =
        let p = both (eqb (sw1 % 16) 8) _ h in
        let q = both (eqb (sw1 / 16) area) _ p.1 in
        omega (arith, eqb-true (sw1 % 16) 8 p.0, eqb-true (sw1 / 16) area q.0)
    by false x h = sym (eqb-true sw1 0 h)

-- SW2 made and taken apart.
pub pack_taken : (pack block : ℕ) → pack < 8 → block < 16 → pack_of (sw2_of pack block) ≡ pack
pack_taken pack block p b = omega arith

pub sw2_taken : (pack block : ℕ) → block < 16 → pack_kept block pack ≡ true → sw2_kept block (sw2_of pack block) ≡ true
unfolding sw2_kept
sw2_taken pack block b e =
    let small = pack_small block pack e in
    and (eq-eqb ((128 + 16 * pack + block) / 128) 1 (omega arith))
    (and (ap (pack_kept block) (pack_taken pack block small b) ∙ e) (eq-eqb ((128 + 16 * pack + block) % 16) block (omega arith)))

pub record Sw2 (block sw2 : ℕ) : Type 0 where
  pub top : sw2 / 128 ≡ 1
  pub pack : pack_kept block (pack_of sw2) ≡ true
  pub number : sw2 % 16 ≡ block

pub sw2_apart : (block sw2 : ℕ) → sw2_kept block sw2 ≡ true → Sw2 block sw2
unfolding sw2_kept
sw2_apart block sw2 e =
    let p = both (eqb (sw2 / 128) 1) _ e in
    let q = both (pack_kept block (pack_of sw2)) _ p.1 in
    record { top = eqb-true (sw2 / 128) 1 p.0; pack = q.0; number = eqb-true (sw2 % 16) block q.1 }

pub sw2_again : (block sw2 : ℕ) → Sw2 block sw2 → sw2_of (pack_of sw2) block ≡ sw2
sw2_again block sw2 s = omega (arith, s.top, s.number)
