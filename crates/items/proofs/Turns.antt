-- Laws of lists that are said chunk by chunk: a chunk of what was made in turn, a list from its chunks, and loops that fill one.
-- Assumes nothing.
use mathlib.Core.Path.{◌≡◌, refl, sym, ap, ◌∙◌}
use mathlib.Core.List.{List, [], ◌∷◌, ◌++◌, append_assoc}
use Prim.Native.Nat.{ℕ, zero, suc, ◌+◌, ◌*◌, ◌-◌, ◌≤◌, ◌<◌}
use native.Mathlib.Nat.{not-suc-le-zero, le_of_suc-le-suc, mul-le-mul_left, mul-zero, mul-suc, add-zero, zero-add, suc-add, add-suc}
use native.Mathlib.Numerals.{add-one}
use native.Mathlib.Omega.{arith}
use lib.ListN.{length, get_or, take, drop, length-append}
use lib.Seq.{take_at, take-add, drop-drop, drop-append-add, take_all}
use Rattle.std.specs.Simd.{first_chunks}
use Rattle.numbers.specs.Store.{put}
use borrow.Rule.Slice.PartMut.{put_mid}
use Rattle.numbers.proofs.Stores.{length_put, put_none, put_split, put_put, put_whole}
use Rattle.items.specs.Turns.{chunk, in_turn}

-- A chunk, read from the chunks that the slice is taken as.
pub chunk_read : (width n : ℕ) (s : List ℕ) (k : ℕ) → k < n → get_or (first_chunks width n s) k [] ≡ chunk width s k
chunk_read width zero s k less = absurd (not-suc-le-zero less)
chunk_read width (suc n) s zero less = rw (mul-zero width)
chunk_read width (suc n) s (suc k) less =
    let place : width + width * k ≡ width * suc k = omega (arith, mul-suc width k) in
    chunk_read width n (drop width s) k (le_of_suc-le-suc less) ∙ ap (take width) (drop-drop (width * k) width s ∙ ap (λ (i : ℕ). drop i s) place)

-- Equal in each turn, equal in all.
pub turns_same : (f g : ℕ → List ℕ) (i n : ℕ) → ((k : ℕ) → k < i + n → f k ≡ g k) → in_turn f i n ≡ in_turn g i n
unfolding in_turn
turns_same f g i zero h = refl
turns_same f g i (suc n) h =
    rw (h i (omega arith), turns_same f g (suc i) n (λ k less. h k (omega arith)))

-- A list from its chunks.
turns_from : (width : ℕ) (s : List ℕ) (i n : ℕ) → in_turn (chunk width s) i n ≡ take (width * n) (drop (width * i) s)
unfolding in_turn
turns_from width s i zero = rw (mul-zero width)
turns_from width s i (suc n) =
    let more : width * suc n ≡ width + width * n = omega (arith, mul-suc width n) in
    rw (turns_from width s (suc i) n, more, take-add width (width * n) (drop (width * i) s), drop-drop width (width * i) s, mul-suc width i)

pub turns_chunks : (width n : ℕ) (s : List ℕ) → length s ≡ width * n → in_turn (chunk width s) 0 n ≡ s
turns_chunks width n s h = turns_from width s 0 n ∙ rw (mul-zero width) (take_all (width * n) s (omega arith))

-- Turns that give lists of one width.
abbrev pub Wide : (ℕ → List ℕ) → ℕ → ℕ → Type 0
Wide f width count = (k : ℕ) → k < count → length (f k) ≡ width

module _ (f : ℕ → List ℕ) (width count : ℕ) (wide : Wide f width count) where
  pub length_turns : (i n : ℕ) → i + n ≤ count → length (in_turn f i n) ≡ width * n
  unfolding in_turn
  length_turns i zero h = sym (mul-zero width)
  length_turns i (suc n) h =
      simp length-append (omega (arith, wide i (omega arith), length_turns (suc i) n (omega arith), mul-suc width n))

  chunk_from : (i n k : ℕ) → i + n ≤ count → k < n → chunk width (in_turn f i n) k ≡ f (i + k)
  unfolding in_turn
  chunk_from i zero k h less = absurd (not-suc-le-zero less)
  chunk_from i (suc n) zero h less =
      rw (mul-zero width, add-zero i) (take_at (f i) (in_turn f (suc i) n) width (wide i (omega arith)))
  chunk_from i (suc n) (suc k) h less =
      let place : width * suc k ≡ length (f i) + width * k = omega (arith, wide i (omega arith), mul-suc width k) in
      rw (place, drop-append-add (f i) (in_turn f (suc i) n) (width * k), chunk_from (suc i) n k (omega arith) (le_of_suc-le-suc less), suc-add i k, add-suc i k)

  -- A chunk of what was made in turn is what that turn gave.
  pub chunk_of_turns : (k : ℕ) → k < count → chunk width (in_turn f 0 count) k ≡ f k
  chunk_of_turns k h = chunk_from 0 count k (omega arith) h ∙ ap f (zero-add k)

-- A write over a part of a list is a store.
part_put : (old : List ℕ) (at n : ℕ) (new : List ℕ) → length new ≡ n → at + length new ≤ length old → put_mid at n old new ≡ put old at new
part_put old at n new e h = rw (put_split old at new h, append_assoc, drop-drop n at old, e)

-- A loop that stores, at each turn k, what f gives there: what is stored and what is left to store are all of it.
pub record Filled (f : ℕ → List ℕ) (width count : ℕ) (old now : List ℕ) (k : ℕ) : Type 0 where
  pub within : k ≤ count
  pub long : length now ≡ length old
  pub same : put now (width * k) (in_turn f k (count - k)) ≡ put old 0 (in_turn f 0 count)

module _ (f : ℕ → List ℕ) (width count : ℕ) where
  pub filled_turn : (old now after : List ℕ) (k : ℕ) → k < count → length (f k) ≡ width → length after ≡ length now
      → after ≡ put now (width * k) (f k) → Filled f width count old now k → Filled f width count old after (k + 1)
  unfolding in_turn
  filled_turn old now after k less wide long e s =
      let rest : count - k ≡ suc (count - (k + 1)) = omega arith in
      let place : width * (k + 1) ≡ width * k + length (f k) = omega (arith, mul-suc width k, add-one k) in
      let all : put now (width * k) (f k ++ in_turn f (suc k) (count - (k + 1))) ≡ put old 0 (in_turn f 0 count) = rw rest at s.same in
      record {
        within = omega arith;
        long = long ∙ s.long;
        same = rw (e, place, put_put now (width * k) (f k) (in_turn f (k + 1) (count - (k + 1))), add-one k) (rw (add-one k) at all);
      }

  -- A turn that writes its list over a part of the slice.
  pub filled_part : (old now new : List ℕ) (k at n : ℕ) → k < count → at ≡ width * k → n ≡ width → new ≡ f k → length (f k) ≡ width → length old ≡ width * count
      → Filled f width count old now k → Filled f width count old (put_mid at n now new) (k + 1)
  filled_part old now new k at n less a w e wide long s =
      let room : width * suc k ≤ width * count = mul-le-mul_left width less in
      let fits : width * k + length (f k) ≤ length now = omega (arith, s.long, mul-suc width k) in
      let same : put_mid at n now new ≡ put now (width * k) (f k) = rw (a, w, e) (part_put now (width * k) width (f k) wide fits) in
      filled_turn old now (put_mid at n now new) k less wide (rw same (length_put now (width * k) (f k))) same s

  -- Nothing is left to store, and nothing of what stood there is left.
  pub filled_done : Wide f width count → (old now : List ℕ) (k : ℕ) → count ≤ k → length old ≡ width * count
      → Filled f width count old now k → now ≡ in_turn f 0 count
  unfolding in_turn
  filled_done wide old now k done long s =
      let all = length_turns f width count wide 0 count (omega arith) in
      let rest : count - k ≡ 0 = omega arith in
      sym (rw rest (put_none now (width * k))) ∙ s.same ∙ put_whole old (in_turn f 0 count) (omega arith)

-- What was made number by number.
get_from : (g : ℕ → ℕ) (i n k : ℕ) → k < n → get_or (in_turn (λ (j : ℕ). g j ∷ []) i n) k 0 ≡ g (i + k)
unfolding in_turn
get_from g i zero k less = absurd (not-suc-le-zero less)
get_from g i (suc n) zero less = ap g (sym (add-zero i))
get_from g i (suc n) (suc k) less = get_from g (suc i) n k (le_of_suc-le-suc less) ∙ ap g (suc-add i k ∙ sym (add-suc i k))

pub get_of_turns : (g : ℕ → ℕ) (n k : ℕ) → k < n → get_or (in_turn (λ (j : ℕ). g j ∷ []) 0 n) k 0 ≡ g k
get_of_turns g n k less = get_from g 0 n k less ∙ ap g (zero-add k)
