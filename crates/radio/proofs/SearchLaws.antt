-- Laws of the search: the comparison byte by byte, and the first place from a place on.
-- Assumes nothing.
use mathlib.Core.Path.{◌≡◌, refl, sym, ap, subst, ◌∙◌}
use mathlib.Core.Logic.{◌⊎◌, inl, inr}
use mathlib.Core.Bool.{Bool, true, false, cond, ◌&&◌, true≢false}
use mathlib.Core.List.{List, [], ◌∷◌}
use Prim.Native.Nat.{ℕ, zero, suc, ◌+◌, ◌-◌, ◌≤◌, ◌<◌}
use native.Mathlib.Nat.{eq-or-lt_of_le}
use native.Mathlib.Numerals.{add-one, add-two, add-three, add-four}
use native.Mathlib.Omega.{arith}
use borrow.Author.Tests.{eq-eqb, le-leb, lt-leb, leb-true, eqb-true}
use lib.Dec.{eqb, leb}
use lib.ListN.{length, get_or, take, drop}
use lib.Seq.{drop-cons, take_all}
use Rattle.numbers.proofs.Tests.{both, and}
use Rattle.radio.specs.Search.{RadioAnswer}
use Rattle.radio.specs.Search.{Found, Nothing, Refused}
use Rattle.radio.specs.Search.{start, alike_bytes, begins_at, first_from, find_call, MessageAt, First}

-- No place before the third has two bytes before it.
pub none_before : (received : List ℕ) (n : ℕ) → first_from received 2 (n - 2) ≡ first_from received 0 n
unfolding first_from begins_at
none_before received zero = refl
none_before received (suc zero) = refl
none_before received (suc (suc n)) =
    let two : suc (suc n) - 2 ≡ n = omega arith in
    ap (first_from received 2) two

-- No place has a length byte behind it where less than four bytes are left.
none_behind : (received : List ℕ) (place n : ℕ) → 2 ≤ place → length received ≤ place + 3 → first_from received place n ≡ Nothing
unfolding first_from begins_at
none_behind received place zero least few = refl
none_behind received place (suc n) least few =
    rw (le-leb 2 place least, lt-leb (place + 4) (length received) (omega arith)) (none_behind received (suc place) n (omega arith) (omega arith))

-- The comparison at a place, where two bytes stand before it and the length byte behind.
begins : (received : List ℕ) (place : ℕ) → 2 ≤ place → place + 3 < length received → begins_at received place ≡ alike_bytes (take (place + 3 - (place - 2)) (drop (place - 2) received)) start
unfolding begins_at
begins received place least less =
    let five : place + 3 - (place - 2) ≡ 5 = omega arith in
    rw (five, le-leb 2 place least, le-leb (place + 4) (length received) (omega arith))

-- A loop over the places: the first from here on is the first of all, and a place has room in four bytes.
pub record Searching (received : List ℕ) (place : ℕ) : Type 0 where
  pub short : length received ≤ 4294967295
  pub least : 2 ≤ place
  pub most : place ≤ length received + 2
  pub same : first_from received place (length received - place) ≡ first_from received 0 (length received)

pub searching : (received : List ℕ) → length received ≤ 4294967295 → Searching received 2
searching received short = record { short = short; least = omega arith; most = omega arith; same = none_before received (length received) }

module _ (received : List ℕ) (place : ℕ) (r : Bool) (less : place + 3 < length received) (s : Searching received place)
    (is : r ≡ alike_bytes (take (place + 3 - (place - 2)) (drop (place - 2) received)) start) where
  turn : cond r (Found place (place + 3)) (first_from received (place + 1) (length received - (place + 1))) ≡ first_from received 0 (length received)
  unfolding first_from
  turn =
      let rest : length received - place ≡ suc (length received - (place + 1)) = omega arith in
      let all = rw rest at s.same in
      rw (is ∙ sym (begins received place s.least less), add-one place) (rw (add-one place) at all)

  pub found_here : r ≡ true → Found place (place + 3) ≡ first_from received 0 (length received)
  found_here e = sym (ap (λ (b : Bool). cond b (Found place (place + 3)) (first_from received (place + 1) (length received - (place + 1)))) e) ∙ turn

  pub not_here : r ≡ false → Searching received (place + 1)
  not_here e =
      record {
        short = s.short;
        least = omega arith;
        most = omega arith;
        same = sym (ap (λ (b : Bool). cond b (Found place (place + 3)) (first_from received (place + 1) (length received - (place + 1)))) e) ∙ turn;
      }

pub found_nowhere : (received : List ℕ) (place : ℕ) → length received ≤ place + 3 → Searching received place → Nothing ≡ first_from received 0 (length received)
found_nowhere received place few s = sym (none_behind received place (length received - place) s.least few) ∙ s.same

-- The answer, where a place has room and where it might not.
pub find_first : (received : List ℕ) → length received ≤ 4294967295 → first_from received 0 (length received) ≡ find_call received
unfolding find_call
find_first received short = rw (le-leb (length received) 4294967295 short)

pub find_refused : (received : List ℕ) → 4294967295 < length received → Refused 60 ≡ find_call received
unfolding find_call
find_refused received long = rw (lt-leb (length received) 4294967295 long)

-- Five bytes from a place on, one by one.
five_from : (l : List ℕ) (at : ℕ) → at + 5 ≤ length l
    → take 5 (drop at l) ≡ get_or l at 0 ∷ get_or l (at + 1) 0 ∷ get_or l (at + 2) 0 ∷ get_or l (at + 3) 0 ∷ get_or l (at + 4) 0 ∷ []
five_from l at h =
    rw (drop-cons l at 0 (omega arith), drop-cons l (suc at) 0 (omega arith), drop-cons l (suc (suc at)) 0 (omega arith), drop-cons l (suc (suc (suc at))) 0 (omega arith), drop-cons l (suc (suc (suc (suc at)))) 0 (omega arith), add-one at, add-two at, add-three at, add-four at)

-- Bytes that are alike are as many.
alike_long : (a b : List ℕ) → alike_bytes a b ≡ true → length a ≡ length b
alike_long [] [] e = refl
alike_long [] (b ∷ bs) e = absurd (true≢false (sym e))
alike_long (a ∷ as') [] e = absurd (true≢false (sym e))
alike_long (a ∷ as') (b ∷ bs) e = ap suc (alike_long as' bs (both (eqb a b) (alike_bytes as' bs) e).1)

-- What the start of a message asks of bytes, one by one.
abbrev pub five_so : List ℕ → Bool
five_so l = eqb (get_or l 0 0) 0x00 && (eqb (get_or l 1 0) 0x00 && (eqb (get_or l 2 0) 0x00 && (eqb (get_or l 3 0) 0xB2 && (eqb (get_or l 4 0) 0x4D && true))))

pub start_so : (l : List ℕ) → alike_bytes l start ≡ (eqb (length l) 5 && five_so l)
start_so l = by (eqb (length l) 5) refl
  where
    no : eqb (length l) 5 ≡ false → (b : Bool) → alike_bytes l start ≡ b → b ≡ false
    no e true f = absurd (true≢false (sym (eq-eqb (length l) 5 (alike_long l start f)) ∙ e))
    no e false f = refl

    by : (b : Bool) → eqb (length l) 5 ≡ b → alike_bytes l start ≡ (b && five_so l)
    by true e =
        let long : length l ≡ 5 = eqb-true (length l) 5 e in
        ap (λ (s : List ℕ). alike_bytes s start) (sym (take_all 5 l (omega arith)) ∙ five_from l 0 (omega arith))
    by false e = no e (alike_bytes l start) refl

-- Five bytes that are the start of a message.
record Five (l : List ℕ) (at : ℕ) : Type 0 where
  b0 : get_or l at 0 ≡ 0x00
  b1 : get_or l (at + 1) 0 ≡ 0x00
  b2 : get_or l (at + 2) 0 ≡ 0x00
  b3 : get_or l (at + 3) 0 ≡ 0xB2
  b4 : get_or l (at + 4) 0 ≡ 0x4D

alike_five : (l : List ℕ) (at : ℕ) → at + 5 ≤ length l → alike_bytes (take 5 (drop at l)) start ≡ true → Five l at
alike_five l at h e =
    let p0 = both (eqb (get_or l at 0) 0x00) _ (sym (ap (λ (s : List ℕ). alike_bytes s start) (five_from l at h)) ∙ e) in
    let p1 = both (eqb (get_or l (at + 1) 0) 0x00) _ p0.1 in
    let p2 = both (eqb (get_or l (at + 2) 0) 0x00) _ p1.1 in
    let p3 = both (eqb (get_or l (at + 3) 0) 0xB2) _ p2.1 in
    let p4 = both (eqb (get_or l (at + 4) 0) 0x4D) _ p3.1 in
    record {
      b0 = eqb-true (get_or l at 0) 0x00 p0.0;
      b1 = eqb-true (get_or l (at + 1) 0) 0x00 p1.0;
      b2 = eqb-true (get_or l (at + 2) 0) 0x00 p2.0;
      b3 = eqb-true (get_or l (at + 3) 0) 0xB2 p3.0;
      b4 = eqb-true (get_or l (at + 4) 0) 0x4D p4.0;
    }

five_alike : (l : List ℕ) (at : ℕ) → at + 5 ≤ length l → Five l at → alike_bytes (take 5 (drop at l)) start ≡ true
five_alike l at h f = ap (λ (s : List ℕ). alike_bytes s start) (five_from l at h) ∙ rw (f.b0, f.b1, f.b2, f.b3, f.b4)

-- A place begins a message exactly where its bytes say so.
module _ (received : List ℕ) (place : ℕ) where
  at_place : (i j : ℕ) {b : ℕ} → i ≡ j → get_or received i 0 ≡ b → get_or received j 0 ≡ b
  at_place i j e h = sym (ap (λ (k : ℕ). get_or received k 0) e) ∙ h

  pub message_at : begins_at received place ≡ true → MessageAt received place
  unfolding begins_at
  message_at e =
      let a = both (leb 2 place) _ e in
      let b = both (leb (place + 4) (length received)) _ a.1 in
      let two : 2 ≤ place = leb-true 2 place a.0 in
      let four : place + 4 ≤ length received = leb-true (place + 4) (length received) b.0 in
      let f = alike_five received (place - 2) (omega arith) b.1 in
      record {
        two_before = two;
        zero_before_that = f.b0;
        zero_before = at_place (place - 2 + 1) (place - 1) (omega arith) f.b1;
        first = at_place (place - 2 + 2) place (omega arith) f.b2;
        second = at_place (place - 2 + 3) (place + 1) (omega arith) f.b3;
        third = at_place (place - 2 + 4) (place + 2) (omega arith) f.b4;
        length_byte = omega arith;
      }

  pub begins_message : MessageAt received place → begins_at received place ≡ true
  unfolding begins_at
  begins_message m =
      let two : 2 ≤ place = m.two_before in
      let f : Five received (place - 2) = record {
        b0 = m.zero_before_that;
        b1 = at_place (place - 1) (place - 2 + 1) (omega arith) m.zero_before;
        b2 = at_place place (place - 2 + 2) (omega arith) m.first;
        b3 = at_place (place + 1) (place - 2 + 3) (omega arith) m.second;
        b4 = at_place (place + 2) (place - 2 + 4) (omega arith) m.third;
      } in
      and (le-leb 2 place two) (and (le-leb (place + 4) (length received) (omega arith)) (five_alike received (place - 2) (omega arith) f))

-- What the first of n places from one on is: there is none, or it begins a message and none before it does.
data Sought (received : List ℕ) (place n : ℕ) (a : RadioAnswer) : Type 0 where
  none : a ≡ Nothing → ((p : ℕ) → place ≤ p → p < place + n → begins_at received p ≡ false) → Sought received place n a
  some : (p : ℕ) → a ≡ Found p (p + 3) → begins_at received p ≡ true → ((q : ℕ) → place ≤ q → q < p → begins_at received q ≡ false) → Sought received place n a

sought : (received : List ℕ) (place n : ℕ) → Sought received place n (first_from received place n)
unfolding first_from
sought received place zero = none refl (λ p low high. absurd (omega arith))
sought received place (suc n) = by (begins_at received place) refl (first_from received (suc place) n) (sought received (suc place) n)
  where
    first : begins_at received place ≡ false → (p : ℕ) → (place ≡ p) ⊎ (place < p) → (suc place ≤ p → begins_at received p ≡ false) → begins_at received p ≡ false
    first x p (inl same) h = ap (begins_at received) (sym same) ∙ x
    first x p (inr more) h = h more

    by : (b : Bool) → begins_at received place ≡ b → (rest : RadioAnswer) → Sought received (suc place) n rest → Sought received place (suc n) (cond b (Found place (place + 3)) rest)
    by true x rest l = some place refl x (λ q low high. absurd (omega arith))
    by false x rest (none e h) = none e (λ p low high. first x p (eq-or-lt_of_le low) (λ more. h p more (omega arith)))
    by false x rest (some p e b h) = some p e b (λ q low high. first x q (eq-or-lt_of_le low) (λ more. h q more high))

-- No test both passes and fails, and no answer is of two kinds.
clash : {b : Bool} → b ≡ true → b ≡ false → ⊥
clash e f = let z : ◌≡◌ {A = ℕ} 0 1 = cc in omega arith

not_both : (a : RadioAnswer) (place at : ℕ) → a ≡ Found place at → a ≡ Nothing → ⊥
not_both a place at e f = let z : ◌≡◌ {A = ℕ} 0 1 = cc in omega arith

same_place : (a : RadioAnswer) (p q at : ℕ) → a ≡ Found p (p + 3) → a ≡ Found q at → (p ≡ q) × (at ≡ p + 3)
same_place a p q at e f = (cc, cc)

-- The search refuses nothing.
pub never_refused : (received : List ℕ) (refusal : ℕ) → first_from received 0 (length received) ≡ Refused refusal → ⊥
never_refused received refusal e = by (sought received 0 (length received))
  where
    by : Sought received 0 (length received) (first_from received 0 (length received)) → ⊥
    by (none f h) = let z : ◌≡◌ {A = ℕ} 0 1 = cc in absurd (omega arith)
    by (some p f b h) = let z : ◌≡◌ {A = ℕ} 0 1 = cc in absurd (omega arith)

pub first_so : (received : List ℕ) (a : RadioAnswer) → a ≡ first_from received 0 (length received) → First received a
first_so received a e = by (sought received 0 (length received))
  where
    by : Sought received 0 (length received) (first_from received 0 (length received)) → First received a
    by (none f h) =
        record {
          begins = λ place at g. absurd (not_both a place at g (e ∙ f));
          length_at = λ place at g. absurd (not_both a place at g (e ∙ f));
          least = λ place at g. absurd (not_both a place at g (e ∙ f));
          found = λ place m. absurd (clash (begins_message received place m) (h place (omega arith) (omega (arith, m.length_byte))));
          nowhere = λ g. e ∙ f;
        }
    by (some p f b h) =
        record {
          begins = λ place at g. subst (MessageAt received) (same_place a p place at (e ∙ f) g).0 (message_at received p b);
          length_at = λ place at g. let s = same_place a p place at (e ∙ f) g in s.1 ∙ ap (λ (k : ℕ). k + 3) s.0;
          least = λ place at g q less m. clash (begins_message received q m) (h q (omega arith) (omega (arith, (same_place a p place at (e ∙ f) g).0)));
          found = λ place m. (p, e ∙ f);
          nowhere = λ g. absurd (g p (message_at received p b));
        }
