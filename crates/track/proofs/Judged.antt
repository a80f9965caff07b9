-- Laws of the judgement: one turn of it, what each way of a call answers, and what acceptance implies.
-- Assumes nothing.
use mathlib.Core.Path.{◌≡◌, refl, sym, ap, ◌∙◌}
use mathlib.Core.Bool.{Bool, true, false, cond, not}
use mathlib.Core.List.{List}
use Prim.Native.Nat.{ℕ, zero, suc, ◌+◌, ◌-◌, ◌≤◌, ◌<◌}
use native.Mathlib.Nat.{add-zero, zero-add, suc-add, add-suc}
use native.Mathlib.Numerals.{add-one}
use native.Mathlib.Omega.{arith}
use borrow.Author.Tests.{eq-eqb, eqb-true, eqb-false}
use lib.Dec.{eqb}
use lib.ListN.{length}
use Rattle.answer.specs.Answer.{refusal_told}
use Rattle.numbers.proofs.Tests.{both}
use Rattle.header.specs.Header.{area_kept, pack_kept}
use Rattle.header.proofs.TakenApart.{pack_small}
use Rattle.items.specs.Items.{numbers_length}
use Rattle.block.specs.Faults.{block_fault}
use Rattle.track.specs.Sizes.{track_length, packs_length, items_length}
use Rattle.track.specs.Blocks.{pack_in, block_at}
use Rattle.track.specs.Bounds.{PacksKept}
use Rattle.track.specs.Answer.{TrackAnswer, Accepted, Refused, lengths_kept, pack_fault, onward, fault_from, make_call, read_call, told, Makes, Reads}

-- The fault of each block of a track that is read.
abbrev pub fault_of : (area : ℕ) (track : List ℕ) → ℕ → ℕ
fault_of area track block = block_fault area block (block_at track block)

-- A loop over the blocks: the first fault from here on is the first of all.
pub record Judging (fault : ℕ → ℕ) (block : ℕ) : Type 0 where
  pub within : block ≤ 16
  pub same : fault_from fault block (16 - block) ≡ fault_from fault 0 16

module _ (fault : ℕ → ℕ) (block refusal : ℕ) (less : block < 16) (is : refusal ≡ fault block) (j : Judging fault block) where
  turn : onward refusal block (fault_from fault (block + 1) (16 - (block + 1))) ≡ fault_from fault 0 16
  unfolding fault_from
  turn =
      let rest : 16 - block ≡ suc (16 - (block + 1)) = omega arith in
      let all : onward (fault block) block (fault_from fault (suc block) (16 - (block + 1))) ≡ fault_from fault 0 16 = rw rest at j.same in
      rw (is, add-one block) (rw (add-one block) at all)

  pub judged_on : refusal ≡ 0 → Judging fault (block + 1)
  judged_on h =
      record {
        within = omega arith;
        same = sym (ap (λ (b : Bool). cond b (fault_from fault (block + 1) (16 - (block + 1))) (Refused refusal block)) (eq-eqb refusal 0 h)) ∙ turn;
      }

  pub judged_fault : eqb refusal 0 ≡ false → Refused refusal block ≡ fault_from fault 0 16
  judged_fault h = sym (ap (λ (b : Bool). cond b (fault_from fault (block + 1) (16 - (block + 1))) (Refused refusal block)) h) ∙ turn

pub judged_all : (fault : ℕ → ℕ) (block : ℕ) → 16 ≤ block → Judging fault block → Accepted ≡ fault_from fault 0 16
unfolding fault_from
judged_all fault block done j =
    let rest : 16 - block ≡ 0 = omega arith in
    rw rest at j.same

-- A refusal is no acceptance.
not_accepted : (refusal place : ℕ) → Refused refusal place ≡ Accepted → ⊥
not_accepted refusal place e = let z : ◌≡◌ {A = ℕ} 0 1 = cc in omega arith

-- A block was passed, and the rest with it.
passed : (b : Bool) (rest : TrackAnswer) (refusal block : ℕ) → cond b rest (Refused refusal block) ≡ Accepted → (b ≡ true) × (rest ≡ Accepted)
passed true rest refusal block e = (refl, e)
passed false rest refusal block e = absurd (not_accepted refusal block e)

-- Accepted exactly where no block has a fault.
no_fault_from : (fault : ℕ → ℕ) (i n k : ℕ) → fault_from fault i n ≡ Accepted → k < n → fault (i + k) ≡ 0
unfolding fault_from
no_fault_from fault i zero k e less = absurd (omega arith)
no_fault_from fault i (suc n) zero e less =
    let p = passed (eqb (fault i) 0) (fault_from fault (suc i) n) (fault i) i e in
    ap fault (add-zero i) ∙ eqb-true (fault i) 0 p.0
no_fault_from fault i (suc n) (suc k) e less =
    let p = passed (eqb (fault i) 0) (fault_from fault (suc i) n) (fault i) i e in
    ap fault (add-suc i k ∙ sym (suc-add i k)) ∙ no_fault_from fault (suc i) n k p.1 (omega arith)

pub no_fault : (fault : ℕ → ℕ) (k : ℕ) → fault_from fault 0 16 ≡ Accepted → k < 16 → fault k ≡ 0
no_fault fault k e less = sym (ap fault (zero-add k)) ∙ no_fault_from fault 0 16 k e less

pub none_found : (fault : ℕ → ℕ) (i n : ℕ) → ((k : ℕ) → k < i + n → fault k ≡ 0) → fault_from fault i n ≡ Accepted
unfolding fault_from
none_found fault i zero h = refl
none_found fault i (suc n) h = rw (h i (omega arith)) (none_found fault (suc i) n (λ k less. h k (omega arith)))

-- A refusal is never 0: a call that tells 0 is accepted.
told_none : (fault : ℕ → ℕ) (i n : ℕ) → refusal_told (told (fault_from fault i n)) ≡ 0 → fault_from fault i n ≡ Accepted
unfolding fault_from
told_none fault i zero e = refl
told_none fault i (suc n) e = by (eqb (fault i) 0) refl (told_none fault (suc i) n) e
  where
    by : (b : Bool) → eqb (fault i) 0 ≡ b → (refusal_told (told (fault_from fault (suc i) n)) ≡ 0 → fault_from fault (suc i) n ≡ Accepted)
        → refusal_told (told (cond b (fault_from fault (suc i) n) (Refused (fault i) i))) ≡ 0 → cond b (fault_from fault (suc i) n) (Refused (fault i) i) ≡ Accepted
    by true x rest h = rest h
    by false x rest h = absurd (eqb-false (fault i) 0 x h)

-- The refusal at a Pack ID that may not be, and none at one that may.
module _ (packs : List ℕ) (block pack : ℕ) (is : pack ≡ pack_in packs block) where
  pub pack_faulty : pack_kept block pack ≡ false → 33 ≡ pack_fault packs block
  pack_faulty e = rw (← is, e)

  pub pack_right : pack_kept block pack ≡ true → 0 ≡ pack_fault packs block
  pack_right e = rw (← is, e)

-- The slices are of their lengths.
pub record Lengths (t p i n : ℕ) : Type 0 where
  pub track : t ≡ track_length
  pub packs : p ≡ packs_length
  pub items : i ≡ items_length
  pub numbers : n ≡ numbers_length

module _ (track packs items numbers : ℕ) where
  pub lengths : lengths_kept track packs items numbers ≡ true → Lengths track packs items numbers
  unfolding lengths_kept
  lengths e =
      let a = both (eqb track track_length) _ e in
      let b = both (eqb packs packs_length) _ a.1 in
      let c = both (eqb items items_length) _ b.1 in
      record {
        track = eqb-true track track_length a.0;
        packs = eqb-true packs packs_length b.0;
        items = eqb-true items items_length c.0;
        numbers = eqb-true numbers numbers_length c.1;
      }

  -- One that is not refuses the call.
  pub lengths_broken : (Lengths track packs items numbers → ⊥) → lengths_kept track packs items numbers ≡ false
  lengths_broken h = by (lengths_kept track packs items numbers) refl
    where
      by : (l : Bool) → lengths_kept track packs items numbers ≡ l → lengths_kept track packs items numbers ≡ false
      by true x = absurd (h (lengths x))
      by false x = x

  pub lengths_kept_lem : Lengths track packs items numbers → lengths_kept track packs items numbers ≡ true
  unfolding lengths_kept
  lengths_kept_lem l =
      rw (
        eq-eqb track track_length l.track,
        eq-eqb packs packs_length l.packs,
        eq-eqb items items_length l.items,
        eq-eqb numbers numbers_length l.numbers,
      )

pub pack_is_kept : (packs : List ℕ) (block : ℕ) → pack_fault packs block ≡ 0 → pack_kept block (pack_in packs block) ≡ true
pack_is_kept packs block e = by (pack_kept block (pack_in packs block)) refl e
  where
    by : (b : Bool) → pack_kept block (pack_in packs block) ≡ b → ◌≡◌ {A = ℕ} (cond b 0 33) 0 → pack_kept block (pack_in packs block) ≡ true
    by true x h = x
    by false x h = absurd (omega arith)

-- What an accepted making and an accepted reading have shown.
pub record MakeKept (area : ℕ) (packs : List ℕ) (items track numbers : ℕ) : Type 0 where
  pub long : Lengths track (length packs) items numbers
  pub allowed : area_kept area ≡ true
  pub each : (block : ℕ) → block < 16 → pack_fault packs block ≡ 0

pub record ReadKept (area : ℕ) (track : List ℕ) (packs items numbers : ℕ) : Type 0 where
  pub long : Lengths (length track) packs items numbers
  pub each : (block : ℕ) → block < 16 → block_fault area block (block_at track block) ≡ 0

-- What making answers, by its lengths, its Area ID and its Pack IDs.
module _ (area : ℕ) (packs : List ℕ) (items track numbers : ℕ) where
  pub make_lengths : (Lengths track (length packs) items numbers → ⊥) → Refused 30 0 ≡ make_call area packs items track numbers
  unfolding make_call
  make_lengths h = rw (lengths_broken track (length packs) items numbers h)

  pub make_area : Lengths track (length packs) items numbers → area_kept area ≡ false → Refused 32 0 ≡ make_call area packs items track numbers
  unfolding make_call
  make_area l e = rw (lengths_kept_lem track (length packs) items numbers l, e)

  pub make_packs : Lengths track (length packs) items numbers → area_kept area ≡ true
      → fault_from (pack_fault packs) 0 16 ≡ make_call area packs items track numbers
  unfolding make_call
  make_packs l e = rw (lengths_kept_lem track (length packs) items numbers l, e)

  pub make_kept : make_call area packs items track numbers ≡ Accepted → MakeKept area packs items track numbers
  unfolding make_call
  make_kept e = by (lengths_kept track (length packs) items numbers) refl (area_kept area) refl e
    where
      by : (l : Bool) → lengths_kept track (length packs) items numbers ≡ l → (a : Bool) → area_kept area ≡ a
          → cond (not l) (Refused 30 0) (cond (not a) (Refused 32 0) (fault_from (pack_fault packs) 0 16)) ≡ Accepted → MakeKept area packs items track numbers
      by false x a y h = absurd (not_accepted 30 0 h)
      by true x false y h = absurd (not_accepted 32 0 h)
      by true x true y h =
          record { long = lengths track (length packs) items numbers x; allowed = y; each = λ block less. no_fault (pack_fault packs) block h less }

  pub make_told : refusal_told (told (make_call area packs items track numbers)) ≡ 0 → make_call area packs items track numbers ≡ Accepted
  unfolding make_call
  make_told e = by (lengths_kept track (length packs) items numbers) (area_kept area) e
    where
      by : (l a : Bool) → refusal_told (told (cond (not l) (Refused 30 0) (cond (not a) (Refused 32 0) (fault_from (pack_fault packs) 0 16)))) ≡ 0
          → cond (not l) (Refused 30 0) (cond (not a) (Refused 32 0) (fault_from (pack_fault packs) 0 16)) ≡ Accepted
      by false a h = absurd (omega arith)
      by true false h = absurd (omega arith)
      by true true h = told_none (pack_fault packs) 0 16 h

  pub packs_small : MakeKept area packs items track numbers → PacksKept packs
  packs_small m block less = pack_small block (pack_in packs block) (pack_is_kept packs block (m.each block less))

  pub make_accepts : MakeKept area packs items track numbers → make_call area packs items track numbers ≡ Accepted
  make_accepts m =
      sym (make_packs m.long m.allowed) ∙ none_found (pack_fault packs) 0 16 (λ k less. m.each k (omega arith))

-- What reading answers, by its lengths and its blocks.
module _ (area : ℕ) (track : List ℕ) (packs items numbers : ℕ) where
  pub read_lengths : (Lengths (length track) packs items numbers → ⊥) → Refused 30 0 ≡ read_call area track packs items numbers
  unfolding read_call
  read_lengths h = rw (lengths_broken (length track) packs items numbers h)

  pub read_blocks : Lengths (length track) packs items numbers → fault_from (fault_of area track) 0 16 ≡ read_call area track packs items numbers
  unfolding read_call
  read_blocks l = rw (lengths_kept_lem (length track) packs items numbers l)

  pub read_kept : read_call area track packs items numbers ≡ Accepted → ReadKept area track packs items numbers
  unfolding read_call
  read_kept e = by (lengths_kept (length track) packs items numbers) refl e
    where
      by : (l : Bool) → lengths_kept (length track) packs items numbers ≡ l
          → cond (not l) (Refused 30 0) (fault_from (λ (block : ℕ). block_fault area block (block_at track block)) 0 16) ≡ Accepted → ReadKept area track packs items numbers
      by false x h = absurd (not_accepted 30 0 h)
      by true x h =
          record {
            long = lengths (length track) packs items numbers x;
            each = λ block less. no_fault (λ (b : ℕ). block_fault area b (block_at track b)) block h less;
          }

  pub read_told : refusal_told (told (read_call area track packs items numbers)) ≡ 0 → read_call area track packs items numbers ≡ Accepted
  unfolding read_call
  read_told e = by (lengths_kept (length track) packs items numbers) e
    where
      by : (l : Bool) → refusal_told (told (cond (not l) (Refused 30 0) (fault_from (λ (block : ℕ). block_fault area block (block_at track block)) 0 16))) ≡ 0
          → cond (not l) (Refused 30 0) (fault_from (λ (block : ℕ). block_fault area block (block_at track block)) 0 16) ≡ Accepted
      by false h = absurd (omega arith)
      by true h = told_none (λ (block : ℕ). block_fault area block (block_at track block)) 0 16 h

  pub read_accepts : ReadKept area track packs items numbers → read_call area track packs items numbers ≡ Accepted
  read_accepts m =
      sym (read_blocks m.long)
      ∙ none_found (λ (b : ℕ). block_fault area b (block_at track b)) 0 16 (λ k less. m.each k (omega arith))

-- A call that a slice's length refuses leaves every slice.
module _ (area frame : ℕ) where
  pub makes_none : {packs items old old' track numbers : List ℕ} {a : TrackAnswer} → a ≡ Refused 30 0 → (Lengths (length old) (length packs) (length items) (length old') → ⊥)
      → track ≡ old → numbers ≡ old' → Makes area frame packs items old old' a track numbers
  makes_none {packs} {items} {old} {old'} e h t n =
      record { answer = e ∙ make_lengths area packs (length items) (length old) (length old') h; track_left = rw e t; numbers_left = rw e n }

  pub reads_none : {track old old' old'' packs items numbers : List ℕ} {a : TrackAnswer} → a ≡ Refused 30 0 → (Lengths (length track) (length old) (length old') (length old'') → ⊥)
      → packs ≡ old → items ≡ old' → numbers ≡ old'' → Reads area frame track old old' old'' a packs items numbers
  reads_none {track} {old} {old'} {old''} e h p i n =
      record { answer = e ∙ read_lengths area track (length old) (length old') (length old'') h; packs_left = rw e p; items_left = rw e i; numbers_left = rw e n }
