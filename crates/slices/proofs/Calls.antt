-- Laws of the one shape of a call: one that its lengths refuse, one that goes on, and what is left in slices one by one.
-- Assumes nothing.
use mathlib.Core.Path.{◌≡◌, refl, sym, ap, ◌∙◌}
use mathlib.Core.Logic.{◌↔◌}
use mathlib.Core.Bool.{Bool, true, false, true≢false}
use mathlib.Core.List.{List, [], ◌∷◌}
use Prim.Native.Nat.{ℕ, ◌^◌, ◌<◌}
use native.Mathlib.Omega.{arith}
use borrow.Author.Tests.{eqb-true}
use lib.Dec.{eqb}
use lib.ListN.{length, get_or}
use Rattle.numbers.specs.Numbers.{in_bytes, field}
use Rattle.numbers.proofs.InBytes.{length_in_bytes, field_of_bytes}
use Rattle.numbers.proofs.Tests.{both}
use Rattle.answer.specs.Answer.{Told}
use Rattle.answer.specs.Answer.{Accepted, RefusedAt}
use Rattle.answer.specs.Answer.{accepted, numbers_told, refusal_told, if_accepted}
use Rattle.slices.specs.Call.{Left, left, slice, answer_length, lengths_kept, of_meaning, called, Tells, Refuses, Answers}

-- Two outcomes that meet a call's contract, which is that what it leaves is so and so, coincide: the returned number and every byte
-- of every slice that it may write.
pub settled : {x a b : Left} → a ≡ x → b ≡ x → a ≡ b
settled e f = e ∙ sym f

-- Slices of their lengths.
pub lengths : (state own answer : ℕ) → lengths_kept state own answer ≡ true → (state ≡ own) × (answer ≡ answer_length)
unfolding lengths_kept
lengths state own answer e =
    let h = both (eqb state own) (eqb answer answer_length) e in
    (eqb-true state own h.0, eqb-true answer answer_length h.1)

-- A slice of another length.
pub stopped : {kept : Bool} (told : Told) (new old : List (List ℕ)) (answer : List ℕ) → kept ≡ false → left 1 old answer ≡ called kept told new old answer
unfolding called
stopped told new old answer e = rw e

-- Slices of their lengths, once the call has told what it does.
pub went_on : {kept : Bool} (told : Told) (new old : List (List ℕ)) (answer : List ℕ) {lent : List (List ℕ)} {refusal : ℕ} {after : List ℕ}
    → kept ≡ true → lent ≡ if_accepted told new old → Tells told refusal after → left refusal lent after ≡ called kept told new old answer
unfolding called
went_on told new old answer e f t = rw (e, f, t.returns, t.numbers)

-- The same, by the answer of the call's own crate and what that tells.
pub answered : {A : Type 0} (told : A → Told) {kept : Bool} {a b : A} {t : Told} (new old : List (List ℕ)) (answer : List ℕ) {lent : List (List ℕ)} {refusal : ℕ} {after : List ℕ}
    → kept ≡ true → a ≡ b → t ≡ told a → lent ≡ if_accepted (told a) new old → Tells t refusal after → left refusal lent after ≡ called kept (told b) new old answer
answered {A} told {kept} {a} new old answer k e f l t =
    went_on (told a) new old answer k l (rw f at t) ∙ ap (λ (x : A). called kept (told x) new old answer) e

-- A start, which may write the state alone: accepted and refused.
pub started : {kept : Bool} {told : Told} (new old answer : List ℕ) {state after : List ℕ} {refusal : ℕ}
    → kept ≡ true → told ≡ accepted → state ≡ new → Tells accepted refusal after → left refusal (state ∷ []) after ≡ called kept told (new ∷ []) (old ∷ []) answer
started new old answer k e f t = rw e (went_on accepted (new ∷ []) (old ∷ []) answer k (ap (λ (l : List ℕ). l ∷ []) f) t)

pub not_started_lem : {kept : Bool} {told : Told} (number : ℕ) (new old answer : List ℕ) {after : List ℕ} {refusal : ℕ}
    → kept ≡ true → told ≡ RefusedAt number 0 → Tells (RefusedAt number 0) refusal after → left refusal (old ∷ []) after ≡ called kept told (new ∷ []) (old ∷ []) answer
not_started_lem number new old answer k e t = rw e (went_on (RefusedAt number 0) (new ∷ []) (old ∷ []) answer k refl t)

-- The tests before a call, where they refuse it and where they do not.
pub refused_before : (kept meant : Bool) (told : Told) (new old : List (List ℕ)) (answer : List ℕ) {r : Bool} {after : List ℕ}
    → Refuses kept meant answer r after → r ≡ true → left 1 old after ≡ called kept (of_meaning meant told) new old answer
unfolding called
refused_before true true told new old answer h e = absurd (true≢false (sym e ∙ h.refuses))
refused_before true false told new old answer h e = rw h.numbers
refused_before false meant told new old answer h e = rw h.numbers

pub let_by : (kept meant : Bool) {answer after : List ℕ} {r : Bool} → Refuses kept meant answer r after → r ≡ false → (kept ≡ true) × ((meant ≡ true) × (after ≡ answer))
let_by true true h e = (refl, (refl, h.numbers))
let_by true false h e = absurd (true≢false (sym h.refuses ∙ e))
let_by false meant h e = absurd (true≢false (sym h.refuses ∙ e))

-- No slice, and one more.
pub none_lent : (told : Told) → ◌≡◌ {A = List (List ℕ)} [] (if_accepted told [] [])
none_lent (Accepted outcome number entries taken) = refl
none_lent (RefusedAt refusal place) = refl

pub more_lent : (told : Told) (new old : List ℕ) (news olds : List (List ℕ)) {slice : List ℕ} {slices : List (List ℕ)}
    → slice ≡ if_accepted told new old → slices ≡ if_accepted told news olds → slice ∷ slices ≡ if_accepted told (new ∷ news) (old ∷ olds)
more_lent (Accepted outcome number entries taken) new old news olds e f = rw (e, f)
more_lent (RefusedAt refusal place) new old news olds e f = rw (e, f)

-- A call that returns 0 is not one that its lengths refuse.
pub let_through : {o : Left} (kept : Bool) (told : Told) (new old : List (List ℕ)) (answer : List ℕ) → o ≡ called kept told new old answer → o.refusal ≡ 0 → kept ≡ true
unfolding called
let_through true told new old answer e zero = refl
let_through {o} false told new old answer e zero = let z : ◌≡◌ {A = ℕ} 1 0 = sym (ap (λ (p : Left). p.refusal) e) ∙ zero in absurd (omega arith)

-- What a call leaves that they let through.
pub record Leaves (told : Told) (new old : List (List ℕ)) (o : Left) : Type 0 where
  pub returns : o.refusal ≡ refusal_told told
  pub slices : (k : ℕ) → slice o k ≡ if_accepted told (get_or new k []) (get_or old k [])
  pub numbers : o.answer ≡ in_bytes (numbers_told told)

slice_left : (told : Told) (new old : List (List ℕ)) (k : ℕ) → get_or (if_accepted told new old) k [] ≡ if_accepted told (get_or new k []) (get_or old k [])
slice_left (Accepted outcome number entries taken) new old k = refl
slice_left (RefusedAt refusal place) new old k = refl

pub leaves : {o : Left} {kept : Bool} (told : Told) (new old : List (List ℕ)) (answer : List ℕ) → o ≡ called kept told new old answer → kept ≡ true → Leaves told new old o
unfolding called
leaves told new old answer e k =
    let f = rw k at e in
    record {
      returns = ap (λ (p : Left). p.refusal) f;
      slices = λ i. ap (λ (p : Left). slice p i) f ∙ slice_left told new old i;
      numbers = ap (λ (p : Left). p.answer) f;
    }

-- Six numbers of four bytes.
long_told : (told : Told) → length (in_bytes (numbers_told told)) ≡ answer_length
long_told (Accepted outcome number entries taken) = length_in_bytes (0 ∷ 0 ∷ outcome ∷ number ∷ entries ∷ taken ∷ [])
long_told (RefusedAt refusal place) = length_in_bytes (refusal ∷ place ∷ 0 ∷ 0 ∷ 0 ∷ 0 ∷ [])

-- "a state, an answer and rows are lent byte slices, each number four bytes": the 24 bytes of the answer are what is told, at every
-- call; where a length refuses it they stay as they were.
pub c_answers : {o : Left} (kept : Bool) (told : Told) (new old : List (List ℕ)) (answer : List ℕ) → o ≡ called kept told new old answer → Answers kept told answer o.answer
unfolding called
c_answers true told new old answer e =
    let f = ap (λ (p : Left). p.answer) e in
    record { tells = λ h. f; long = λ h. ap length f ∙ long_told told; stays = λ h. absurd (true≢false h) }
c_answers false told new old answer e =
    record { tells = λ h. absurd (true≢false (sym h)); long = λ h. absurd (true≢false (sym h)); stays = λ h. ap (λ (p : Left). p.answer) e }

-- "Each call returns the number, 0 if accepted": 0 just where the lengths are kept and what is told is 0.
pub returns_zero : (kept : Bool) (told : Told) (new old : List (List ℕ)) (answer : List ℕ) →
    ((called kept told new old answer).refusal ≡ 0) ↔ ((kept ≡ true) × (refusal_told told ≡ 0))
unfolding called
returns_zero true told new old answer = (λ e. (refl, e), λ p. p.1)
returns_zero false told new old answer = (λ e. absurd (omega arith), λ p. absurd (true≢false (sym p.0)))

-- .. and of a number that has no meaning.
pub meant_zero : (meant : Bool) (told : Told) → (refusal_told (of_meaning meant told) ≡ 0) ↔ ((meant ≡ true) × (refusal_told told ≡ 0))
meant_zero true told = (λ e. (refl, e), λ p. p.1)
meant_zero false told = (λ e. absurd (omega arith), λ p. absurd (true≢false (sym p.0)))

-- "C's answer slice apart, nothing lent changes": a call that returns another number than 0 leaves every slice that it may write.
pub refused_leaves : {o : Left} (kept : Bool) (told : Told) (new old : List (List ℕ)) (answer : List ℕ) → o ≡ called kept told new old answer → (o.refusal ≡ 0 → ⊥) → o.lent ≡ old
unfolding called
refused_leaves true (Accepted outcome number entries taken) new old answer e n = absurd (n (ap (λ (p : Left). p.refusal) e))
refused_leaves true (RefusedAt refusal place) new old answer e n = ap (λ (p : Left). p.lent) e
refused_leaves false told new old answer e n = ap (λ (p : Left). p.lent) e

-- The k-th number of an answer slice.
pub seen : (o : Left) (ns : List ℕ) → o.answer ≡ in_bytes ns → (k : ℕ) → k < length ns → get_or ns k 0 < 256 ^ 4 → field o.answer k ≡ get_or ns k 0
seen o ns e k h s = ap (λ (x : List ℕ). field x k) e ∙ field_of_bytes ns k h s
