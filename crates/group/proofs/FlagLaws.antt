-- Laws of the flags: a flag and its meaning go both ways, b4 is the bit worth 8, and what a flag's bits tell of its kind.
-- Assumes nothing.
use mathlib.Core.Path.{◌≡◌, refl, sym, ap, ◌∙◌}
use mathlib.Core.Bool.{Bool, true, false, not, cond}
use mathlib.Core.List.{List, [], ◌∷◌}
use Prim.Native.Nat.{ℕ, ◌+◌, ◌-◌, ◌/◌, ◌%◌, ◌<◌}
use native.Mathlib.Omega.{arith}
use borrow.Author.Rules.{rules}
use borrow.Author.Tests.{eqb-true, eqb-false}
use lib.Bits.{bit_and, bit_or}
use lib.Dec.{T, eqb, ltb, eqb→eq}
use lib.ListN.{get_or}
use Rattle.group.specs.declared.Kind.{Kind}
use Rattle.group.specs.declared.Kind.TheVariants.{Total, Separator, Middle, Start, Last, Entire, Skip}
use Rattle.group.specs.Flags.{Meaning}
use Rattle.std.specs.Bool.{then_some}
use Rattle.std.specs.Prelude.{Some, None}
use Rattle.group.specs.Flags.{kinds, kind_number, flag_of, meaning_among, meaning_of, b4_of, with_b4}
use Rattle.group.specs.ForContracts.{Meant}
use Rattle.numbers.proofs.Computed.{below}

-- What holds of each kind with b4 clear and with b4 set, so that a law of the fourteen flags is one computation.
pub record Fourteen (P : Kind → Bool → Type 0) : Type 0 where
  pub total : (P Total false) × (P Total true)
  pub separator : (P Separator false) × (P Separator true)
  pub middle : (P Middle false) × (P Middle true)
  pub start : (P Start false) × (P Start true)
  pub last : (P Last false) × (P Last true)
  pub entire : (P Entire false) × (P Entire true)
  pub skip : (P Skip false) × (P Skip true)

either : (P : Bool → Type 0) → (P false) × (P true) → (w : Bool) → P w
either P h true = h.1
either P h false = h.0

pub each : (P : Kind → Bool → Type 0) → Fourteen P → (k : Kind) (w : Bool) → P k w
each P h Total = either (P Total) h.total
each P h Separator = either (P Separator) h.separator
each P h Middle = either (P Middle) h.middle
each P h Start = either (P Start) h.start
each P h Last = either (P Last) h.last
each P h Entire = either (P Entire) h.entire
each P h Skip = either (P Skip) h.skip

-- A kind's flag means that kind with that b4.
pub meaning_of_flag : (k : Kind) (w : Bool) → meaning_of (flag_of k w) ≡ Some (k, w)
unfolding meaning_of
meaning_of_flag = each (λ (k : Kind) (w : Bool). meaning_of (flag_of k w) ≡ Some (k, w)) (search rules)

-- .. and nothing else has that meaning.
-- The flag that has a meaning.
abbrev flag_in : Meaning → ℕ
flag_in None = 0
flag_in (Some (k, w)) = flag_of k w

among : (ks : List Kind) (flag : ℕ) (k : Kind) (w : Bool) → meaning_among ks flag ≡ Some (k, w) → flag ≡ flag_of k w
among [] flag k w e = let z : ◌≡◌ {A = ℕ} 0 1 = cc in absurd (omega arith)
among (j ∷ ks) flag k w e = by (among ks flag k w) (eqb flag (flag_of j false)) refl (eqb flag (flag_of j true)) refl e
  where
    by : (meaning_among ks flag ≡ Some (k, w) → flag ≡ flag_of k w) → (a : Bool) → eqb flag (flag_of j false) ≡ a → (b : Bool) → eqb flag (flag_of j true) ≡ b
        → cond a (Some (j, false)) (cond b (Some (j, true)) (meaning_among ks flag)) ≡ Some (k, w) → flag ≡ flag_of k w
    by others true x b y e = eqb-true flag (flag_of j false) x ∙ ap flag_in e
    by others false x true y e = eqb-true flag (flag_of j true) y ∙ ap flag_in e
    by others false x false y e = others e

pub flag_of_meaning : (flag : ℕ) (k : Kind) (w : Bool) → meaning_of flag ≡ Some (k, w) → flag ≡ flag_of k w
unfolding meaning_of
flag_of_meaning flag k w e = among kinds flag k w e

-- A flag is a byte.
pub flag_small : (k : Kind) (w : Bool) → flag_of k w < 256
flag_small = each (λ (k : Kind) (w : Bool). flag_of k w < 256) (search rules)

-- b4 of a kind's flag, and so of a flag with a meaning, is the b4 of its meaning.
pub b4_of_flag : (k : Kind) (w : Bool) → b4_of (flag_of k w) ≡ w
b4_of_flag = each (λ (k : Kind) (w : Bool). b4_of (flag_of k w) ≡ w) (search rules)

pub b4_of_meaning : (flag : ℕ) (k : Kind) (w : Bool) → meaning_of flag ≡ Some (k, w) → b4_of flag ≡ w
b4_of_meaning flag k w e = ap b4_of (flag_of_meaning flag k w e) ∙ b4_of_flag k w

-- A kind's flag with b4 set is its flag for b4 = 1.
pub flag_with_b4 : (k : Kind) (w : Bool) → with_b4 (flag_of k w) ≡ flag_of k true
flag_with_b4 = each (λ (k : Kind) (w : Bool). with_b4 (flag_of k w) ≡ flag_of k true) (search rules)

-- The mask takes b4 out of a byte, and sets it.
abbrev agree : Bool → Bool → Bool
agree true b = b
agree false b = not b

same : (a b : Bool) → T (agree a b) → a ≡ b
same true true t = refl
same true false t = absurd t
same false true t = absurd t
same false false t = refl

masked : ℕ → Bool
masked flag = agree (not (eqb (bit_and flag 8) 0)) (b4_of flag)

pub b4_mask : (flag : ℕ) → flag < 256 → not (eqb (bit_and flag 8) 0) ≡ b4_of flag
unfolding masked
b4_mask flag h = same (not (eqb (bit_and flag 8) 0)) (b4_of flag) (below masked 256 tt flag h)

raised : ℕ → Bool
raised flag = eqb (bit_or flag 8) (with_b4 flag)

pub b4_raised : (flag : ℕ) → flag < 256 → bit_or flag 8 ≡ with_b4 flag
unfolding raised
b4_raised flag h = eqb→eq (bit_or flag 8) (with_b4 flag) (below raised 256 tt flag h)

-- A kind is told by its number.
by_number : (k : Kind) → get_or (Skip ∷ kinds) (kind_number k) Skip ≡ k
by_number k = each (λ (k : Kind) (w : Bool). get_or (Skip ∷ kinds) (kind_number k) Skip ≡ k) (search rules) k false

pub kind_is_lem : (j k : Kind) → kind_number j ≡ kind_number k → j ≡ k
kind_is_lem j k e = sym (by_number j) ∙ ap (λ (n : ℕ). get_or (Skip ∷ kinds) n Skip) e ∙ by_number k

-- A flag has a meaning or has none.
pub meant_or : {P : Type 0} (flag : ℕ) → (meaning_of flag ≡ None → P) → (Meant flag → P) → P
meant_or {P} flag none some = by (meaning_of flag) refl
  where
    by : (m : Meaning) → meaning_of flag ≡ m → P
    by None e = none e
    by (Some (k, w)) e = some (record { kind = k; warned = w; is = e })

-- What the bits of a flag tell, computed at each of the fourteen: the number of its kind.
abbrev pub number_by_bits : ℕ → ℕ
number_by_bits flag = cond (ltb flag 16) 1 (flag / 16 - 1) + flag / 2 % 2

numbered : (k : Kind) (w : Bool) → number_by_bits (flag_of k w) ≡ kind_number k
numbered = each (λ (k : Kind) (w : Bool). number_by_bits (flag_of k w) ≡ kind_number k) (search rules)

pub number_by_bits_lem : (flag : ℕ) (m : Meant flag) → number_by_bits flag ≡ kind_number m.kind
number_by_bits_lem flag m = ap number_by_bits (flag_of_meaning flag m.kind m.warned m.is) ∙ numbered m.kind m.warned

-- Where some kind has a flag, the flag of that kind with this b4 is this one ..
pub flag_again : (flag : ℕ) (k : Kind) (m : Meant flag) → k ≡ m.kind → flag_of k (b4_of flag) ≡ flag
flag_again flag k m e = rw (e, b4_of_meaning flag m.kind m.warned m.is, ← flag_of_meaning flag m.kind m.warned m.is)

-- .. and where that is so of a kind, it is what the flag means.
pub meaning_again : (flag : ℕ) (k : Kind) (w : Bool) → flag_of k w ≡ flag → Some (k, w) ≡ meaning_of flag
meaning_again flag k w e = sym (meaning_of_flag k w) ∙ ap meaning_of e

-- A number that no kind has is that of no flag's meaning ..
pub means_none : {n : ℕ} (flag : ℕ) → ((m : Meant flag) → n ≡ kind_number m.kind) → ((k : Kind) → n ≡ kind_number k → ⊥) → None ≡ meaning_of flag
means_none flag number no_kind = meant_or flag (λ e. sym e) (λ m. absurd (no_kind m.kind (number m)))

-- .. and of the kind that has it, the flag tells whether it is meant.
pub means_kind : {n : ℕ} (flag : ℕ) (k : Kind) → ((m : Meant flag) → n ≡ kind_number m.kind) → n ≡ kind_number k
    → then_some (eqb (flag_of k (b4_of flag)) flag) (k, b4_of flag) ≡ meaning_of flag
means_kind {n} flag k number e = by (eqb (flag_of k (b4_of flag)) flag) refl
  where
    by : (b : Bool) → eqb (flag_of k (b4_of flag)) flag ≡ b → then_some b (k, b4_of flag) ≡ meaning_of flag
    by true h = meaning_again flag k (b4_of flag) (eqb-true (flag_of k (b4_of flag)) flag h)
    by false h = meant_or flag (λ no. sym no) (λ m.
        let same = flag_again flag k m (kind_is_lem k m.kind (sym e ∙ number m)) in
        absurd (eqb-false (flag_of k (b4_of flag)) flag h same))
