-- Of each rule that an entry breaks: it is broken by the numbers that are told, and what they allow, and no more, would have kept it.
-- Assumes nothing.
use Prim.Native.Nat.{ℕ, ◌+◌, ◌-◌, ◌≤◌}
use native.Mathlib.Omega.{arith}
use mathlib.Core.Path.{◌≡◌, refl, sym, ap, ◌∙◌}
use mathlib.Core.List.{List, [], ◌∷◌, map}
use mathlib.Core.Bool.{Bool, true, false, cond, not, ◌&&◌, true≢false, false≢true}
use lib.Dec.{eqb, leb}
use lib.ListN.{get_or}
use borrow.Author.Tests.{leb-true, leb-false, eqb-true, eqb-false, le-leb, eq-eqb, not-true, not-false}
use Rattle.numbers.specs.Numbers.{between}
use Rattle.numbers.proofs.Tests.{within, is_within}
use Rattle.group.specs.declared.Entry.{Entry}
use Rattle.group.specs.declared.Kind.{Kind}
use Rattle.group.specs.declared.Kind.TheVariants.{Total, Separator, Middle, Start, Last, Entire, Skip}
use Rattle.group.specs.Flags.{Meaning}
use Rattle.std.specs.Prelude.{Some, None}
use Rattle.group.specs.Sizes.{longest_record, most_owing}
use Rattle.group.specs.Flags.{kind_number, kinds, meaning_of}
use Rattle.group.proofs.FlagLaws.{b4_of_meaning}
use Rattle.counts.specs.Counts.{is_among, holds_data, too_long}
use Rattle.entry.specs.declared.Stand.{Stand}
use Rattle.entry.specs.declared.Stand.TheVariants.{Free, AfterPart, Inside, AfterLast, Owed}
use Rattle.entry.specs.Rules.{may_follow, is_skip, b4_kept, follow_kept, reached_after, may_owe}
use Rattle.reasons.specs.declared.Reason.{Reason}
use Rattle.reasons.specs.Rules.{Rule, Stop, keeps, kind_keeps}
use Rattle.reasons.specs.Rules.Rule.{flag_known, b4_stays, kind_follows, part_not_empty, separator_value, record_length, total_sum, data_within, skip_count, total_in_time}
use Rattle.reasons.specs.Reasons.{reason, b4_found, leaves, permitted, reason_at}
use Rattle.reasons.specs.Truth.{allowed, is_permitted, found_at, BrokenBy, AllowedBy}

-- Two tests that follow from each other are the same; and a number that is not between two.
pub same_test : (a b : Bool) → (a ≡ true → b ≡ true) → (b ≡ true → a ≡ true) → a ≡ b
same_test true b f g = sym (f refl)
same_test false true f g = absurd (false≢true (g refl))
same_test false false f g = refl

pub outside : (low n high : ℕ) → (low ≤ n → n ≤ high → ⊥) → between low n high ≡ false
outside low n high h = by (leb low n) refl (leb n high) refl
  where
    by : (a : Bool) → leb low n ≡ a → (b : Bool) → leb n high ≡ b → (a && b) ≡ false
    by true x true y = absurd (h (leb-true low n x) (leb-true n high y))
    by true x false y = refl
    by false x b y = refl

-- A rule that is asked of some kinds alone: where it is broken, kept, and kept by what its own test keeps.
broken_of : (a b : Bool) → cond a b true ≡ false → (a ≡ true) × (b ≡ false)
broken_of true b e = (refl, e)
broken_of false b e = absurd (true≢false e)

kept_of : (a b : Bool) → a ≡ true → cond a b true ≡ true → b ≡ true
kept_of true b x e = e
kept_of false b x e = absurd (false≢true x)

keeps_of : (a b : Bool) → b ≡ true → cond a b true ≡ true
keeps_of true b e = e
keeps_of false b e = refl

choice : (a b : Bool) → not (a && not b) ≡ cond a b true
choice true true = refl
choice true false = refl
choice false b = refl

-- 9: b4 was set before.
b4_lost : (before warned : Bool) → b4_kept before warned ≡ false → (before ≡ true) × (warned ≡ false)
b4_lost true warned e = (refl, e)
b4_lost false warned e = absurd (true≢false e)

b4_is : (b4 : Bool) → between 1 (b4_found b4) 1 ≡ b4
b4_is true = refl
b4_is false = refl

-- 10: a kind is permitted just where it may stand.
row : Stand → Bool → List Bool
row stand last = map (λ (k : Kind). follow_kept stand k last) kinds

bits : Stand → Bool → List Bool
bits stand last = map (λ (k : Kind). is_permitted (reason 0 0 0 (permitted stand last)) (kind_number k)) kinds

bits_are : (stand : Stand) (last : Bool) → bits stand last ≡ row stand last
unfolding row bits permitted may_follow
bits_are Free true = refl
bits_are Free false = refl
bits_are AfterPart true = refl
bits_are AfterPart false = refl
bits_are Inside true = refl
bits_are Inside false = refl
bits_are AfterLast true = refl
bits_are AfterLast false = refl
bits_are Owed true = refl
bits_are Owed false = refl

permitted_is : (stand : Stand) (last : Bool) (found : ℕ) (k : Kind) → is_permitted (reason found 0 0 (permitted stand last)) (kind_number k) ≡ follow_kept stand k last
unfolding row bits
permitted_is stand last found Total = ap (λ (l : List Bool). get_or l 0 false) (bits_are stand last)
permitted_is stand last found Separator = ap (λ (l : List Bool). get_or l 1 false) (bits_are stand last)
permitted_is stand last found Middle = ap (λ (l : List Bool). get_or l 2 false) (bits_are stand last)
permitted_is stand last found Start = ap (λ (l : List Bool). get_or l 3 false) (bits_are stand last)
permitted_is stand last found Last = ap (λ (l : List Bool). get_or l 4 false) (bits_are stand last)
permitted_is stand last found Entire = ap (λ (l : List Bool). get_or l 5 false) (bits_are stand last)
permitted_is stand last found Skip = ap (λ (l : List Bool). get_or l 6 false) (bits_are stand last)

-- 21: what the sum leaves is what is not too long.
fits : (k : Kind) (sum x : ℕ) → 1 ≤ x → x ≤ leaves k sum → too_long k sum x ≡ false
fits Total sum x a b = refl
fits Separator sum x a b = refl
fits Middle sum x a b = rw (le-leb (sum + x) (longest_record - 1) (omega arith))
fits Start sum x a b = rw (le-leb x (longest_record - 1) b)
fits Last sum x a b = rw (le-leb (sum + x) longest_record (omega arith))
fits Entire sum x a b = rw (le-leb x longest_record b)
fits Skip sum x a b = refl

-- .. for a kind that can be too long.
left_it : (k : Kind) (sum count x : ℕ) → too_long k sum count ≡ true → too_long k sum x ≡ false → x ≤ leaves k sum
left_it Total sum count x e f = absurd (false≢true e)
left_it Separator sum count x e f = absurd (false≢true e)
left_it Middle sum count x e f = let h = leb-true (sum + x) (longest_record - 1) (not-false _ f) in omega arith
left_it Start sum count x e f = leb-true x (longest_record - 1) (not-false _ f)
left_it Last sum count x e f = let h = leb-true (sum + x) longest_record (not-false _ f) in omega arith
left_it Entire sum count x e f = leb-true x longest_record (not-false _ f)
left_it Skip sum count x e f = absurd (false≢true e)

-- 12: how far an entry reaches at most.
reaches : (a : Bool) (reached count : ℕ) → cond a (reached + count) reached ≤ reached + count
reaches true reached count = omega arith
reaches false reached count = omega arith

reaches_all : (a : Bool) (reached count x limit : ℕ) → leb (cond a (reached + count) reached) limit ≡ false → leb (cond a (reached + x) reached) limit ≡ true → reached + x ≤ limit
reaches_all true reached count x limit e f = leb-true (reached + x) limit f
reaches_all false reached count x limit e f = absurd (true≢false (sym f ∙ e))

-- 23: a total is owed too early only behind a last.
early : (stand : Stand) (count x : ℕ) → may_owe stand count ≡ false → may_owe stand x ≡ leb x most_owing
early Free count x e = absurd (true≢false e)
early AfterPart count x e = absurd (true≢false e)
early Inside count x e = absurd (true≢false e)
early AfterLast count x e = refl
early Owed count x e = absurd (true≢false e)

-- The same of the numbers of a reason.
beyond : (r : Reason) → (r.least ≤ r.found → r.found ≤ r.greatest → ⊥) → allowed r r.found ≡ false
beyond r h = outside r.least r.found r.greatest h

inside_of : (r : Reason) (x : ℕ) → allowed r x ≡ true → (r.least ≤ x) × (x ≤ r.greatest)
inside_of r x i = within r.least x r.greatest i

-- What is told as found is what the entry has.
pub found_there : (rule : Rule) (at : Stop) (e : Entry) → (reason_at rule at e).found ≡ found_at rule at e
found_there flag_known at e = refl
found_there b4_stays at e = refl
found_there kind_follows at e = refl
found_there part_not_empty at e = refl
found_there separator_value at e = refl
found_there record_length at e = refl
found_there total_sum at e = refl
found_there data_within at e = refl
found_there skip_count at e = refl
found_there total_in_time at e = refl

-- "the rule is broken there by those numbers"
module _ (at : Stop) (e : Entry) where
  broken_known : (rule : Rule) (k : Kind) (w : Bool) → meaning_of e.flag ≡ Some (k, w) → kind_keeps rule at k w e.count ≡ false → BrokenBy rule (reason_at rule at e)
  broken_known flag_known k w m h = absurd (true≢false h)
  broken_known b4_stays k w m h = rw (b4_of_meaning e.flag k w m, (b4_lost at.here.warned w h).1)
  broken_known kind_follows k w m h = rw m (permitted_is at.here.stand at.last (kind_number k) k ∙ h)
  broken_known part_not_empty k w m h =
      let f = leb-false 1 e.count (broken_of (holds_data k) _ (sym (choice (holds_data k) _) ∙ h)).1 in
      beyond (reason_at part_not_empty at e) (λ a b. omega arith)
  broken_known separator_value k w m h =
      let one = is_among k (Separator ∷ []) in
      let f = leb-false e.count 1 (broken_of one _ (sym (choice one (leb e.count 1)) ∙ h)).1 in
      beyond (reason_at separator_value at e) (λ a b. omega arith)
  broken_known record_length k w m h =
      rw m (outside 1 e.count (leaves k at.here.sum) (λ a b. true≢false (sym (not-false _ h) ∙ fits k at.here.sum e.count a b)))
  broken_known total_sum k w m h =
      let total = is_among k (Total ∷ []) in
      let f = eqb-false e.count at.here.sum (broken_of total _ (sym (choice total (eqb e.count at.here.sum)) ∙ h)).1 in
      beyond (reason_at total_sum at e) (λ a b. f (omega arith))
  broken_known data_within k w m h =
      let f = leb-false (reached_after k at.here.reached e.count) at.limit h in
      let g = reaches (holds_data k) at.here.reached e.count in
      beyond (reason_at data_within at e) (λ a b. omega arith)
  broken_known skip_count k w m h =
      let f = eqb-false e.count (at.size - at.here.reached) (broken_of (is_skip k) _ h).1 in
      beyond (reason_at skip_count at e) (λ a b. f (omega arith))
  broken_known total_in_time k w m h =
      let d = (broken_of (is_skip k) _ h).1 in
      let f = leb-false e.count most_owing (sym (early at.here.stand e.count e.count d) ∙ d) in
      beyond (reason_at total_in_time at e) (λ a b. omega arith)

  pub broken_by : (rule : Rule) → keeps rule at (meaning_of e.flag) e.count ≡ false → BrokenBy rule (reason_at rule at e)
  broken_by rule h = by (meaning_of e.flag) refl h
    where
      unknown : (r : Rule) → meaning_of e.flag ≡ None → keeps r at None e.count ≡ false → BrokenBy r (reason_at r at e)
      unknown flag_known m k = m
      unknown b4_stays m k = absurd (true≢false k)
      unknown kind_follows m k = absurd (true≢false k)
      unknown part_not_empty m k = absurd (true≢false k)
      unknown separator_value m k = absurd (true≢false k)
      unknown record_length m k = absurd (true≢false k)
      unknown total_sum m k = absurd (true≢false k)
      unknown data_within m k = absurd (true≢false k)
      unknown skip_count m k = absurd (true≢false k)
      unknown total_in_time m k = absurd (true≢false k)

      by : (m : Meaning) → meaning_of e.flag ≡ m → keeps rule at m e.count ≡ false → BrokenBy rule (reason_at rule at e)
      by None m k = unknown rule m k
      by (Some (k, w)) m f = broken_known rule k w m f

  -- What the numbers allow keeps the rule, and no other does.
  allowed_known : (rule : Rule) (k : Kind) (w : Bool) → meaning_of e.flag ≡ Some (k, w) → kind_keeps rule at k w e.count ≡ false → AllowedBy rule at (Some (k, w)) (reason_at rule at e)
  allowed_known flag_known k w m h = tt
  allowed_known b4_stays k w m h = λ b4. b4_is b4 ∙ rw (b4_lost at.here.warned w h).0
  allowed_known kind_follows k w m h = λ j. permitted_is at.here.stand at.last 0 j
  allowed_known part_not_empty k w m h =
      record {
        inside = λ x i. choice (holds_data k) (leb 1 x) ∙ keeps_of (holds_data k) (leb 1 x) (le-leb 1 x (inside_of (reason_at part_not_empty at e) x i).0);
        no_other = λ x a b i. is_within a b;
      }
  allowed_known separator_value k w m h =
      let one = is_among k (Separator ∷ []) in
      record {
        inside = λ x i. let b = inside_of (reason_at separator_value at e) x i in choice one (leb x 1) ∙ keeps_of one (leb x 1) (le-leb x 1 (omega arith));
        no_other = λ x a b i. is_within {low = 0} {n = x} {high = 1} (omega arith) (leb-true x 1 (kept_of one _ (broken_of one _ (sym (choice one (leb e.count 1)) ∙ h)).0 (sym (choice one (leb x 1)) ∙ i)));
      }
  allowed_known record_length k w m h =
      record {
        inside = λ x i. let b = within 1 x (leaves k at.here.sum) (rw m at i) in rw (fits k at.here.sum x b.0 b.1);
        no_other = λ x a b i. rw m (is_within a (left_it k at.here.sum e.count x (not-false _ h) (not-true _ i)));
      }
  allowed_known total_sum k w m h =
      let total = is_among k (Total ∷ []) in
      let sum = at.here.sum in
      record {
        inside = λ x i. let b = inside_of (reason_at total_sum at e) x i in choice total (eqb x sum) ∙ keeps_of total (eqb x sum) (eq-eqb x sum (omega arith));
        no_other = λ x a b i. let j = eqb-true x sum (kept_of total _ (broken_of total _ (sym (choice total (eqb e.count sum)) ∙ h)).0 (sym (choice total (eqb x sum)) ∙ i)) in is_within {low = sum} {n = x} {high = sum} (omega arith) (omega arith);
      }
  allowed_known data_within k w m h =
      record {
        inside = λ x i.
            let b = inside_of (reason_at data_within at e) (at.here.reached + x) i in
            let g = reaches (holds_data k) at.here.reached x in
            le-leb (reached_after k at.here.reached x) at.limit (omega arith);
        no_other = λ x a b i. is_within {low = 0} {n = at.here.reached + x} {high = at.limit} (omega arith) (reaches_all (holds_data k) at.here.reached e.count x at.limit h i);
      }
  allowed_known skip_count k w m h =
      let rest = at.size - at.here.reached in
      record {
        inside = λ x i. let b = inside_of (reason_at skip_count at e) x i in keeps_of (is_skip k) (eqb x rest) (eq-eqb x rest (omega arith));
        no_other = λ x a b i. let j = eqb-true x rest (kept_of (is_skip k) _ (broken_of (is_skip k) _ h).0 i) in is_within {low = rest} {n = x} {high = rest} (omega arith) (omega arith);
      }
  allowed_known total_in_time k w m h =
      let d = broken_of (is_skip k) _ h in
      record {
        inside = λ x i. keeps_of (is_skip k) _ (early at.here.stand e.count x d.1 ∙ le-leb x most_owing (inside_of (reason_at total_in_time at e) x i).1);
        no_other = λ x a b i. is_within {low = 0} {n = x} {high = most_owing} (omega arith) (leb-true x most_owing (sym (early at.here.stand e.count x d.1) ∙ kept_of (is_skip k) _ d.0 i));
      }

  pub allowed_by : (rule : Rule) → keeps rule at (meaning_of e.flag) e.count ≡ false → AllowedBy rule at (meaning_of e.flag) (reason_at rule at e)
  allowed_by rule h = by (meaning_of e.flag) refl h
    where
      unknown : (r : Rule) → keeps r at None e.count ≡ false → AllowedBy r at None (reason_at r at e)
      unknown flag_known k = tt
      unknown b4_stays k = absurd (true≢false k)
      unknown kind_follows k = absurd (true≢false k)
      unknown part_not_empty k = absurd (true≢false k)
      unknown separator_value k = absurd (true≢false k)
      unknown record_length k = absurd (true≢false k)
      unknown total_sum k = absurd (true≢false k)
      unknown data_within k = absurd (true≢false k)
      unknown skip_count k = absurd (true≢false k)
      unknown total_in_time k = absurd (true≢false k)

      by : (m : Meaning) → meaning_of e.flag ≡ m → keeps rule at m e.count ≡ false → AllowedBy rule at m (reason_at rule at e)
      by None m k = unknown rule k
      by (Some (k, w)) m f = allowed_known rule k w m f
