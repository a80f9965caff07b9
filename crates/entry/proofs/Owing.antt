-- Change request 2026-06: 23 is told of a group of two entries, last then skip, whose skip count is 44 or more, at entry 2, and of no
-- other; no such group is accepted, and one that keeps every other rule is told 23.
-- Assumes nothing.
use mathlib.Core.Path.{◌≡◌, refl, sym, ap, ◌∙◌}
use mathlib.Core.Bool.{Bool, true, false, cond, not, false≢true}
use mathlib.Core.List.{List, [], ◌∷◌}
use Prim.Native.Nat.{ℕ, suc}
use native.Mathlib.Omega.{arith}
use borrow.Author.Tests.{eqb-true, leb-true}
use lib.Dec.{eqb}
use Rattle.group.specs.declared.Entry.{Entry}
use Rattle.group.specs.declared.Kind.{Kind}
use Rattle.group.specs.declared.Kind.TheVariants.{Total, Separator, Middle, Start, Last, Entire, Skip}
use Rattle.group.specs.Flags.{Meaning}
use Rattle.std.specs.Prelude.{Some, None}
use Rattle.group.specs.declared.Phase.{Phase}
use Rattle.group.specs.declared.Phase.TheVariants as phase
use Rattle.group.specs.Sizes.{most_owing}
use Rattle.group.specs.Flags.{meaning_of}
use Rattle.entry.specs.declared.Cursor.{Cursor}
use Rattle.entry.specs.ScanEnd.{ScanEnd}
use Rattle.entry.specs.ScanEnd.{Reached, Refused}
use Rattle.entry.specs.declared.Stand.{Stand}
use Rattle.entry.specs.declared.Stand.TheVariants.{Free, AfterPart, Inside, AfterLast, Owed}
use Rattle.entry.specs.Rules.{may_follow, is_skip, stand_at, stand_after, entry_fault}
use Rattle.entry.specs.Scan.{after, is_last, onward, scan}
use Rattle.entry.specs.Owing.{OwedEarly, last_then_skip, told_of, judged, judged_shown, judged_expected}
use Rattle.entry.proofs.Faults.{kept, unknown_fault}
use Rattle.numbers.proofs.Tests.{both}
use Rattle.entry.proofs.Scans.{went_on}
use Rattle.entry.proofs.EarlyAt.{EarlyAt, early_at}
use Rattle.entry.proofs.Reasons.{scan_as_before}
use Rattle.entry.specs.Reasons.{scan_before, Became, told_anew, owed_early_lem}

-- Both ends of the freedom, at both sizes.
pub judged_worked : judged_shown ≡ judged_expected
unfolding judged scan entry_fault may_follow meaning_of
judged_worked = refl

-- No such group is accepted: not from any cursor.
pub early_refused : (size limit : ℕ) (es : List Entry) (place : ℕ) (c d : Cursor) → OwedEarly es → scan size limit es place c ≡ Reached d → ⊥
unfolding scan
early_refused size limit _ place c d (last_then_skip {first} {second} b4 b4Behind l s h) e =
    let next = after c (meaning_of first.flag) first.count in
    let rest = (went_on (entry_fault size limit false c (meaning_of first.flag) first.count) place c d _ e).1 in
    let none = (went_on (entry_fault size limit true next (meaning_of second.flag) second.count) (suc place) next d _ rest).0 in
    let k = kept size limit true (after c (Some (Last, b4)) first.count) Skip b4Behind second.count (rw (l, s) at none) in
    omega (arith, leb-true second.count most_owing k.owed)

-- A scan that ends with 23 is told it at this entry, or passes it.
data Ends23 (fault place : ℕ) (rest : ScanEnd) (at : ℕ) (d : Cursor) : Type 0 where
  here : fault ≡ 23 → place ≡ at → Ends23 fault place rest at d
  later : fault ≡ 0 → rest ≡ Refused 23 at d → Ends23 fault place rest at d

ends_23 : (fault place : ℕ) (c : Cursor) (rest : ScanEnd) (at : ℕ) (d : Cursor) → onward fault place c rest ≡ Refused 23 at d → Ends23 fault place rest at d
ends_23 fault place c rest at d e = by (eqb fault 0) refl e
  where
    by : (t : Bool) → eqb fault 0 ≡ t → cond t rest (Refused fault place c) ≡ Refused 23 at d → Ends23 fault place rest at d
    by true x h = later (eqb-true fault 0 x) h
    by false x h =
        let f : fault ≡ 23 = cc in
        let g : place ≡ at = cc in
        here f g

-- Between records, after a part and where a total is owed: from there no last is met in this group.
data Past : Stand → Type 0 where
  free : Past Free
  part : Past AfterPart
  owed : Past Owed

past_last : {stand : Stand} → Past stand → stand ≡ AfterLast → ⊥
past_last free e = let z : ◌≡◌ {A = ℕ} 0 1 = cc in absurd (omega arith)
past_last part e = let z : ◌≡◌ {A = ℕ} 0 1 = cc in absurd (omega arith)
past_last owed e = let z : ◌≡◌ {A = ℕ} 0 1 = cc in absurd (omega arith)

stays_past : {stand : Stand} (k : Kind) → Past stand → may_follow stand k ≡ true → Past (stand_after stand k)
unfolding may_follow
stays_past Total p e = free
stays_past Separator p e = free
stays_past Middle p e = part
stays_past Start p e = part
stays_past Last free e = absurd (false≢true e)
stays_past Last part e = absurd (false≢true e)
stays_past Last owed e = absurd (false≢true e)
stays_past Entire p e = free
stays_past Skip p e = p

-- What an entry without a fault is.
record Passed (stand : Stand) (m : Meaning) (last : Bool) : Type 0 where
  kind : Kind
  b4 : Bool
  means : m ≡ Some (kind, b4)
  follows : may_follow stand kind ≡ true
  skips : cond last (is_skip kind) (not (is_skip kind)) ≡ true

passes : (size limit : ℕ) (last : Bool) (c : Cursor) (m : Meaning) (count : ℕ) → entry_fault size limit last c m count ≡ 0 → Passed c.stand m last
passes size limit last c None count e = absurd (unknown_fault size limit last c count e)
passes size limit last c (Some (k, w)) count e =
    let f = both (may_follow c.stand k) (cond last (is_skip k) (not (is_skip k))) (kept size limit last c k w count e).follow in
    record { kind = k; b4 = w; means = refl; follows = f.0; skips = f.1 }

stand_is : (c : Cursor) (m : Meaning) (count : ℕ) (k : Kind) (w : Bool) → m ≡ Some (k, w) → (after c m count).stand ≡ stand_after c.stand k
stand_is c m count k w e = rw e

none_told : (size limit place : ℕ) (c : Cursor) (at : ℕ) (d : Cursor) → scan size limit [] place c ≡ Refused 23 at d → ⊥
unfolding scan
none_told size limit place c at d e = let z : ◌≡◌ {A = ℕ} 0 1 = cc in absurd (omega arith)

-- One entry of a table whose scan ends with 23: told here, or passed.
module _ (size limit : ℕ) (x : Entry) (es : List Entry) (place : ℕ) (c : Cursor) (at : ℕ) (d : Cursor) where
  abbrev next : Cursor
  next = after c (meaning_of x.flag) x.count

  data Step : Type 0 where
    told : EarlyAt (is_last es) c.stand (meaning_of x.flag) x.count → place ≡ at → Step
    passed : (p : Passed c.stand (meaning_of x.flag) (is_last es)) → next.stand ≡ stand_after c.stand p.kind → scan size limit es (suc place) next ≡ Refused 23 at d → Step

  step : scan size limit (x ∷ es) place c ≡ Refused 23 at d → Step
  unfolding scan
  step e = by (ends_23 fault place c (scan size limit es (suc place) next) at d e)
    where
      fault : ℕ
      fault = entry_fault size limit (is_last es) c (meaning_of x.flag) x.count

      by : Ends23 fault place (scan size limit es (suc place) next) at d → Step
      by (here f q) = told (early_at size limit (is_last es) c (meaning_of x.flag) x.count f) q
      by (later f r) = let p = passes size limit (is_last es) c (meaning_of x.flag) x.count f in passed p (stand_is c (meaning_of x.flag) x.count p.kind p.b4 p.means) r

never_early : (size limit : ℕ) (es : List Entry) (place : ℕ) (c : Cursor) (at : ℕ) (d : Cursor) → Past c.stand → scan size limit es place c ≡ Refused 23 at d → ⊥
never_early size limit [] place c at d p e = none_told size limit place c at d e
never_early size limit (x ∷ es) place c at d p e =
    by (step size limit x es place c at d e) (λ q r. never_early size limit es (suc place) (after c (meaning_of x.flag) x.count) at d q r)
  where
    by : Step size limit x es place c at d → (Past (after c (meaning_of x.flag) x.count).stand → scan size limit es (suc place) (after c (meaning_of x.flag) x.count) ≡ Refused 23 at d → ⊥) → ⊥
    by (told t q) more = past_last p t.stands
    by (passed k s r) more = more (rw s (stays_past k.kind p k.follows)) r

-- Behind a last: the skip that is the last entry, and nothing else.
second : (size limit : ℕ) (x : Entry) (w : Bool) (es : List Entry) (place : ℕ) (c : Cursor) (at : ℕ) (d : Cursor) →
    meaning_of x.flag ≡ Some (Last, w) → c.stand ≡ AfterLast → scan size limit es place c ≡ Refused 23 at d → OwedEarly (x ∷ es) × (place ≡ at)
unfolding may_follow
second size limit x w [] place c at d l s e = absurd (none_told size limit place c at d e)
second size limit x w (y ∷ []) place c at d l s e = by (step size limit y [] place c at d e)
  where
    by : Step size limit y [] place c at d → OwedEarly (x ∷ y ∷ []) × (place ≡ at)
    by (told t q) = (last_then_skip w t.b4 l t.skips t.early, q)
    by (passed k m r) = absurd (none_told size limit (suc place) (after c (meaning_of y.flag) y.count) at d r)
second size limit x w (y ∷ z ∷ es) place c at d l s e = by (step size limit y (z ∷ es) place c at d e)
  where
    free_on : (k : Kind) → may_follow AfterLast k ≡ true → not (is_skip k) ≡ true → Past (stand_after AfterLast k)
    free_on Total f n = free
    free_on Separator f n = free
    free_on Middle f n = part
    free_on Start f n = part
    free_on Last f n = absurd (false≢true f)
    free_on Entire f n = free
    free_on Skip f n = absurd (false≢true n)

    by : Step size limit y (z ∷ es) place c at d → OwedEarly (x ∷ y ∷ z ∷ es) × (place ≡ at)
    by (told t q) = absurd (false≢true t.ends)
    by (passed k m r) =
        absurd (never_early size limit (z ∷ es) (suc place) (after c (meaning_of y.flag) y.count) at d (rw (m, s) (free_on k.kind (rw s at k.follows) k.skips)) r)

-- "23 total owed too early, at entry 2": a scan from a group's beginning tells 23 of those groups alone, and there.
pub early_only : (size limit : ℕ) (es : List Entry) (place : ℕ) (c : Cursor) (p : Phase) (at : ℕ) (d : Cursor) →
    c.stand ≡ stand_at p → scan size limit es place c ≡ Refused 23 at d → OwedEarly es × (suc place ≡ at)
unfolding may_follow
early_only size limit es place c phase.Free at d s e = absurd (never_early size limit es place c at d (rw s free) e)
early_only size limit es place c phase.Owed at d s e = absurd (never_early size limit es place c at d (rw s owed) e)
early_only size limit [] place c phase.Inside at d s e = absurd (none_told size limit place c at d e)
early_only size limit (x ∷ es) place c phase.Inside at d s e = by (step size limit x es place c at d e)
  where
    inside_not : Inside ≡ AfterLast → ⊥
    inside_not h = let z : ◌≡◌ {A = ℕ} 0 1 = cc in absurd (omega arith)

    on : (k : Kind) (w : Bool) → meaning_of x.flag ≡ Some (k, w) → may_follow Inside k ≡ true → (after c (meaning_of x.flag) x.count).stand ≡ stand_after Inside k
        → scan size limit es (suc place) (after c (meaning_of x.flag) x.count) ≡ Refused 23 at d → OwedEarly (x ∷ es) × (suc place ≡ at)
    on Total w m f n r = absurd (false≢true f)
    on Separator w m f n r = absurd (false≢true f)
    on Middle w m f n r = absurd (never_early size limit es (suc place) (after c (meaning_of x.flag) x.count) at d (rw n part) r)
    on Start w m f n r = absurd (false≢true f)
    on Last w m f n r = second size limit x w es (suc place) (after c (meaning_of x.flag) x.count) at d m n r
    on Entire w m f n r = absurd (false≢true f)
    on Skip w m f n r = absurd (false≢true f)

    by : Step size limit x es place c at d → OwedEarly (x ∷ es) × (suc place ≡ at)
    by (told t q) = absurd (inside_not (sym s ∙ t.stands))
    by (passed k n r) = on k.kind k.b4 k.means (rw s at k.follows) (n ∙ ap (λ (stand : Stand). stand_after stand k.kind) s) r

-- Such a group that keeps every rule of before is told 23, at entry 2.
pub early_told : (size limit : ℕ) (es : List Entry) (place : ℕ) (c d : Cursor) (p : Phase) → c.stand ≡ stand_at p → OwedEarly es →
    scan_before size limit es place c ≡ Reached d → told_of (scan size limit es place c) ≡ (23, suc place)
early_told size limit es place c d p s o e = by (scan size limit es place c) refl (scan_as_before size limit es place c)
  where
    by : (now : ScanEnd) → scan size limit es place c ≡ now → Became (scan_before size limit es place c) now → told_of now ≡ (23, suc place)
    by (Reached f) x b = absurd (early_refused size limit es place c f o x)
    by (Refused fault at f) x (told_anew h) = let z : ◌≡◌ {A = ℕ} 0 1 = cc in absurd (omega arith)
    by (Refused fault at f) x (owed_early_lem c2 d2 at2 h i) =
        let n : fault ≡ 23 = cc in
        rw (n, (early_only size limit es place c p at f s (rw n at x)).1)
