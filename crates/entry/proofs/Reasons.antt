-- Change request 2026-02: no two of 19 to 22 apply at once, and but for them every scan ends as it did.
-- Assumes nothing.
use mathlib.Core.Path.{◌≡◌, refl, ◌∙◌, sym}
use mathlib.Core.Bool.{Bool, true, false, cond, not, ◌&&◌, ◌||◌, false≢true}
use mathlib.Core.List.{List, [], ◌∷◌}
use Prim.Native.Nat.{ℕ, suc, ◌+◌, ◌-◌, ◌≤◌}
use native.Mathlib.Omega.{arith}
use lib.Dec.{eqb, leb}
use borrow.Author.Tests.{ne_eqb, leb-false}
use Rattle.numbers.specs.Numbers.{between}
use Rattle.numbers.proofs.Tests.{within}
use Rattle.group.specs.declared.Entry.{Entry}
use Rattle.group.specs.declared.Kind.{Kind}
use Rattle.group.specs.declared.Kind.TheVariants.{Total, Separator, Middle, Start, Last, Entire, Skip}
use Rattle.group.specs.Flags.{Meaning}
use Rattle.std.specs.Prelude.{Some, None}
use Rattle.group.specs.Sizes.{longest_record}
use Rattle.group.specs.Flags.{meaning_of}
use Rattle.group.proofs.StateLaws.{sum_small}
use Rattle.entry.specs.declared.Cursor.{Cursor}
use Rattle.entry.specs.ScanEnd.{ScanEnd}
use Rattle.entry.specs.ScanEnd.{Reached, Refused}
use Rattle.entry.specs.declared.Stand.{Stand}
use Rattle.entry.specs.declared.Stand.TheVariants.{Free, AfterPart, Inside, AfterLast, Owed}
use Rattle.counts.specs.Counts.{zero_part, above_one, too_long, differs}
use Rattle.entry.specs.Rules.{may_follow, is_skip, phase_after, b4_kept, follow_kept, or_else, room_kept, skip_kept, may_owe, owed_kept, entry_fault}
use Rattle.entry.specs.Scan.{after, is_last, onward, scan}
use Rattle.entry.specs.Reasons.{held, reasons, Suits, entry_fault_before, scan_before, as_eleven, end_as_eleven, Became, told_anew, owed_early_lem}

-- A fault of before as a fault of today: told anew, or a total owed too early, at the last entry.
data Told (last : Bool) (now before : ℕ) : Type 0 where
  anew : as_eleven now ≡ before → Told last now before
  early : now ≡ 23 → before ≡ 0 → last ≡ true → Told last now before

data_told : (last a b o : Bool) → (o ≡ true → last ≡ true) → Told last (cond a 12 (cond b 13 (cond o 23 0))) (cond a 12 (cond b 13 0))
data_told last true b o h = anew refl
data_told last false true o h = anew refl
data_told last false false true h = early refl refl (h refl)
data_told last false false false h = anew refl

-- The four in their order, told as 11, with what comes after them.
counts_told : (last a b c d : Bool) (now before : ℕ) → Told last now before
    → Told last (or_else (cond a 19 (cond b 20 (cond c 21 (cond d 22 0)))) now) (or_else (cond (a || (b || (c || d))) 11 0) before)
counts_told last true b c d now before t = anew refl
counts_told last false true c d now before t = anew refl
counts_told last false false true d now before t = anew refl
counts_told last false false false true now before t = anew refl
counts_told last false false false false now before t = t

order_told : (last a b : Bool) (now before : ℕ) → (b ≡ false → Told last now before) → Told last (cond a 9 (cond b 10 now)) (cond a 9 (cond b 10 before))
order_told last true b now before t = anew refl
order_told last false true now before t = anew refl
order_told last false false now before t = t refl

-- Only a skip owes, and where it may stand it is the last entry.
skip_is_last : (f s m last : Bool) → not (f && cond last s (not s)) ≡ false → not (cond s m true) ≡ true → last ≡ true
skip_is_last f s m true e h = refl
skip_is_last true true m false e h = sym e
skip_is_last true false m false e h = h
skip_is_last false s m false e h = sym e

fault_told : (size limit : ℕ) (last : Bool) (c : Cursor) (m : Meaning) (count : ℕ) → Told last (entry_fault size limit last c m count) (entry_fault_before size limit last c m count)
unfolding entry_fault entry_fault_before
fault_told size limit last c None count = anew refl
fault_told size limit last c (Some (k, w)) count =
    order_told last (not (b4_kept c.warned w)) (not (follow_kept c.stand k last)) _ _
    (λ x. counts_told last (zero_part k count) (above_one k count) (too_long k c.sum count) (differs k c.sum count) _ _
    (data_told last (not (room_kept k c.reached count limit)) (not (skip_kept k c.reached count size)) (not (owed_kept k c.stand count))
    (skip_is_last (may_follow c.stand k) (is_skip k) (may_owe c.stand count) last x)))

-- A fault is one under either numbering.
still : (fault : ℕ) → eqb (as_eleven fault) 0 ≡ eqb fault 0
still fault = by (between 19 fault 22) refl
  where
    by : (b : Bool) → between 19 fault 22 ≡ b → eqb (cond b 11 fault) 0 ≡ eqb fault 0
    by false x = refl
    by true x = let z = within 19 fault 22 x in sym (ne_eqb fault 0 (λ e. absurd (omega arith)))

onward_told : (fault place : ℕ) (c : Cursor) (rest : ScanEnd) → end_as_eleven (onward fault place c rest) ≡ onward (as_eleven fault) place c (end_as_eleven rest)
onward_told fault place c rest = rw (still fault) (by (eqb fault 0))
  where
    by : (b : Bool) → end_as_eleven (cond b rest (Refused fault place c)) ≡ cond b (end_as_eleven rest) (Refused (as_eleven fault) place c)
    by true = refl
    by false = refl

-- A scan's end by what its first entry's fault is, and by what has become of the rest.
goes_on : (now before place : ℕ) (c : Cursor) (rest restBefore : ScanEnd) → as_eleven now ≡ before → Became restBefore rest → Became (onward before place c restBefore) (onward now place c rest)
goes_on now before place c rest restBefore e r = by (eqb now 0) refl r
  where
    by : (t : Bool) → eqb now 0 ≡ t → Became restBefore rest → Became (onward before place c restBefore) (onward now place c rest)
    by false x r = told_anew (onward_told now place c rest ∙ rw (e, ← e, still now, x))
    by true x (told_anew h) = told_anew (onward_told now place c rest ∙ rw (e, h))
    by true x (owed_early_lem c2 d2 p2 h i) = owed_early_lem c2 d2 p2 (rw (← e, still now, x) h) (rw x i)

became : (last : Bool) (now before place : ℕ) (c next : Cursor) (rest restBefore : ScanEnd) → Told last now before → (last ≡ true → restBefore ≡ Reached next) → Became restBefore rest
    → Became (onward before place c restBefore) (onward now place c rest)
became last now before place c next rest restBefore (anew h) n r = goes_on now before place c rest restBefore h r
became last now before place c next rest restBefore (early h i l) n r = owed_early_lem c next place (rw i (n l)) (rw h)

ended_before : (size limit : ℕ) (es : List Entry) (place : ℕ) (c : Cursor) → is_last es ≡ true → scan_before size limit es place c ≡ Reached c
unfolding scan_before
ended_before size limit [] place c h = refl
ended_before size limit (e ∷ es) place c h = absurd (false≢true h)

-- "what is accepted stays as it was", but for a total owed too early: every scan, from every cursor over every table, ends where it did,
-- with the same place and cursor, 19 to 22 coming exactly where 11 came; or it refuses with 23 what then reached its end.
pub scan_as_before : (size limit : ℕ) (es : List Entry) (place : ℕ) (c : Cursor) → Became (scan_before size limit es place c) (scan size limit es place c)
unfolding scan scan_before
scan_as_before size limit [] place c = told_anew refl
scan_as_before size limit (e ∷ es) place c =
    let m = meaning_of e.flag in
    let next = after c m e.count in
    became (is_last es) _ _ place c next _ _ (fault_told size limit (is_last es) c m e.count) (ended_before size limit es (suc place) next)
    (scan_as_before size limit es (suc place) next)

-- A part's two reasons: nothing of 0 bytes is too long where the parts before it are not.
zero_or_long : (count parts most : ℕ) → (count ≡ 0 → parts ≤ most) → held (not (leb 1 count) ∷ false ∷ not (leb parts most) ∷ false ∷ []) ≤ 1
zero_or_long count parts most h = by (leb 1 count) refl (leb parts most) refl
  where
    by : (a : Bool) → leb 1 count ≡ a → (b : Bool) → leb parts most ≡ b → held (not a ∷ false ∷ not b ∷ false ∷ []) ≤ 1
    by true x true y = omega arith
    by true x false y = omega arith
    by false x true y = omega arith
    by false x false y = absurd (omega (arith, leb-false parts most y, h (omega (arith, leb-false 1 count x))))

alone : (b : Bool) → held (b ∷ []) ≤ 1
alone true = omega arith
alone false = omega arith

alone_second : (b : Bool) → held (b ∷ false ∷ false ∷ []) ≤ 1
alone_second true = omega arith
alone_second false = omega arith

middle_sum : (stand : Stand) (sum : ℕ) → may_follow stand Middle ≡ true → Suits stand sum → sum ≤ longest_record - 1
unfolding may_follow
middle_sum Free sum e s = let z : ◌≡◌ {A = ℕ} 0 1 = cc in absurd (omega arith)
middle_sum AfterPart sum e s = let z : ◌≡◌ {A = ℕ} 0 1 = cc in absurd (omega arith)
middle_sum Inside sum e s = (within 1 sum (longest_record - 1) s).1
middle_sum AfterLast sum e s = let z : ◌≡◌ {A = ℕ} 0 1 = cc in absurd (omega arith)
middle_sum Owed sum e s = let z : ◌≡◌ {A = ℕ} 0 1 = cc in absurd (omega arith)

-- "of which no two apply at once": at a kind that may follow, with a sum that suits where the scan stands. (Every scan of a sound state
-- keeps such a sum: `suits_scan`.)
pub one_at_most : (k : Kind) (stand : Stand) (sum count : ℕ) → may_follow stand k ≡ true → Suits stand sum → held (reasons k sum count) ≤ 1
one_at_most Total stand sum count m s = alone (not (eqb count sum))
one_at_most Separator stand sum count m s = alone_second (not (leb count 1))
one_at_most Middle stand sum count m s = zero_or_long count (sum + count) (longest_record - 1) (λ e. omega (arith, middle_sum stand sum m s))
one_at_most Start stand sum count m s = zero_or_long count count (longest_record - 1) (λ e. omega arith)
one_at_most Last stand sum count m s = zero_or_long count (sum + count) longest_record (λ e. omega (arith, sum_small (phase_after stand) sum s))
one_at_most Entire stand sum count m s = zero_or_long count count longest_record (λ e. omega arith)
one_at_most Skip stand sum count m s = omega arith
