-- From entry to entry the sum suits where the scan stands.
-- Assumes nothing.
use mathlib.Core.Path.{◌≡◌, refl}
use mathlib.Core.Bool.{Bool, true, cond, not}
use mathlib.Core.List.{List, [], ◌∷◌}
use Prim.Native.Nat.{ℕ, suc, ◌+◌, ◌-◌, ◌≤◌}
use native.Mathlib.Omega.{arith}
use Rattle.group.specs.declared.Entry.{Entry}
use Rattle.group.specs.declared.Kind.{Kind}
use Rattle.group.specs.declared.Kind.TheVariants.{Total, Separator, Middle, Start, Last, Entire, Skip}
use Rattle.group.specs.Flags.{Meaning}
use Rattle.std.specs.Prelude.{Some, None}
use Rattle.group.specs.Sizes.{longest_record}
use Rattle.group.specs.Flags.{meaning_of}
use Rattle.numbers.proofs.Tests.{both, within, is_within}
use Rattle.entry.specs.declared.Stand.{Stand}
use Rattle.entry.specs.declared.Stand.TheVariants.{Free, AfterPart, Inside, AfterLast, Owed}
use Rattle.entry.specs.declared.Cursor.{Cursor}
use Rattle.entry.specs.ScanEnd.{Reached}
use Rattle.entry.specs.Rules.{may_follow, is_skip, stand_after, sum_after, entry_fault}
use Rattle.entry.specs.Scan.{after, is_last, scan}
use Rattle.entry.specs.Reasons.{Suits}
use Rattle.counts.proofs.Counts.{CountKept}
use Rattle.entry.proofs.Faults.{kept}
use Rattle.entry.proofs.Scans.{went_on}

-- A last follows only inside a record, whose sum is 1 or more.
last_after : (stand : Stand) (sum : ℕ) → may_follow stand Last ≡ true → Suits stand sum → 1 ≤ sum
unfolding may_follow
last_after Free sum e s = let z : ◌≡◌ {A = ℕ} 0 1 = cc in absurd (omega arith)
last_after AfterPart sum e s = let z : ◌≡◌ {A = ℕ} 0 1 = cc in absurd (omega arith)
last_after Inside sum e s = (within 1 sum (longest_record - 1) s).0
last_after AfterLast sum e s = let z : ◌≡◌ {A = ℕ} 0 1 = cc in absurd (omega arith)
last_after Owed sum e s = let z : ◌≡◌ {A = ℕ} 0 1 = cc in absurd (omega arith)

suits_after : (k : Kind) (stand : Stand) (sum count : ℕ) → may_follow stand k ≡ true → CountKept k sum count → Suits stand sum
    → Suits (stand_after stand k) (sum_after k sum count)
suits_after Total stand sum count m f s = refl
suits_after Separator stand sum count m f s = refl
suits_after Middle stand sum count m f s =
    is_within {low = 1} {n = sum + count} {high = longest_record - 1} (omega arith) (omega arith)
suits_after Start stand sum count m f s =
    is_within {low = 1} {n = count} {high = longest_record - 1} (omega arith) (omega arith)
suits_after Last stand sum count m f s =
    let one = last_after stand sum m s in
    is_within {low = 2} {n = sum + count} {high = longest_record} (omega arith) (omega arith)
suits_after Entire stand sum count m f s = refl
suits_after Skip stand sum count m f s = s

pub suits_next : (size limit : ℕ) (last : Bool) (c : Cursor) (m : Meaning) (count : ℕ) → entry_fault size limit last c m count ≡ 0
    → Suits c.stand c.sum → Suits (after c m count).stand (after c m count).sum
suits_next size limit last c None count e s = s
suits_next size limit last c (Some (k, w)) count e s =
    let h = kept size limit last c k w count e in
    suits_after k c.stand c.sum count (both (may_follow c.stand k) (cond last (is_skip k) (not (is_skip k))) h.follow).0 h.counted s

pub suits_scan : (size limit : ℕ) (es : List Entry) (place : ℕ) (c d : Cursor) → Suits c.stand c.sum → scan size limit es place c ≡ Reached d
    → Suits d.stand d.sum
unfolding scan
suits_scan size limit [] place c d s e = let f : c ≡ d = cc in rw (← f) s
suits_scan size limit (x ∷ es) place c d s e =
    let m = meaning_of x.flag in
    let fault = entry_fault size limit (is_last es) c m x.count in
    let next = after c m x.count in
    let w = went_on fault place c d (scan size limit es (suc place) next) e in
    suits_scan size limit es (suc place) next d (suits_next size limit (is_last es) c m x.count w.0 s) w.1
