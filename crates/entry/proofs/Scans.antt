-- What a scan that reached its end tells, and the bit of a flag that says whether its count is data.
-- Assumes nothing.
use mathlib.Core.Path.{◌≡◌, refl, sym, ◌∙◌, subst}
use mathlib.Core.Bool.{Bool, true, false, cond}
use mathlib.Core.List.{List, [], ◌∷◌}
use Prim.Native.Nat.{ℕ, suc, ◌+◌, ◌/◌, ◌%◌}
use native.Mathlib.Omega.{arith}
use borrow.Author.Rules.{rules}
use borrow.Author.Tests.{eqb-true}
use lib.Dec.{eqb}
use Rattle.group.specs.declared.Entry.{Entry}
use Rattle.group.specs.declared.Kind.{Kind}
use Rattle.group.specs.Flags.{Meaning}
use Rattle.std.specs.Prelude.{Some, None}
use Rattle.group.specs.Flags.{flag_of, meaning_of}
use Rattle.group.specs.ForContracts.{Meant}
use Rattle.group.proofs.FlagLaws.{each, flag_of_meaning}
use Rattle.entry.specs.declared.Cursor.{Cursor}
use Rattle.entry.specs.ScanEnd.{ScanEnd}
use Rattle.entry.specs.ScanEnd.{Reached, Refused}
use Rattle.counts.specs.Counts.{holds_data}
use Rattle.entry.specs.Rules.{entry_fault}
use Rattle.entry.specs.Scan.{after, is_last, onward, scan, reached_by}
use Rattle.entry.specs.Bounds.{Bounded, Within}
use Rattle.entry.proofs.Faults.{has_meaning, stays}

-- A scan that reached its end met no fault.
pub went_on : (fault place : ℕ) (c d : Cursor) (rest : ScanEnd) → onward fault place c rest ≡ Reached d → (fault ≡ 0) × (rest ≡ Reached d)
went_on fault place c d rest e = by (eqb fault 0) refl e
  where
    by : (t : Bool) → eqb fault 0 ≡ t → cond t rest (Refused fault place c) ≡ Reached d → (fault ≡ 0) × (rest ≡ Reached d)
    by true x h = (eqb-true fault 0 x, h)
    by false x h = let z : ◌≡◌ {A = ℕ} 0 1 = cc in absurd (omega arith)

-- .. and kept the data within the limit, every flag having a meaning.
reached_is : (c : Cursor) (m : Meaning) (count : ℕ) → (after c m count).reached ≡ reached_by m c.reached count
reached_is c None count = refl
reached_is c (Some (k, w)) count = refl

pub within : (size limit : ℕ) (es : List Entry) (place : ℕ) (c d : Cursor) → Bounded limit c → scan size limit es place c ≡ Reached d → Within limit c.reached es
unfolding scan Within
within size limit [] place c d b e = tt
within size limit (x ∷ es) place c d b e =
    let m = meaning_of x.flag in
    let fault = entry_fault size limit (is_last es) c m x.count in
    let next = after c m x.count in
    let w = went_on fault place c d (scan size limit es (suc place) next) e in
    let rest = within size limit es (suc place) next d (stays size limit (is_last es) c m x.count b w.0) w.1 in
    ((b.reached, has_meaning size limit (is_last es) c x.flag x.count w.0), subst (λ (r : ℕ). Within limit r es) (reached_is c m x.count) rest)

-- b7 of a flag says whether its count is data.
b7_data : (k : Kind) (w : Bool) → eqb (flag_of k w / 64 % 2) 1 ≡ holds_data k
b7_data = each (λ (k : Kind) (w : Bool). eqb (flag_of k w / 64 % 2) 1 ≡ holds_data k) (search rules)

pub b7_reaches : (flag reached count : ℕ) (b7 : Bool) → Meant flag → eqb (flag / 64 % 2) 1 ≡ b7 → cond b7 (reached + count) reached ≡ reached_by (meaning_of flag) reached count
b7_reaches flag reached count b7 m e =
    let holds : holds_data m.kind ≡ b7 = sym (b7_data m.kind m.warned) ∙ rw (← flag_of_meaning flag m.kind m.warned m.is) e in
    rw (m.is, holds)
