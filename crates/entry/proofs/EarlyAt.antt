-- What 23 tells of the entry at which it is told.
-- Assumes nothing.
use mathlib.Core.Path.{◌≡◌, refl, sym}
use mathlib.Core.Bool.{Bool, true, false, cond, not, ◌&&◌, false≢true}
use Prim.Native.Nat.{ℕ, ◌≤◌}
use native.Mathlib.Omega.{arith}
use borrow.Author.Tests.{leb-false, not-true}
use Rattle.group.specs.declared.Kind.{Kind}
use Rattle.group.specs.declared.Kind.TheVariants.{Total, Separator, Middle, Start, Last, Entire, Skip}
use Rattle.group.specs.Flags.{Meaning}
use Rattle.std.specs.Prelude.{Some, None}
use Rattle.entry.specs.declared.Cursor.{Cursor}
use Rattle.entry.specs.declared.Stand.{Stand}
use Rattle.entry.specs.declared.Stand.TheVariants.{Free, AfterPart, Inside, AfterLast, Owed}
use Rattle.counts.specs.Counts.{zero_part, above_one, too_long, differs}
use Rattle.entry.specs.Rules.{may_follow, b4_kept, follow_kept, or_else, room_kept, skip_kept, owed_kept, entry_fault}

-- What 23 at one entry tells.
pub record EarlyAt (last : Bool) (stand : Stand) (m : Meaning) (count : ℕ) : Type 0 where
  pub b4 : Bool
  pub skips : m ≡ Some (Skip, b4)
  pub stands : stand ≡ AfterLast
  pub early : 44 ≤ count
  pub ends : last ≡ true

-- The tests of an entry in their order: where the last of them is told, it fails, and that of 10 does not.
told_last : (a b z o l f r s t : Bool) → cond a 9 (cond b 10 (or_else (cond z 19 (cond o 20 (cond l 21 (cond f 22 0)))) (cond r 12 (cond s 13 (cond t 23 0))))) ≡ 23 →
    (b ≡ false) × (t ≡ true)
told_last true b z o l f r s t e = absurd (omega arith)
told_last false true z o l f r s t e = absurd (omega arith)
told_last false false true o l f r s t e = absurd (omega arith)
told_last false false false true l f r s t e = absurd (omega arith)
told_last false false false false true f r s t e = absurd (omega arith)
told_last false false false false false true r s t e = absurd (omega arith)
told_last false false false false false false true s t e = absurd (omega arith)
told_last false false false false false false false true t e = absurd (omega arith)
told_last false false false false false false false false true e = (refl, refl)
told_last false false false false false false false false false e = absurd (omega arith)

-- A skip that may stand where it stands is the last entry.
at_end : (f last : Bool) → not (f && cond last true false) ≡ false → last ≡ true
at_end f true e = refl
at_end true false e = sym e
at_end false false e = sym e

at_skip : (last : Bool) (stand : Stand) (w : Bool) (count : ℕ) → not (owed_kept Skip stand count) ≡ true → last ≡ true → EarlyAt last stand (Some (Skip, w)) count
at_skip last Free w count e l = absurd (false≢true e)
at_skip last AfterPart w count e l = absurd (false≢true e)
at_skip last Inside w count e l = absurd (false≢true e)
at_skip last AfterLast w count e l = record { b4 = w; skips = refl; stands = refl; early = omega (arith, leb-false count _ (not-true _ e)); ends = l }
at_skip last Owed w count e l = absurd (false≢true e)

pub early_at : (size limit : ℕ) (last : Bool) (c : Cursor) (m : Meaning) (count : ℕ) → entry_fault size limit last c m count ≡ 23 → EarlyAt last c.stand m count
unfolding entry_fault
early_at size limit last c None count e = absurd (omega arith)
early_at size limit last c (Some (k, w)) count e =
    by k
    (told_last (not (b4_kept c.warned w)) (not (follow_kept c.stand k last)) (zero_part k count) (above_one k count) (too_long k c.sum count) (differs k c.sum count)
    (not (room_kept k c.reached count limit)) (not (skip_kept k c.reached count size)) (not (owed_kept k c.stand count)) e)
  where
    by : (k : Kind) → (not (follow_kept c.stand k last) ≡ false) × (not (owed_kept k c.stand count) ≡ true) → EarlyAt last c.stand (Some (k, w)) count
    by Total t = absurd (false≢true t.1)
    by Separator t = absurd (false≢true t.1)
    by Middle t = absurd (false≢true t.1)
    by Start t = absurd (false≢true t.1)
    by Last t = absurd (false≢true t.1)
    by Entire t = absurd (false≢true t.1)
    by Skip t = at_skip last c.stand w count t.1 (at_end (may_follow c.stand Skip) last t.0)
