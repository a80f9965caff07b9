-- Change request 2026-06, of every read: a total owed too early is never accepted, and 23 is told of nothing else.
-- Assumes nothing.
use Prim.Native.Nat.{ℕ, zero, suc, ◌*◌, ◌-◌, ◌≤◌}
use native.Mathlib.Omega.{arith}
use mathlib.Core.List.{List}
use mathlib.Core.Bool.{Bool, true, false, cond, false≢true}
use mathlib.Core.Path.{◌≡◌, refl, sym, ap, ◌∙◌}
use lib.Dec.{eqb}
use lib.ListN.{length}
use Rattle.group.specs.declared.Entry.{Entry}
use Rattle.group.specs.declared.Kind.{Kind}
use Rattle.group.specs.declared.Kind.TheVariants.{Last, Skip}
use Rattle.group.specs.Flags.{Meaning}
use Rattle.std.specs.Prelude.{Some, None}
use Rattle.group.specs.Sizes.{entry_offset}
use Rattle.group.specs.Flags.{kind_number, meaning_of}
use Rattle.group.specs.Entries.{entry_at, entries_below}
use Rattle.group.proofs.FlagLaws.{kind_is_lem}
use Rattle.entry.specs.declared.Cursor.{Cursor}
use Rattle.entry.specs.ScanEnd.{ScanEnd}
use Rattle.entry.specs.ScanEnd as scanned
use Rattle.entry.specs.Owing.{OwedEarly, last_then_skip}
use Rattle.entry.proofs.Owing.{early_refused, early_only}
use Rattle.rows.specs.Rows.{row_kind}
use Rattle.reader.specs.declared.Reader.{Reader}
use Rattle.reader.specs.ReadAnswer as answer
use Rattle.reader.specs.Answer.{is_repeat, read_refusal, opening, group_scan, answered, read_call}
use Rattle.reader.specs.Refused.{RefusedRead}
use Rattle.reader.proofs.Accepted.{accepted}
use Rattle.reader.proofs.Refused.{read_refuses}
use Rattle.twice.specs.RowsAre.{kind_is}
use Rattle.twice.specs.Owing.{OwedEarlyIn}
use Rattle.twice.proofs.Rows as rowed

-- An entry of a kind's number has a flag that means this kind, and the other way round. No kind has the number 0.
record Means (e : Entry) (k : Kind) : Type 0 where
  b4 : Bool
  is : meaning_of e.flag ≡ Some (k, b4)

means : (e : Entry) (k : Kind) → kind_is e ≡ kind_number k → 1 ≤ kind_number k → Means e k
means e k h some = by (meaning_of e.flag) refl (rowed.kind_is_lem e ∙ h)
  where
    by : (m : Meaning) → meaning_of e.flag ≡ m → row_kind m ≡ kind_number k → Means e k
    by None x y = absurd (omega arith)
    by (Some (j, b)) x y = record { b4 = b; is = rw (kind_is_lem j k y) at x }

kind_of_lem : (e : Entry) (k : Kind) (b : Bool) → meaning_of e.flag ≡ Some (k, b) → kind_is e ≡ kind_number k
kind_of_lem e k b h = sym (rowed.kind_is_lem e) ∙ ap row_kind h

-- The two ways of saying it, by the bytes and by the entries, are one.
module _ (group : List ℕ) (size : ℕ) where
  second_at : size - 32 - 4 - 4 ≡ size - 32 - 4 * 2
  second_at = omega arith

  as_entries : (n : ℕ) → OwedEarlyIn size n group → OwedEarly (entries_below group (size - 32) n)
  unfolding entries_below
  as_entries n o =
      let l = means _ Last o.last (omega arith) in
      let s = means _ Skip o.skip (omega arith) in
      rw (o.two, second_at) (last_then_skip l.b4 s.b4 l.is s.is o.early)

  as_bytes : (n : ℕ) → OwedEarly (entries_below group (size - 32) n) → OwedEarlyIn size n group
  unfolding entries_below
  as_bytes zero o = elim o [ ]
  as_bytes (suc zero) o = elim o [ ]
  as_bytes (suc (suc (suc n))) o = elim o [ ]
  as_bytes (suc (suc zero)) (last_then_skip b c l s h) =
      record { two = refl; last = kind_of_lem _ Last b l; skip = rw second_at at (kind_of_lem (entry_at group (size - 32 - 4 - 4)) Skip c s); early = rw second_at at h }

-- A read that tells 23 is told it by its scan.
record ByScan (s : Reader) (group : List ℕ) (n place : ℕ) : Type 0 where
  end : Cursor
  scans : group_scan s group n ≡ scanned.Refused 23 place end

not_before : {s t : Reader} {n place : ℕ} → RefusedRead s n t 23 place → place ≡ 0 → ⊥
not_before (RefusedRead.before_the_scan h) z = false≢true h
not_before (RefusedRead.at_an_entry h low high) z = absurd (omega arith)

by_scan : (s t : Reader) (group : List ℕ) (number n room place : ℕ) → read_call s group number n room ≡ answer.Refused t 23 place → ByScan s group n place
unfolding read_call
by_scan s t group number n room place e =
    by (is_repeat s (length group) number) (eqb r 0) (group_scan s group n) refl e (not_before (read_refuses s t group number n room 23 place e))
  where
    r : ℕ
    r = read_refusal s (length group) number n room

    by : (a b : Bool) (o : ScanEnd) → group_scan s group n ≡ o
        → cond a (answer.Repeated s) (cond b (answered s o) (answer.Refused s r 0)) ≡ answer.Refused t 23 place → (place ≡ 0 → ⊥) → ByScan s group n place
    by true b o q h x = let z : ◌≡◌ {A = ℕ} 0 1 = cc in absurd (omega arith)
    by false true (scanned.Reached c) q h x = let z : ◌≡◌ {A = ℕ} 0 1 = cc in absurd (omega arith)
    by false true (scanned.Refused fault at c) q h x =
        let f : fault ≡ 23 = cc in
        let g : at ≡ place = cc in
        record { end = c; scans = rw (f, g) at q }
    by false false o q h x =
        let g : 0 ≡ place = cc in
        absurd (x (sym g))

-- No such group is accepted, from any state.
pub owed_early_refused : (s t : Reader) (group : List ℕ) (number n room : ℕ) → OwedEarlyIn s.size n group → read_call s group number n room ≡ answer.Accepted t → ⊥
unfolding group_scan
owed_early_refused s t group number n room o e =
    let p = accepted s t group number n room e in
    early_refused s.size (entry_offset s.size n) (entries_below group (s.size - 32) n) 1 (opening s) p.end (as_entries group s.size n o) p.reached

-- 23 is told of such a group alone, at entry 2.
pub owed_early_only : (s t : Reader) (group : List ℕ) (number n room place : ℕ) → read_call s group number n room ≡ answer.Refused t 23 place →
    OwedEarlyIn s.size n group × (place ≡ 2)
unfolding group_scan
owed_early_only s t group number n room place e =
    let b = by_scan s t group number n room place e in
    let (o, q) = early_only s.size (entry_offset s.size n) (entries_below group (s.size - 32) n) 1 (opening s) s.phase place b.end refl b.scans in
    (as_bytes group s.size n o, sym q)
