-- The numbers of an accepted group's rows have room in four bytes each, whatever its bytes.
-- Assumes nothing.
use mathlib.Core.Path.{◌≡◌, refl, subst}
use mathlib.Core.Bool.{Bool, true}
use mathlib.Core.List.{List, [], ◌∷◌}
use Prim.Native.Nat.{ℕ, suc, ◌-◌, ◌^◌, ◌≤◌, ◌<◌}
use native.Mathlib.Omega.{arith}
use borrow.Author.Tests.{eqb-true}
use Rattle.numbers.proofs.InBytes.{Smalls}
use Rattle.group.specs.declared.Entry.{Entry}
use Rattle.group.specs.declared.Kind.{Kind}
use Rattle.group.specs.declared.Kind.TheVariants.{Total, Separator, Middle, Start, Last, Entire, Skip}
use Rattle.group.specs.Flags.{Meaning}
use Rattle.std.specs.Prelude.{Some, None}
use Rattle.group.specs.Sizes.{standard_size, information_length, longest_record}
use Rattle.group.specs.Flags.{meaning_of}
use Rattle.group.specs.Entries.{entries_below}
use Rattle.reader.specs.declared.Reader.{Reader}
use Rattle.entry.specs.declared.Cursor.{Cursor}
use Rattle.entry.specs.ScanEnd.{Reached}
use Rattle.reader.specs.ReadAnswer as answer
use Rattle.entry.specs.Rules.{entry_fault, skip_kept}
use Rattle.entry.specs.Scan.{after, is_last, scan, reached_by}
use Rattle.rows.specs.Rows.{row_kind, rows_from}
use Rattle.entry.specs.Bounds.{Bounded}
use Rattle.reader.specs.Answer.{opening, group_scan, group_rows, read_call}
use Rattle.counts.proofs.Counts.{CountKept}
use Rattle.entry.proofs.Faults.{kept, unknown_fault, stays}
use Rattle.entry.proofs.Scans.{went_on}
use Rattle.reader.proofs.Accepted.{accepted, begins}

kind_small : (m : Meaning) → row_kind m < 256 ^ 4
kind_small None = omega arith
kind_small (Some (Total, w)) = omega arith
kind_small (Some (Separator, w)) = omega arith
kind_small (Some (Middle, w)) = omega arith
kind_small (Some (Start, w)) = omega arith
kind_small (Some (Last, w)) = omega arith
kind_small (Some (Entire, w)) = omega arith
kind_small (Some (Skip, w)) = omega arith

-- A count that keeps its rule.
counted : (k : Kind) (size reached sum count : ℕ) → size ≤ standard_size → sum ≤ longest_record → CountKept k sum count → skip_kept k reached count size ≡ true →
    count ≤ longest_record
counted Total size reached sum count h s r f = omega arith
counted Separator size reached sum count h s r f = omega arith
counted Middle size reached sum count h s r f = omega arith
counted Start size reached sum count h s r f = omega arith
counted Last size reached sum count h s r f = omega arith
counted Entire size reached sum count h s r f = omega arith
counted Skip size reached sum count h s r f = omega (arith, eqb-true count (size - reached) f)

count_small : (size limit : ℕ) (last : Bool) (c : Cursor) (m : Meaning) (count : ℕ) → size ≤ standard_size → Bounded limit c → entry_fault size limit last c m count ≡ 0 →
    count < 256 ^ 4
count_small size limit last c None count h b e = absurd (unknown_fault size limit last c count e)
count_small size limit last c (Some (k, w)) count h b e =
    let r = kept size limit last c k w count e in
    omega (arith, counted k size c.reached c.sum count h b.sum r.counted r.skip)

reached_is : (c : Cursor) (m : Meaning) (count : ℕ) → (after c m count).reached ≡ reached_by m c.reached count
reached_is c None count = refl
reached_is c (Some (k, w)) count = refl

small_scan : (size limit : ℕ) (es : List Entry) (place : ℕ) (c d : Cursor) → size ≤ standard_size → limit ≤ size → Bounded limit c → scan size limit es place c ≡ Reached d →
    Smalls (rows_from c.reached es)
unfolding scan rows_from Smalls
small_scan size limit [] place c d h l b e = tt
small_scan size limit (x ∷ es) place c d h l b e =
    let m = meaning_of x.flag in
    let fault = entry_fault size limit (is_last es) c m x.count in
    let next = after c m x.count in
    let w = went_on fault place c d (scan size limit es (suc place) next) e in
    let rest = small_scan size limit es (suc place) next d h l (stays size limit (is_last es) c m x.count b w.0) w.1 in
    let some : c.reached < 256 ^ 4 = omega (arith, b.reached) in
    (kind_small m, (some, (count_small size limit (is_last es) c m x.count h b w.0, subst (λ (r : ℕ). Smalls (rows_from r es)) (reached_is c m x.count) rest)))

pub small_rows : (s t : Reader) (group : List ℕ) (number n room : ℕ) → read_call s group number n room ≡ answer.Accepted t → Smalls (group_rows s group n)
unfolding group_rows group_scan
small_rows s t group number n room e =
    let p = accepted s t group number n room e in
    let r = p.ready.run in
    small_scan s.size _ (entries_below group (s.size - information_length) n) 1 (opening s) p.end r.most (omega arith) (begins p.ready) p.reached
