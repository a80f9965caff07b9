-- "Counts of kinds 3 to 7 add up to L": each entry moves the data by what it adds, and the skip adds what is left.
-- Assumes nothing.
use Prim.Native.Nat.{ℕ, ◌+◌, ◌-◌, ◌≤◌}
use native.Mathlib.Omega.{arith}
use mathlib.Core.List.{List, [], ◌∷◌}
use mathlib.Core.Path.{◌≡◌, refl, sym, ◌∙◌, subst}
use mathlib.Core.Bool.{true, false}
use borrow.Author.Tests.{eqb-true, leb-true}
use lib.ListN.{length}
use Rattle.numbers.proofs.Tests.{both}
use Rattle.group.specs.declared.Entry.{Entry}
use Rattle.group.specs.declared.Kind.{Kind}
use Rattle.group.specs.declared.Kind.TheVariants.{Total, Separator, Middle, Start, Last, Entire, Skip}
use Rattle.group.specs.Flags.{Meaning}
use Rattle.std.specs.Prelude.{Some, None}
use Rattle.group.specs.Sizes.{information_length, entry_offset}
use Rattle.group.specs.Flags.{meaning_of}
use Rattle.group.specs.Entries.{entries_below}
use Rattle.group.proofs.EntryLaws.{length_entries}
use Rattle.entry.specs.declared.Cursor.{Cursor}
use Rattle.entry.specs.ScanEnd.{Reached}
use Rattle.entry.specs.Rules.{may_follow, reached_after, entry_fault}
use Rattle.entry.specs.Scan.{after, scan}
use Rattle.entry.proofs.Faults.{Kept, kept, unknown_fault}
use Rattle.entry.proofs.Scans.{went_on}
use Rattle.reader.specs.declared.Reader.{Reader}
use Rattle.reader.specs.ReadAnswer as answer
use Rattle.reader.specs.Answer.{opening, group_scan, read_call}
use Rattle.reader.proofs.Accepted.{accepted}
use Rattle.layout.specs.Items.{Each}
use Rattle.layout.specs.Items.Each.{each_none, each_more}
use Rattle.layout.specs.Layout.{Image}
use Rattle.layout.specs.Accepting.{Accepts}
use Rattle.layout.specs.Accepting.Accepts.{accepts_none, accepts_more}
use Rattle.layout.specs.Counts.{adds, add_up, AddsUp}
use Rattle.layout.proofs.OnlyOne.{size_kept_lem}

no : {A : Type 0} → true ≡ false → A
no e = let z : ◌≡◌ {A = ℕ} 0 1 = cc in absurd (omega arith)

-- An entry before the last moves the data by what it adds; the last one adds what is left.
moves : (size limit : ℕ) (c : Cursor) (m : Meaning) (count : ℕ) → entry_fault size limit false c m count ≡ 0 → ((after c m count).reached ≡ c.reached + adds m count) × ((after c m count).reached ≤ limit)
moves size limit c None count e = absurd (unknown_fault size limit false c count e)
moves size limit c (Some (k, w)) count e = by k (kept size limit false c k w count e)
  where
    by : (k : Kind) → Kept size limit false c k w count → (reached_after k c.reached count ≡ c.reached + adds (Some (k, w)) count) × (reached_after k c.reached count ≤ limit)
    by Total h = (omega arith, leb-true _ _ h.room)
    by Separator h = (omega arith, leb-true _ _ h.room)
    by Middle h = (refl, leb-true _ _ h.room)
    by Start h = (refl, leb-true _ _ h.room)
    by Last h = (refl, leb-true _ _ h.room)
    by Entire h = (refl, leb-true _ _ h.room)
    by Skip h = no (sym (both (may_follow c.stand Skip) false h.follow).1)

ends : (size limit : ℕ) (c : Cursor) (m : Meaning) (count : ℕ) → entry_fault size limit true c m count ≡ 0 → adds m count ≡ size - c.reached
ends size limit c None count e = absurd (unknown_fault size limit true c count e)
ends size limit c (Some (k, w)) count e = by k (kept size limit true c k w count e)
  where
    by : (k : Kind) → Kept size limit true c k w count → adds (Some (k, w)) count ≡ size - c.reached
    by Skip h = eqb-true count (size - c.reached) h.skip
    by Total h = no (sym (both (may_follow c.stand Total) false h.follow).1)
    by Separator h = no (sym (both (may_follow c.stand Separator) false h.follow).1)
    by Middle h = no (sym (both (may_follow c.stand Middle) false h.follow).1)
    by Start h = no (sym (both (may_follow c.stand Start) false h.follow).1)
    by Last h = no (sym (both (may_follow c.stand Last) false h.follow).1)
    by Entire h = no (sym (both (may_follow c.stand Entire) false h.follow).1)

scan_adds : (size limit : ℕ) (e : Entry) (es : List Entry) (place : ℕ) (c d : Cursor) → limit ≤ size → c.reached ≤ limit → scan size limit (e ∷ es) place c ≡ Reached d →
    c.reached + add_up (e ∷ es) ≡ size
unfolding scan add_up
scan_adds size limit e [] place c d l h s =
    let w = went_on _ place c d _ s in
    let x = ends size limit c (meaning_of e.flag) e.count w.0 in
    omega (arith, x)
scan_adds size limit e (f ∷ fs) place c d l h s =
    let w = went_on _ place c d _ s in
    let x = moves size limit c (meaning_of e.flag) e.count w.0 in
    let y = scan_adds size limit f fs _ (after c (meaning_of e.flag) e.count) d l x.1 w.1 in
    omega (arith, x.0, y)

of_list : (size limit : ℕ) (es : List Entry) (c d : Cursor) → 1 ≤ length es → limit ≤ size → c.reached ≤ limit → scan size limit es 1 c ≡ Reached d → c.reached + add_up es ≡ size
of_list size limit [] c d some l h s = absurd (omega arith)
of_list size limit (e ∷ es) c d some l h s = scan_adds size limit e es 1 c d l h s

-- Of a group that a read accepts,
read_adds : (s t : Reader) (group : List ℕ) (number n room : ℕ) → read_call s group number n room ≡ answer.Accepted t → add_up (entries_below group (s.size - information_length) n) ≡ s.size
unfolding group_scan
read_adds s t group number n room e =
    let p = accepted s t group number n room e in
    let x = of_list s.size (entry_offset s.size n) (entries_below group (s.size - information_length) n) (opening s) p.end
    (omega (arith, length_entries group (s.size - information_length) n, p.ready.some)) (omega arith) (omega arith) p.reached in
    omega (arith, x)

-- .. and so of each group of an accepted run.
pub each_adds : {s t : Reader} {run : List Image} {rows : List (List ℕ)} {size : ℕ} → s.size ≡ size → Accepts s run rows t → Each (AddsUp size) run
each_adds e accepts_none = each_none
each_adds {size = size} e (accepts_more {s} {t} {g = g} old x a) =
    each_more
    (subst (λ (k : ℕ). add_up (entries_below g.bytes (k - information_length) g.entries) ≡ k) e (read_adds s t g.bytes g.number g.entries (length old) x))
    (each_adds (size_kept_lem s t g.bytes g.number g.entries (length old) x ∙ e) a)
