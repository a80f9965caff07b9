-- A separator or an entire record between records, and the skip that ends a group: each keeps its rules, and is one turn of the
-- scan.
-- Assumes nothing.
use mathlib.Core.Path.{◌≡◌, refl, sym, ap, ◌∙◌}
use mathlib.Core.Bool.{Bool, true, false}
use mathlib.Core.List.{List}
use Prim.Native.Nat.{ℕ, ◌+◌, ◌*◌, ◌-◌, ◌≤◌}
use native.Mathlib.Nat.{add-zero}
use native.Mathlib.Omega.{arith}
use borrow.Author.Tests.{eq-eqb, le-leb, ne_eqb}
use lib.Dec.{eqb}
use Rattle.group.specs.declared.Entry.{Entry}
use Rattle.group.specs.declared.Kind.TheVariants.{Separator, Entire, Skip}
use Rattle.group.specs.Sizes.{longest_record, entry_offset}
use Rattle.group.specs.Entries.{entry_at}
use Rattle.group.specs.Flags.{flag_of, meaning_of}
use Rattle.group.proofs.FlagLaws.{meaning_of_flag}
use Rattle.entry.specs.declared.Cursor.{Cursor}
use Rattle.entry.specs.declared.Stand.TheVariants.{Free}
use Rattle.entry.specs.ScanEnd.{Reached}
use Rattle.entry.specs.Rules.{may_follow, may_owe, b4_kept, entry_fault}
use Rattle.entry.specs.Scan.{after}
use Rattle.entry.proofs.Faults.{no_fault}
use Rattle.scan.specs.Stretch.{scan_left, moved_to, free_at, Single, separates, is_entire}
use Rattle.scan.proofs.Turns.{left_turn, none_left}

-- The b4 of the entry before it.
same_b4 : (w : Bool) → b4_kept w w ≡ true
same_b4 true = refl
same_b4 false = refl

-- A separator or an entire record between records, with room for its data, has no fault, and leaves the scan free.
pub single_kept : (size limit : ℕ) (w : Bool) (sum reached bytes : ℕ) (e : Entry) → Single w e bytes → e.count ≤ longest_record → reached + bytes ≤ limit
    → entry_fault size limit false (free_at w sum reached) (meaning_of e.flag) e.count ≡ 0
unfolding may_follow
single_kept size limit w sum reached bytes e (separates f n b) small fits =
    rw (f, meaning_of_flag Separator w)
    (no_fault size limit false _ Separator w e.count
    (record { b4 = same_b4 w; follow = refl; counted = n; room = le-leb reached limit (omega arith); skip = refl; owed = refl }))
single_kept size limit w sum reached bytes e (is_entire f n b) small fits =
    rw (f, meaning_of_flag Entire w)
    (no_fault size limit false _ Entire w e.count
    (record { b4 = same_b4 w; follow = refl; counted = (n, small); room = le-leb (reached + e.count) limit (omega arith); skip = refl; owed = refl }))

pub single_after : (w : Bool) (sum reached bytes : ℕ) (e : Entry) → Single w e bytes
    → after (free_at w sum reached) (meaning_of e.flag) e.count
    ≡ free_at w 0 (reached + bytes)
single_after w sum reached bytes e (separates f n b) = rw (f, meaning_of_flag Separator w, b, add-zero reached)
single_after w sum reached bytes e (is_entire f n b) = rw (f, meaning_of_flag Entire w, b)

-- A skip of all that is left of the group, where a skip may follow and owes no total too early, has no fault, and leaves the scan
-- where it stands.
pub skip_kept_lem : (size limit : ℕ) (c : Cursor) (e : Entry) → e.flag ≡ flag_of Skip c.warned → e.count ≡ size - c.reached → c.reached ≤ limit → may_follow c.stand Skip ≡ true
    → may_owe c.stand (size - c.reached) ≡ true → entry_fault size limit true c (meaning_of e.flag) e.count ≡ 0
skip_kept_lem size limit c e f n r h o =
    rw (f, meaning_of_flag Skip c.warned)
    (no_fault size limit true c Skip c.warned e.count
    (record { b4 = same_b4 c.warned; follow = rw h; counted = tt; room = le-leb _ _ r; skip = eq-eqb _ _ n; owed = rw n o }))

pub skip_after : (c : Cursor) (e : Entry) → e.flag ≡ flag_of Skip c.warned → after c (meaning_of e.flag) e.count ≡ c
skip_after c e f = rw (f, meaning_of_flag Skip c.warned)

-- One separator or entire record of a stretch, and the skip that ends a group.
pub single_turn : (group : List ℕ) (size n left : ℕ) (c : Cursor) (sum reached bytes : ℕ) (e : Entry) → c.stand ≡ Free → 2 ≤ left → left ≤ n
    → e ≡ entry_at group (entry_offset size n + 4 * (left - 1)) → Single c.warned e bytes → e.count ≤ longest_record → reached + bytes ≤ entry_offset size n
    → scan_left size n group (left - 1) (moved_to c 0 (reached + bytes)) ≡ scan_left size n group left (moved_to c sum reached)
single_turn group size n left c sum reached bytes e free two most is s small fits =
    let more : eqb (left - 1) 0 ≡ false = ne_eqb (left - 1) 0 (λ z. absurd (omega arith)) in
    let kept = single_kept size (entry_offset size n) c.warned sum reached bytes e s small fits in
    rw free (
    ap (scan_left size n group (left - 1)) (sym (single_after c.warned sum reached bytes e s))
    ∙ sym (left_turn group size n left _ e 0 (omega arith) most is (rw more (sym kept))))

pub skip_turn : (group : List ℕ) (size n left : ℕ) (c : Cursor) (e : Entry) → left ≡ 1 → 1 ≤ n → e ≡ entry_at group (entry_offset size n)
    → e.flag ≡ flag_of Skip c.warned → e.count ≡ size - c.reached → c.reached ≤ entry_offset size n → may_follow c.stand Skip ≡ true
    → may_owe c.stand (size - c.reached) ≡ true → Reached c ≡ scan_left size n group left c
skip_turn group size n left c e one some is f count r h o =
    let at : entry_offset size n + 4 * (left - 1) ≡ entry_offset size n = omega arith in
    let none : left - 1 ≡ 0 = omega arith in
    let last : eqb (left - 1) 0 ≡ true = eq-eqb (left - 1) 0 none in
    none_left group size n (left - 1) c none
    ∙ ap (scan_left size n group (left - 1)) (sym (skip_after c e f))
    ∙ sym (left_turn group size n left c e 0 (omega arith) (omega arith) (rw at is) (rw last (sym (skip_kept_lem size (entry_offset size n) c e f count r h o))))
