-- "A refusal answers the number, the place and the state as given": of every read that is refused.
-- Assumes nothing.
use Prim.Native.Nat.{ℕ, suc, ◌+◌, ◌-◌, ◌≤◌, ◌<◌}
use native.Mathlib.Omega.{arith}
use mathlib.Core.List.{List, [], ◌∷◌}
use mathlib.Core.Path.{◌≡◌, refl, sym, ap, ◌∙◌, subst}
use mathlib.Core.Logic.{◌⊎◌, inl, inr}
use mathlib.Core.Bool.{Bool, true, false, cond, not, true≢false}
use borrow.Author.Tests.{eqb-false}
use lib.Dec.{eqb}
use lib.ListN.{length}
use Rattle.group.specs.declared.Entry.{Entry}
use Rattle.group.specs.Flags.{Meaning}
use Rattle.std.specs.Prelude.{Some, None}
use Rattle.group.specs.Sizes.{entries_kept, information_length}
use Rattle.group.specs.Flags.{meaning_of}
use Rattle.group.specs.Entries.{entries_below}
use Rattle.group.proofs.EntryLaws.{length_entries}
use Rattle.entry.specs.declared.Cursor.{Cursor}
use Rattle.entry.specs.ScanEnd.{ScanEnd}
use Rattle.entry.specs.ScanEnd as scanned
use Rattle.counts.specs.Counts.{zero_part, above_one, too_long, differs}
use Rattle.entry.specs.Rules.{b4_kept, follow_kept, or_else, room_kept, skip_kept, owed_kept, entry_fault}
use Rattle.entry.specs.Scan.{after, is_last, scan}
use Rattle.reader.specs.declared.Reader.{Reader}
use Rattle.reader.specs.ReadAnswer as answer
use Rattle.reader.specs.Answer.{sound, length_kept, is_repeat, next_is, rows_fit, read_refusal, opening, group_scan, answered, read_call}
use Rattle.reader.specs.Refused.{is_one_of, before_scan, at_entry, RefusedRead}

-- 0, or one of these.
abbrev NoneOr : List ℕ → ℕ → Type 0
NoneOr numbers f = (f ≡ 0) ⊎ (is_one_of f numbers ≡ true)

-- One test of a chain: its number is one of these, and so is what comes after it.
pick : (numbers : List ℕ) (b : Bool) (n rest : ℕ) → is_one_of n numbers ≡ true → NoneOr numbers rest → NoneOr numbers (cond b n rest)
pick numbers true n rest e r = inr e
pick numbers false n rest e r = r

entry_numbered : (size limit : ℕ) (last : Bool) (c : Cursor) (m : Meaning) (count : ℕ) → NoneOr at_entry (entry_fault size limit last c m count)
unfolding entry_fault
entry_numbered size limit last c None count = inr refl
entry_numbered size limit last c (Some (k, w)) count =
    pick at_entry (not (b4_kept c.warned w)) 9 _ refl
    (pick at_entry (not (follow_kept c.stand k last)) 10 _ refl
    (or_else_lem
    (pick at_entry (zero_part k count) 19 _ refl
    (pick at_entry (above_one k count) 20 _ refl (pick at_entry (too_long k c.sum count) 21 _ refl (pick at_entry (differs k c.sum count) 22 0 refl (inl refl)))))
    (pick at_entry (not (room_kept k c.reached count limit)) 12 _ refl
    (pick at_entry (not (skip_kept k c.reached count size)) 13 _ refl (pick at_entry (not (owed_kept k c.stand count)) 23 0 refl (inl refl))))))
  where
    or_else_lem : {fault rest : ℕ} → NoneOr at_entry fault → NoneOr at_entry rest → NoneOr at_entry (or_else fault rest)
    or_else_lem {fault} {rest} f r = by (eqb fault 0)
      where
        by : (b : Bool) → NoneOr at_entry (cond b rest fault)
        by true = r
        by false = f

-- What a scan that is refused tells: its entry is one of the n from the first on.
record AtEntry (first n fault place : ℕ) : Type 0 where
  told : is_one_of fault at_entry ≡ true
  from : first ≤ place
  to : place < first + n

scan_place : (size limit : ℕ) (es : List Entry) (place : ℕ) (c : Cursor) (fault at : ℕ) (d : Cursor) → scan size limit es place c ≡ scanned.Refused fault at d →
    AtEntry place (length es) fault at
unfolding scan
scan_place size limit [] place c fault at d e = let z : ◌≡◌ {A = ℕ} 0 1 = cc in absurd (omega arith)
scan_place size limit (x ∷ xs) place c fault at d e =
    by (eqb f 0) refl (entry_numbered size limit (is_last xs) c (meaning_of x.flag) x.count)
    (λ h. scan_place size limit xs (suc place) (after c (meaning_of x.flag) x.count) fault at d h) e
  where
    f : ℕ
    f = entry_fault size limit (is_last xs) c (meaning_of x.flag) x.count

    rest : ScanEnd
    rest = scan size limit xs (suc place) (after c (meaning_of x.flag) x.count)

    by : (b : Bool) → eqb f 0 ≡ b → NoneOr at_entry f → (rest ≡ scanned.Refused fault at d → AtEntry (suc place) (length xs) fault at) →
        cond b rest (scanned.Refused f place c) ≡ scanned.Refused fault at d → AtEntry place (suc (length xs)) fault at
    by true p q more h =
        let r = more h in
        record { told = r.told; from = omega (arith, r.from); to = omega (arith, r.to) }
    by false p (inl z) more h = absurd (eqb-false f 0 p z)
    by false p (inr told) more h =
        let same : f ≡ fault = cc in
        let where-at : place ≡ at = cc in
        record { told = rw (← same) told; from = omega arith; to = omega arith }

before_numbered : (s : Reader) (long number n room : ℕ) → NoneOr before_scan (read_refusal s long number n room)
unfolding read_refusal
before_numbered s long number n room =
    pick before_scan (not (sound s)) 1 _ refl
    (pick before_scan (not (length_kept s long)) 4 _ refl
    (pick before_scan (not (next_is s number)) 5 _ refl (pick before_scan (not (entries_kept s.size n)) 6 _ refl (pick before_scan (not (rows_fit n room)) 7 0 refl (inl refl)))))

-- "A refusal answers the number, the place (k for 8 to 13, else 0) and the state as given": 1 or 4 to 7 before the scan, and at
-- one of the n entries one of the numbers that are told there.
pub read_refuses : (s t : Reader) (group : List ℕ) (number n room refusal place : ℕ) → read_call s group number n room ≡ answer.Refused t refusal place →
    RefusedRead s n t refusal place
unfolding read_call group_scan
read_refuses s t group number n room refusal place e = by (is_repeat s (length group) number) (eqb r 0) refl (group_scan s group n) refl e (before_numbered s (length group) number n room)
  where
    r : ℕ
    r = read_refusal s (length group) number n room

    by : (a b : Bool) → eqb r 0 ≡ b → (o : ScanEnd) → group_scan s group n ≡ o
        → cond a (answer.Repeated s) (cond b (answered s o) (answer.Refused s r 0)) ≡ answer.Refused t refusal place → NoneOr before_scan r → RefusedRead s n t refusal place
    by true b p o q h x = let z : ◌≡◌ {A = ℕ} 0 1 = cc in absurd (omega arith)
    by false true p (scanned.Reached c) q h x = let z : ◌≡◌ {A = ℕ} 0 1 = cc in absurd (omega arith)
    by false true p (scanned.Refused fault at c) q h x =
        let a = scan_place _ _ (entries_below group (s.size - information_length) n) 1 (opening s) fault at c q in
        let f : fault ≡ refusal = cc in
        let g : at ≡ place = cc in
        let u : s ≡ t = cc in
        subst (λ (v : Reader). RefusedRead s n v refusal place) u (RefusedRead.at_an_entry (rw (← f) a.told) (omega (arith, a.from)) (omega (arith, a.to, length_entries group (s.size - information_length) n)))
    by false false p o q h (inl z) = absurd (eqb-false r 0 p z)
    by false false p o q h (inr y) =
        let f : r ≡ refusal = cc in
        let g : 0 ≡ place = cc in
        let u : s ≡ t = cc in
        rw (← f, ← g, ← u) (RefusedRead.before_the_scan y)

-- A number that none of them is, is not told.
not_told : {s t : Reader} {n refusal place : ℕ} (m : ℕ) → is_one_of m before_scan ≡ false → is_one_of m at_entry ≡ false → RefusedRead s n t refusal place → refusal ≡ m → ⊥
not_told m b e (RefusedRead.before_the_scan h) z = true≢false (sym h ∙ ap (λ (k : ℕ). is_one_of k before_scan) z ∙ b)
not_told m b e (RefusedRead.at_an_entry h low high) z = true≢false (sym h ∙ ap (λ (k : ℕ). is_one_of k at_entry) z ∙ e)

-- "Each call returns the number, 0 if accepted": no refusal is 0.
pub read_not_zero : {s t : Reader} {n refusal place : ℕ} → RefusedRead s n t refusal place → refusal ≡ 0 → ⊥
read_not_zero r z = not_told 0 refl refl r z

-- "11 is never given again"
pub never_eleven : (s t : Reader) (group : List ℕ) (number n room place : ℕ) → read_call s group number n room ≡ answer.Refused t 11 place → ⊥
never_eleven s t group number n room place e = not_told 11 refl refl (read_refuses s t group number n room 11 place e) refl
