-- Change request 2026-03: b4 goes on from group to group, and 9 meets the first entry of a group that drops it.
-- Assumes nothing.
use mathlib.Core.Path.{◌≡◌, refl, sym, ap, ◌∙◌, subst}
use mathlib.Core.Bool.{Bool, true, false}
use mathlib.Core.List.{List, [], ◌∷◌}
use Prim.Native.Nat.{ℕ, zero, suc, ◌*◌, ◌-◌, ◌≤◌}
use native.Mathlib.Omega.{arith}
use lib.Dec.{eqb}
use lib.ListN.{length}
use Rattle.group.specs.declared.Entry.{Entry}
use Rattle.group.specs.declared.Kind.{Kind}
use Rattle.group.specs.Flags.{Meaning}
use Rattle.std.specs.Prelude.{Some, None}
use Rattle.group.specs.Sizes.{information_length, entry_length, entry_offset}
use Rattle.group.specs.Flags.{meaning_of, b4_of}
use Rattle.group.specs.Entries.{entry_at, entries_below}
use Rattle.group.proofs.FlagLaws.{b4_of_meaning}
use Rattle.entry.specs.declared.Cursor.{Cursor}
use Rattle.entry.specs.ScanEnd as scanned
use Rattle.entry.specs.Rules.{b4_kept, entry_fault}
use Rattle.entry.specs.Scan.{after, is_last, scan}
use Rattle.entry.proofs.Faults.{kept, dropped, unknown_fault}
use Rattle.entry.proofs.Scans.{went_on}
use Rattle.scan.proofs.Turns.{turn}
use Rattle.reader.specs.declared.Reader.{Reader}
use Rattle.reader.specs.ReadAnswer.{ReadAnswer}
use Rattle.reader.specs.ReadAnswer as answer
use Rattle.reader.specs.Answer.{opening, group_scan, read_refusal, read_call, state_of}
use Rattle.reader.specs.Refused.{RefusedRead}
use Rattle.reader.proofs.Accepted.{ready, accepted, repeated, read_scanned}
use Rattle.reader.proofs.Refused.{read_refuses}

-- An entry that is passed has b4 where it stood set before it, and leaves it as its flag has it.
pub entry_keeps : (size limit : ℕ) (last : Bool) (c : Cursor) (flag count : ℕ) → entry_fault size limit last c (meaning_of flag) count ≡ 0 →
    (b4_kept c.warned (b4_of flag) ≡ true) × ((after c (meaning_of flag) count).warned ≡ b4_of flag)
entry_keeps size limit last c flag count f = by (meaning_of flag) refl f
  where
    by : (m : Meaning) → meaning_of flag ≡ m → entry_fault size limit last c m count ≡ 0 → (b4_kept c.warned (b4_of flag) ≡ true) × ((after c m count).warned ≡ b4_of flag)
    by None e f = absurd (unknown_fault size limit last c count f)
    by (Some (k, w)) e f =
        let b = b4_of_meaning flag k w e in
        (rw b (kept size limit last c k w count f).b4, sym b)

-- b4 along entries, each of which keeps it: from what stood before them to what they leave.
pub data Keeps : Bool → List Entry → Bool → Type 0 where
  none : {b : Bool} → Keeps b [] b
  one : {before left : Bool} {e : Entry} {es : List Entry} → b4_kept before (b4_of e.flag) ≡ true → Keeps (b4_of e.flag) es left → Keeps before (e ∷ es) left

scan_keeps : (size limit : ℕ) (es : List Entry) (place : ℕ) (c d : Cursor) → scan size limit es place c ≡ scanned.Reached d → Keeps c.warned es d.warned
unfolding scan
scan_keeps size limit [] place c d e = let f : c ≡ d = cc in rw (← f) Keeps.none
scan_keeps size limit (x ∷ es) place c d e =
    let m = meaning_of x.flag in
    let next = after c m x.count in
    let w = went_on (entry_fault size limit (is_last es) c m x.count) place c d (scan size limit es (suc place) next) e in
    let k = entry_keeps size limit (is_last es) c x.flag x.count w.0 in
    Keeps.one k.0 (subst (λ (b : Bool). Keeps b es d.warned) k.1 (scan_keeps size limit es (suc place) next d w.1))

-- The entries of an accepted group keep b4, from the state that was given to the state that is left.
pub read_keeps : (s t : Reader) (group : List ℕ) (number n room : ℕ) → read_call s group number n room ≡ answer.Accepted t →
    Keeps s.warned (entries_below group (s.size - information_length) n) t.warned
unfolding group_scan
read_keeps s t group number n room e =
    let p = accepted s t group number n room e in
    rw p.left (scan_keeps s.size (entry_offset s.size n) (entries_below group (s.size - information_length) n) 1 (opening s) p.end p.reached)

-- What entries leave is what the last of them has.
keeps_last : (group : List ℕ) (top n : ℕ) {before left : Bool} → Keeps before (entries_below group top (suc n)) left → left ≡ b4_of (entry_at group (top - entry_length * suc n)).flag
unfolding entries_below
keeps_last group top zero (Keeps.one h Keeps.none) = refl
keeps_last group top (suc n) (Keeps.one h k) =
    let same : top - 4 - 4 * suc n ≡ top - 4 * suc (suc n) = omega arith in
    keeps_last group (top - 4) n k ∙ ap (λ (at : ℕ). b4_of (entry_at group at).flag) same

-- An accepted read leaves b4 as the group's last entry, its skip, has it.
pub left_by_skip : (s t : Reader) (group : List ℕ) (number n room : ℕ) → read_call s group number n room ≡ answer.Accepted t
    → t.warned ≡ b4_of (entry_at group (entry_offset s.size n)).flag
left_by_skip s t group number n room e = by n (accepted s t group number n room e).ready.some (read_keeps s t group number n room e)
  where
    by : (k : ℕ) → 1 ≤ k → Keeps s.warned (entries_below group (s.size - information_length) k) t.warned → t.warned ≡ b4_of (entry_at group (entry_offset s.size k)).flag
    by zero h f = absurd (omega arith)
    by (suc k) h f = keeps_last group (s.size - information_length) k f

-- Set before them, it is set behind them.
keeps_set : {before left : Bool} {es : List Entry} → Keeps before es left → before ≡ true → left ≡ true
keeps_set Keeps.none h = h
keeps_set (Keeps.one k ks) h = keeps_set ks (rw h at k)

as_given : {s t : Reader} {n refusal place : ℕ} → RefusedRead s n t refusal place → t ≡ s
as_given (RefusedRead.before_the_scan told) = refl
as_given (RefusedRead.at_an_entry told low high) = refl

-- b4 that is set stays set, whatever is read next, and where that is refused too: "all following entries of this and all following
-- groups".
pub warned_stays : (s : Reader) (group : List ℕ) (number n room : ℕ) → s.warned ≡ true → (state_of (read_call s group number n room)).warned ≡ true
warned_stays s group number n room h = by (read_call s group number n room) refl
  where
    by : (a : ReadAnswer) → read_call s group number n room ≡ a → (state_of a).warned ≡ true
    by (answer.Accepted t) e = keeps_set (read_keeps s t group number n room e) h
    by (answer.Repeated t) e = ap (λ (r : Reader). r.warned) (repeated s t group number n room e).1 ∙ h
    by (answer.Refused t refusal place) e = ap (λ (r : Reader). r.warned) (as_given (read_refuses s t group number n room refusal place e)) ∙ h

-- "9 now also meets the first entry of a later group": where the state has b4 set and nothing is refused before the scan, a first entry
-- that has a kind and b4 clear.
pub dropped_at_one : (s : Reader) (group : List ℕ) (number n room : ℕ) (k : Kind) → s.warned ≡ true → read_refusal s (length group) number n room ≡ 0
    → meaning_of (entry_at group (s.size - information_length - entry_length)).flag ≡ Some (k, false) → read_call s group number n room ≡ answer.Refused s 9 1
unfolding group_scan
dropped_at_one s group number n room k h r m =
    let e = entry_at group (s.size - information_length - entry_length) in
    let lost : b4_kept s.warned false ≡ false = rw h in
    let fault = dropped s.size (entry_offset s.size n) (eqb (n - 1) 0) (opening s) k false e.count lost in
    sym (read_scanned s group number n room r (scanned.Refused 9 1 (opening s))
    (turn group s.size (entry_offset s.size n) (s.size - information_length) n 1 (opening s) e 9 (ready s (length group) number n room r).some refl (rw m fault)))
