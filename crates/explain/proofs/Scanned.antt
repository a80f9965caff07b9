-- A scan that stopped: where, at which rule, and by which numbers.
-- Assumes nothing.
use Prim.Native.Nat.{ℕ, zero, suc, ◌+◌, ◌*◌, ◌-◌, ◌≤◌}
use native.Mathlib.Omega.{arith}
use mathlib.Core.Path.{◌≡◌, refl, sym, ap, ◌∙◌, subst}
use mathlib.Core.List.{List, [], ◌∷◌, ◌++◌}
use mathlib.Core.Bool.{Bool, true, false, cond}
use lib.Dec.{eqb}
use borrow.Author.Tests.{eqb-true, eqb-false, eq-eqb, ne_eqb}
use Rattle.group.specs.declared.Entry.{Entry}
use Rattle.group.specs.Sizes.{entry_offset}
use Rattle.group.specs.Flags.{meaning_of}
use Rattle.group.specs.Entries.{entry_at, entries_below}
use Rattle.entry.specs.declared.Cursor.{Cursor}
use Rattle.entry.specs.ScanEnd as scanned
use Rattle.entry.specs.Rules.{entry_fault}
use Rattle.entry.specs.Scan.{after, is_last, scan}
use Rattle.explain.specs.Explanation.{Explanation}
use Rattle.reasons.specs.Rules.{Rule, Stop, in_order, rule_number, keeps, first_broken}
use Rattle.reasons.specs.Rules.Rule.{flag_known, b4_stays, kind_follows, part_not_empty, separator_value, record_length, total_sum, data_within, skip_count, total_in_time}
use Rattle.reasons.specs.Reasons.{entry_reason, reason_at}
use Rattle.explain.specs.Explanation.{explanation, scan_explained}
use Rattle.explain.specs.Truth.{Keeps, Breaks, Stops, stop_at}
use Rattle.explain.specs.Truth.Keeps.{keeps_none, keeps_more}
use Rattle.explain.specs.Truth.Stops.{stops_here, stops_later}
use Rattle.reasons.proofs.Order.{in_order_lem}
use Rattle.reasons.proofs.Numbers.{found_there, broken_by, allowed_by}

-- The first rule of some that an entry breaks, or that it keeps them all.
data Found (at : Stop) (e : Entry) (rules : List Rule) : ℕ → Type 0 where
  all_kept : Keeps at e rules → Found at e rules 0
  broke : (rule : Rule) (earlier later : List Rule) → rules ≡ earlier ++ (rule ∷ later) → Keeps at e earlier → keeps rule at (meaning_of e.flag) e.count ≡ false →
      Found at e rules (rule_number rule)

found_in : (at : Stop) (e : Entry) (rules : List Rule) → Found at e rules (first_broken rules at (meaning_of e.flag) e.count)
unfolding first_broken
found_in at e [] = all_kept keeps_none
found_in at e (r ∷ rs) = by (found_in at e rs) (keeps r at (meaning_of e.flag) e.count) refl
  where
    more : {number : ℕ} → keeps r at (meaning_of e.flag) e.count ≡ true → Found at e rs number → Found at e (r ∷ rs) number
    more h (all_kept k) = all_kept (keeps_more h k)
    more h (broke rule earlier later o k b) = broke rule (r ∷ earlier) later (ap {B = List Rule} (λ l. r ∷ l) o) (keeps_more h k) b

    by : Found at e rs (first_broken rs at (meaning_of e.flag) e.count) → (b : Bool) → keeps r at (meaning_of e.flag) e.count ≡ b → Found at e (r ∷ rs) (cond b (first_broken rs at (meaning_of e.flag) e.count) (rule_number r))
    by rest true h = more h rest
    by rest false h = broke r [] rs refl keeps_none h

-- Every rule has a number, and the number's reason is the rule's.
pub numbered : (r : Rule) → 1 ≤ rule_number r
numbered flag_known = omega arith
numbered b4_stays = omega arith
numbered kind_follows = omega arith
numbered part_not_empty = omega arith
numbered separator_value = omega arith
numbered record_length = omega arith
numbered total_sum = omega arith
numbered data_within = omega arith
numbered skip_count = omega arith
numbered total_in_time = omega arith

reason_of : (r : Rule) (at : Stop) (e : Entry) → entry_reason (rule_number r) at e ≡ reason_at r at e
unfolding entry_reason
reason_of flag_known at e = refl
reason_of b4_stays at e = refl
reason_of kind_follows at e = refl
reason_of part_not_empty at e = refl
reason_of separator_value at e = refl
reason_of record_length at e = refl
reason_of total_sum at e = refl
reason_of data_within at e = refl
reason_of skip_count at e = refl
reason_of total_in_time at e = refl

-- Where the scan stops at an entry.
module _ {size limit : ℕ} (es : List Entry) (place : ℕ) (c : Cursor) (e : Entry) where
  here : {number : ℕ} → Found (stop_at size limit es c) e in_order number → (number ≡ 0 → ⊥) →
      Stops size limit (e ∷ es) place c (explanation number place (entry_offset size place) (entry_reason number (stop_at size limit es c) e))
  here (all_kept k) h = absurd (h refl)
  here (broke rule earlier later o k b) h =
      let breaks : Breaks (stop_at size limit es c) e rule (reason_at rule (stop_at size limit es c) e) =
      record { earlier = earlier; later = later; ordered = o; kept = k; broken = b; found = found_there rule (stop_at size limit es c) e; numbers = broken_by (stop_at size limit es c) e rule b; allows = allowed_by (stop_at size limit es c) e rule b } in
      rw (reason_of rule (stop_at size limit es c) e) (stops_here breaks)

  kept_all : {number : ℕ} → Found (stop_at size limit es c) e in_order number → number ≡ 0 → Keeps (stop_at size limit es c) e in_order
  kept_all (all_kept k) h = k
  kept_all (broke rule earlier later o k b) h = let n = numbered rule in absurd (omega arith)

  found : Found (stop_at size limit es c) e in_order (entry_fault size limit (is_last es) c (meaning_of e.flag) e.count)
  found = rw (in_order_lem (stop_at size limit es c) (meaning_of e.flag) e.count) (found_in (stop_at size limit es c) e in_order)

-- Entry k of n is the last just where none is behind it.
last_is : (group : List ℕ) (top left place n : ℕ) → place + left ≡ n → is_last (entries_below group top left) ≡ eqb place n
unfolding entries_below
last_is group top zero place n e = sym (eq-eqb place n (omega arith))
last_is group top (suc left) place n e = sym (ne_eqb place n (λ f. omega arith))

-- One turn: the scan goes on behind an entry that keeps every rule, or stops there.
turn : (group : List ℕ) (size n place : ℕ) (es : List Entry) (c : Cursor) (x : Entry) → is_last es ≡ eqb place n → x ≡ entry_at group (entry_offset size place) →
    (fault k : ℕ) (d : Cursor) →
    (scan size (entry_offset size n) es (suc place) (after c (meaning_of x.flag) x.count) ≡ scanned.Refused fault k d →
    Stops size (entry_offset size n) es (suc place) (after c (meaning_of x.flag) x.count) (scan_explained size n group (scanned.Refused fault k d))) →
    scan size (entry_offset size n) (x ∷ es) place c ≡ scanned.Refused fault k d →
    Stops size (entry_offset size n) (x ∷ es) place c (scan_explained size n group (scanned.Refused fault k d))
unfolding scan
turn group size n place es c x last is fault k d rest e = by (eqb f 0) refl e
  where
    limit : ℕ
    limit = entry_offset size n

    f : ℕ
    f = entry_fault size limit (is_last es) c (meaning_of x.flag) x.count

    told : Explanation
    told = explanation f place (entry_offset size place) (entry_reason f (stop_at size limit es c) x)

    by : (b : Bool) → eqb f 0 ≡ b → cond b (scan size limit es (suc place) (after c (meaning_of x.flag) x.count)) (scanned.Refused f place c) ≡ scanned.Refused fault k d →
        Stops size limit (x ∷ es) place c (scan_explained size n group (scanned.Refused fault k d))
    by true z h = stops_later (kept_all es place c x (found es place c x) (eqb-true f 0 z)) (rest h)
    by false z h =
        let stands : Stops size limit (x ∷ es) place c told = here es place c x (found es place c x) (eqb-false f 0 z) in
        let same : told ≡ scan_explained size n group (scanned.Refused f place c) = rw (last, is) in
        subst (Stops size limit (x ∷ es) place c) (same ∙ ap (scan_explained size n group) h) stands

-- The entry below the top is entry k, and the next top is where it begins.
below : (size place top : ℕ) → 1 ≤ place → top ≡ size - 32 - 4 * (place - 1) → top - 4 ≡ entry_offset size place
below size place top one t = omega arith

again : (size place top : ℕ) → top - 4 ≡ entry_offset size place → top - 4 ≡ size - 32 - 4 * (suc place - 1)
again size place top e = let f : suc place - 1 ≡ place = omega arith in rw f e

-- A scan of no entries is not refused.
no_entry : (size limit place : ℕ) (c : Cursor) {fault k : ℕ} {d : Cursor} → scan size limit [] place c ≡ scanned.Refused fault k d → ⊥
unfolding scan
no_entry size limit place c e = let z : ◌≡◌ {A = ℕ} 0 1 = cc in absurd (omega arith)

-- The scan of entries k to n.
pub stops_scan : (group : List ℕ) (size n left top place : ℕ) (c : Cursor) → place + left ≡ suc n → 1 ≤ place → top ≡ size - 32 - 4 * (place - 1) →
    (fault k : ℕ) (d : Cursor) → scan size (entry_offset size n) (entries_below group top left) place c ≡ scanned.Refused fault k d →
    Stops size (entry_offset size n) (entries_below group top left) place c (scan_explained size n group (scanned.Refused fault k d))
unfolding entries_below
stops_scan group size n zero top place c p one t fault k d e = absurd (no_entry size (entry_offset size n) place c e)
stops_scan group size n (suc left) top place c p one t fault k d e =
    let at = below size place top one t in
    turn group size n place (entries_below group (top - 4) left) c (entry_at group (top - 4)) (last_is group (top - 4) left place n (omega arith)) (ap (entry_at group) at) fault k d
    (stops_scan group size n left (top - 4) (suc place) (after c (meaning_of (entry_at group (top - 4)).flag) (entry_at group (top - 4)).count) (omega arith) (omega arith) (again size place top at) fault k d) e
