-- What each call lays in its group, and what it leaves, step by step over a desk in the midst of a call.
-- Assumes nothing.
use Prim.Native.Nat.{ℕ, suc, ◌+◌, ◌-◌, ◌≤◌, ◌<◌}
use native.Mathlib.Omega.{arith}
use mathlib.Core.List.{List, [], ◌∷◌, ◌++◌, append_assoc, append-nil}
use mathlib.Core.Bool.{Bool, ◌||◌}
use mathlib.Core.Path.{◌≡◌, refl, sym, ap, ◌∙◌, subst}
use lib.ListN.{length, take, drop, get_or, set, replicate, length-replicate, length-append}
use lib.Seq.{sets, get_or-set_other, length-take-le, drop_at, take_at, take-length}
use Rattle.group.specs.declared.Kind.{Kind}
use Rattle.group.specs.declared.Kind.TheVariants as kind
use Rattle.group.specs.declared.Entry.{Entry}
use Rattle.group.specs.declared.Phase.{Phase}
use Rattle.group.specs.declared.Phase.TheVariants.{Free, Inside, Owed}
use Rattle.group.specs.Sizes.{entry_offset}
use Rattle.numbers.specs.Store.{put}
use Rattle.group.specs.Flags.{flag_of, b4_of}
use Rattle.group.specs.Entries.{entry, entry_bytes, table_bytes}
use Rattle.numbers.proofs.Stores.{length_put, put_split, take_put, drop_put}
use Rattle.group.proofs.EntryLaws.{length_entry}
use Rattle.group.proofs.FlagLaws.{b4_of_flag}
use Rattle.laying.specs.declared.Writer.{Writer}
use Rattle.sound.specs.State.{is_free}
use Rattle.laying.specs.Laying.{Desk, desk, lay_entry, lay_data, lay_part, moved, lay_skip, zero_gap, shut, warn_state, pay_owed, ready}
use Rattle.writer.specs.Calls.{Call, Done, call, finished, closed, record_accepted, record_call, separator_call, end_accepted, end_call}
use Rattle.writer.specs.Calls.Call.{a_record, a_separator, an_end}
use Rattle.laying.specs.Bounds.{span}
use Rattle.sound.proofs.Accepted.{Accepted, Offered, Ended, fits, record_accepted_lem, separator_accepted_lem, end_accepted_lem}
use Rattle.writer.proofs.CallLaws.{RecordedFree, recorded_free, RecordedInside, recorded_inside, SeparatorLaid, separator_laid, EndLaid, end_laid}
use Rattle.layout.specs.Items.{Each}
use Rattle.layout.specs.Items.Each.{each_none, each_more}
use Rattle.twice.proofs.Paid.{Bare, bare, guarded}
use Rattle.twice.specs.Filled.{warn_of}
use Rattle.twice.specs.Laid.{offer_of, LaidIn, b4_after, LaidBy}

each_snoc : {P : Entry → Type 0} (es : List Entry) (e : Entry) → Each P es → P e → Each P (es ++ (e ∷ []))
each_snoc [] e each_none p = each_more p each_none
each_snoc (x ∷ es) e (each_more q r) p = each_more q (each_snoc es e r p)

table_snoc : (es : List Entry) (e : Entry) → table_bytes (es ++ (e ∷ [])) ≡ entry_bytes e ++ table_bytes es
unfolding table_bytes
table_snoc [] e = rw append-nil
table_snoc (x ∷ es) e = rw (table_snoc es e, append_assoc)

length_one_more : (es : List Entry) (e : Entry) → length (es ++ (e ∷ [])) ≡ length es + 1
length_one_more es e = length-append es (e ∷ [])

-- What stands from a store on.
from_put : (g : List ℕ) (at : ℕ) (x : List ℕ) → at + length x ≤ length g → drop at (put g at x) ≡ x ++ drop (at + length x) g
from_put g at x h =
    let pre : length (take at g) ≡ at = length-take-le at g (omega arith) in
    rw (put_split g at x h, append_assoc) (drop_at (take at g) (x ++ drop (at + length x) g) at pre)

to_put : (g : List ℕ) (at : ℕ) (x : List ℕ) → at + length x ≤ length g → take (at + length x) (put g at x) ≡ take at g ++ x
to_put g at x h =
    let pre : length (take at g) ≡ at = length-take-le at g (omega arith) in
    rw (put_split g at x h) (take_at (take at g ++ x) (drop (at + length x) g) (at + length x) (length-append (take at g) x ∙ omega arith))

-- A number below a store, and one above it.
below_sets : (new old : List ℕ) (at i : ℕ) → i < at → get_or (sets old at new) i 0 ≡ get_or old i 0
below_sets [] old at i h = refl
below_sets (x ∷ new) old at i h = below_sets new (set old at x) (suc at) i (omega arith) ∙ get_or-set_other old at i x 0 (λ e. absurd (omega arith))

above_sets : (new old : List ℕ) (at i : ℕ) → at + length new ≤ i → get_or (sets old at new) i 0 ≡ get_or old i 0
above_sets [] old at i h = refl
above_sets (x ∷ new) old at i h = above_sets new (set old at x) (suc at) i (omega arith) ∙ get_or-set_other old at i x 0 (λ e. absurd (omega arith))

below_put : (new old : List ℕ) (at i : ℕ) → i < at → get_or (put old at new) i 0 ≡ get_or old i 0
unfolding put
below_put new old at i h = below_sets new old at i h

above_put : (new old : List ℕ) (at i : ℕ) → at + length new ≤ i → get_or (put old at new) i 0 ≡ get_or old i 0
unfolding put
above_put new old at i h = above_sets new old at i h

-- A desk in the midst of a call, by its numbers and its buffer.
record Mid (c : Call) (w : Desk) (size filled entries : ℕ) (b4 : Bool) (group : List ℕ) : Type 0 where
  new : List Entry
  bytes : List ℕ
  sized : size ≡ w.state.size
  mark : b4 ≡ (warn_of c || w.state.warned)
  long : length group ≡ size
  holds : filled ≡ w.state.filled + length bytes
  counted : entries ≡ w.state.entries + length new
  marked : Each (λ (e : Entry). b4_of e.flag ≡ (warn_of c || w.state.warned)) new
  table : drop (entry_offset size entries) group ≡ table_bytes new ++ drop (entry_offset w.state.size w.state.entries) w.group
  offered : bytes ≡ take (length bytes) (offer_of c)
  behind : take filled group ≡ take w.state.filled w.group ++ bytes
  between : (i : ℕ) → filled ≤ i → i < entry_offset size entries → get_or group i 0 ≡ get_or w.group i 0

abbrev On : Call → Desk → Desk → Type 0
On c w v = Mid c w v.state.size v.state.filled v.state.entries v.state.warned v.group

mid_entry : {c : Call} {w : Desk} {size filled entries : ℕ} {b4 : Bool} {group : List ℕ} (k : Kind) (count : ℕ) → span filled (entries + 1) ≤ size → Mid c w size filled entries b4 group →
    Mid c w size filled (entries + 1) b4 (put group (entry_offset size (entries + 1)) (entry_bytes (entry (flag_of k b4) count)))
mid_entry {c} {w} {size} {filled} {entries} {b4} {group} k count room m = by (entry_bytes (entry (flag_of k b4) count)) refl
  where
    e : Entry
    e = entry (flag_of k b4) count

    by : (x : List ℕ) → x ≡ entry_bytes e → Mid c w size filled (entries + 1) b4 (put group (entry_offset size (entries + 1)) x)
    by x is =
        let four : length x ≡ 4 = ap length is ∙ length_entry e in
        let long = m.long in
        let at = entry_offset size (entries + 1) in
        let up : entry_offset size (entries + 1) + length x ≡ entry_offset size entries = omega arith in
        let more : drop at (put group at x) ≡ x ++ drop (entry_offset size entries) group = from_put group at x (omega arith) ∙ ap (λ (n : ℕ). x ++ drop n group) up in
        record {
          new = m.new ++ (e ∷ []);
          bytes = m.bytes;
          sized = m.sized;
          mark = m.mark;
          long = length_put _ _ _ ∙ m.long;
          holds = m.holds;
          counted = rw (length_one_more m.new e) (omega (arith, m.counted));
          marked = each_snoc m.new e m.marked (b4_of_flag k b4 ∙ m.mark);
          table =
              more ∙ ap (λ (l : List ℕ). x ++ l) m.table ∙ sym (append_assoc x (table_bytes m.new) _)
              ∙ ap (λ (l : List ℕ). l ++ drop (entry_offset w.state.size w.state.entries) w.group) (ap (λ (y : List ℕ). y ++ table_bytes m.new) is ∙ sym (table_snoc m.new e));
          offered = m.offered;
          behind = take_put filled group at x (omega arith) ∙ m.behind;
          between = λ i low high. below_put x group at i high ∙ m.between i low (omega arith);
        }

-- Data, where none of this call's stood.
mid_data : {c : Call} {w : Desk} {size filled entries : ℕ} {b4 : Bool} {group : List ℕ} (bytes : List ℕ) → span (filled + length bytes) entries ≤ size → (m : Mid c w size filled entries b4 group) → m.bytes ≡ [] → bytes ≡ take (length bytes) (offer_of c) →
    Mid c w size (filled + length bytes) entries b4 (put group filled bytes)
mid_data {c} {w} {size} {filled} {entries} {b4} {group} bytes room m none off =
    let long = m.long in
    let nothing : length m.bytes ≡ 0 = ap length none in
    record {
      new = m.new;
      bytes = bytes;
      sized = m.sized;
      mark = m.mark;
      long = length_put _ _ _ ∙ m.long;
      holds = omega (arith, m.holds);
      counted = m.counted;
      marked = m.marked;
      table = drop_put (entry_offset size entries) group filled bytes (omega arith) ∙ m.table;
      offered = off;
      behind = to_put group filled bytes (omega arith) ∙ ap (λ (l : List ℕ). l ++ bytes) (m.behind ∙ ap (λ (l : List ℕ). take w.state.filled w.group ++ l) none ∙ append-nil (take w.state.filled w.group));
      between = λ i low high. above_put bytes group filled i low ∙ m.between i (omega arith) high;
    }

-- What it comes to.
laid_in : {c : Call} {w : Desk} {size filled entries : ℕ} {b4 : Bool} {group : List ℕ} → Mid c w size filled entries b4 group → LaidIn c w entries group
laid_in {w} {entries} {group} m =
    record {
      new = m.new;
      bytes = m.bytes;
      counted = m.counted;
      marked = m.marked;
      table = ap (λ (n : ℕ). drop (entry_offset n entries) group) (sym m.sized) ∙ m.table;
      offered = m.offered;
      behind = ap (λ (n : ℕ). take n group) (sym m.holds) ∙ m.behind;
    }

-- .. with zeros between data and table.
laid_zeros : {c : Call} {w : Desk} {size filled entries : ℕ} {b4 : Bool} {group : List ℕ} → span filled entries ≤ size → Mid c w size filled entries b4 group →
    LaidIn c w entries (put group filled (replicate (entry_offset size entries - filled) 0))
laid_zeros {c} {w} {size} {filled} {entries} {b4} {group} room m =
    let z : length (replicate {A = ℕ} (entry_offset size entries - filled) 0) ≡ entry_offset size entries - filled = length-replicate (entry_offset size entries - filled) 0 in
    record {
      new = m.new;
      bytes = m.bytes;
      counted = m.counted;
      marked = m.marked;
      table =
          ap (λ (n : ℕ). drop (entry_offset n entries) (put group filled (replicate (entry_offset size entries - filled) 0))) (sym m.sized)
          ∙ drop_put (entry_offset size entries) group filled (replicate (entry_offset size entries - filled) 0) (omega arith) ∙ m.table;
      offered = m.offered;
      behind =
          ap (λ (n : ℕ). take n (put group filled (replicate (entry_offset size entries - filled) 0))) (sym m.holds)
          ∙ take_put filled group filled (replicate (entry_offset size entries - filled) 0) (omega arith) ∙ m.behind;
    }

laid_shut : {c : Call} (w : Desk) (taken : ℕ) (v : Desk) → span v.state.filled (v.state.entries + 1) ≤ v.state.size → v.state.next ≡ w.state.next → (m : On c w v) → taken ≡ length m.bytes →
    LaidBy c w (closed taken v).answer (closed taken v).group
unfolding closed shut zero_gap lay_skip lay_entry laid_zeros mid_entry
laid_shut w taken v room n m t =
    record {
      laid = laid_zeros (omega arith) (mid_entry kind.Skip (v.state.size - v.state.filled) room m);
      took = t;
      closes = n;
      next = refl;
      filled = refl;
      none = refl;
      b4 = m.mark;
    }

laid_done : {c : Call} (w v : Desk) → b4_after c w.state.warned ≡ (warn_of c || w.state.warned) → (m : On c w v) → m.bytes ≡ offer_of c → LaidBy c w (finished v).answer (finished v).group
unfolding finished laid_in
laid_done {c} w v e m whole =
    record {
      laid = laid_in m;
      whole = whole;
      holds = m.holds;
      between = λ i low high. m.between i low (subst (λ (n : ℕ). i < entry_offset n v.state.entries) (sym m.sized) high);
      b4 = m.mark ∙ sym e;
    }

-- A desk with none of this call's bytes yet, and room for an entry.
record Fresh (c : Call) (w v : Desk) : Type 0 where
  mid : On c w v
  none : mid.bytes ≡ []
  room : span v.state.filled (v.state.entries + 1) ≤ v.state.size
  next : v.state.next ≡ w.state.next

mid_start : (c : Call) (s : Writer) (g : List ℕ) → length g ≡ s.size → Mid c (desk s g) s.size s.filled s.entries (warn_of c || s.warned) g
unfolding table_bytes
mid_start c s g long =
    record {
      new = [];
      bytes = [];
      sized = refl;
      mark = refl;
      long = long;
      holds = omega arith;
      counted = omega arith;
      marked = each_none;
      table = refl;
      offered = refl;
      behind = sym (append-nil (take s.filled g));
      between = λ i low high. refl;
    }

fresh_ready : (c : Call) (s : Writer) (g : List ℕ) (p : Phase) → s.phase ≡ p → Accepted s g → Fresh c (desk s g) (pay_owed p (desk (warn_state (warn_of c) s) g))
unfolding pay_owed moved lay_entry warn_state mid_start mid_entry
fresh_ready c s g Free e a = record { mid = mid_start c s g a.long; none = refl; room = fits s a.sound; next = refl }
fresh_ready c s g Inside e a = record { mid = mid_start c s g a.long; none = refl; room = fits s a.sound; next = refl }
fresh_ready c s g Owed e a =
    let empty = a.sound.empty (ap is_free e) in
    let least = a.sound.run.least in
    record { mid = mid_entry kind.Total s.sum (fits s a.sound) (mid_start c s g a.long); none = refl; room = omega (arith, empty.0, empty.1); next = refl }

-- Data and its entry.
mid_part : {c : Call} {w : Desk} (k : Kind) (bytes : List ℕ) (p : Phase) (sum rest : ℕ) (v : Desk) → span (v.state.filled + length bytes) (v.state.entries + 1) ≤ v.state.size →
    (f : Fresh c w v) → bytes ≡ take (length bytes) (offer_of c) → On c w (moved p sum rest (lay_part k bytes v))
unfolding moved lay_part lay_data lay_entry
mid_part k bytes p sum rest v room f off = mid_entry k (length bytes) room (mid_data bytes (omega arith) f.mid f.none off)

roomy : (k : Kind) (bytes : List ℕ) (p : Phase) (sum rest : ℕ) (v : Desk) → span (v.state.filled + length bytes) (v.state.entries + 2) ≤ v.state.size →
    let o = moved p sum rest (lay_part k bytes v) in span o.state.filled (o.state.entries + 1) ≤ o.state.size
unfolding moved lay_part lay_data lay_entry
roomy k bytes p sum rest v h = omega arith

first_of : (r : ℕ) (bytes : List ℕ) → r ≤ length bytes → take r bytes ≡ take (length (take r bytes)) bytes
first_of r bytes h = ap (λ (n : ℕ). take n bytes) (sym (length-take-le r bytes h))

whole : (bytes : List ℕ) → bytes ≡ take (length bytes) bytes
whole bytes = sym (take-length bytes)

free_laid : (bytes : List ℕ) (warn : Bool) (w v : Desk) {d : Done} → Fresh (a_record bytes warn) w v → RecordedFree bytes v d → LaidBy (a_record bytes warn) w d.answer d.group
unfolding lay_part lay_data lay_entry moved mid_part mid_entry mid_data
free_laid bytes warn w v f (RecordedFree.entire k) = laid_done w (lay_part kind.Entire bytes v) refl (mid_part kind.Entire bytes v.state.phase v.state.sum v.state.rest v (omega arith) f (whole bytes)) refl
free_laid bytes warn w v f (RecordedFree.start r low less k) =
    let l : length (take r bytes) ≡ r = length-take-le r bytes (omega arith) in
    let o = moved Inside r (length bytes - r) (lay_part kind.Start (take r bytes) v) in
    laid_shut w r o (roomy kind.Start (take r bytes) Inside r (length bytes - r) v (omega arith)) f.next (mid_part kind.Start (take r bytes) Inside r (length bytes - r) v (omega arith) f (first_of r bytes (omega arith))) (sym l)
free_laid bytes warn w v f (RecordedFree.nothing k) = laid_shut w 0 v f.room f.next f.mid (sym (ap length f.none))

mid_total : {c : Call} {w : Desk} (count : ℕ) (v : Desk) (bytes : List ℕ) → span (v.state.filled + length bytes) (v.state.entries + 2) ≤ v.state.size →
    On c w (moved v.state.phase v.state.sum v.state.rest (lay_part kind.Last bytes v)) → On c w (moved Free 0 0 (lay_entry kind.Total count (lay_part kind.Last bytes v)))
unfolding moved lay_part lay_data lay_entry
mid_total count v bytes room m = mid_entry kind.Total count (omega arith) m

nothing_laid : (warn : Bool) (s : Writer) (g : List ℕ) → LaidBy (an_end warn) (desk s g) (finished (desk s g)).answer (finished (desk s g)).group
unfolding finished table_bytes
nothing_laid warn s g =
    record {
      laid =
          record {
            new = [];
            bytes = [];
            counted = omega arith;
            marked = each_none;
            table = refl;
            offered = refl;
            behind = ap (λ (n : ℕ). take n g) none ∙ sym (append-nil (take s.filled g));
          };
      whole = refl;
      holds = sym none;
      between = λ i low high. refl;
      b4 = refl;
    }
  where
    none : s.filled + 0 ≡ s.filled
    none = omega arith

inside_laid : (bytes : List ℕ) (warn : Bool) (w v : Desk) {d : Done} → Fresh (a_record bytes warn) w v → Bare v.state →
    RecordedInside bytes v d → LaidBy (a_record bytes warn) w d.answer d.group
unfolding lay_part lay_data lay_entry moved mid_part mid_entry mid_data mid_total
inside_laid bytes warn w v f none (RecordedInside.part n e less) =
    let filled = none.filled in
    let entries = none.entries in
    let least = none.least in
    let l : length (take n bytes) ≡ n = length-take-le n bytes (omega arith) in
    laid_shut w n (moved Inside (v.state.sum + n) (length bytes - n) (lay_part kind.Middle (take n bytes) v))
    (roomy kind.Middle (take n bytes) Inside (v.state.sum + n) (length bytes - n) v (omega arith))
    f.next
    (mid_part kind.Middle (take n bytes) Inside (v.state.sum + n) (length bytes - n) v (omega arith) f (first_of n bytes (omega arith))) (sym l)
inside_laid bytes warn w v f none (RecordedInside.total h) =
    let filled = none.filled in
    let entries = none.entries in
    let least = none.least in
    laid_done w _ refl (mid_total (v.state.sum + length bytes) v bytes (omega arith) (mid_part kind.Last bytes v.state.phase v.state.sum v.state.rest v (omega arith) f (whole bytes))) refl
inside_laid bytes warn w v f none (RecordedInside.owed h k) =
    let filled = none.filled in
    let entries = none.entries in
    let least = none.least in
    laid_shut w (length bytes) (moved Owed (v.state.sum + length bytes) 0 (lay_part kind.Last bytes v))
    (roomy kind.Last bytes Owed (v.state.sum + length bytes) 0 v (omega arith))
    f.next
    (mid_part kind.Last bytes Owed (v.state.sum + length bytes) 0 v (omega arith) f (whole bytes)) refl

separator_laid_so : (value : ℕ) (warn : Bool) (w v : Desk) {d : Done} → Fresh (a_separator value warn) w v → SeparatorLaid value v d → LaidBy (a_separator value warn) w d.answer d.group
unfolding lay_entry mid_entry
separator_laid_so value warn w v f (SeparatorLaid.laid h) = laid_done w (lay_entry kind.Separator value v) refl (mid_entry kind.Separator value f.room f.mid) f.none
separator_laid_so value warn w v f (SeparatorLaid.not_laid h) = laid_shut w 0 v f.room f.next f.mid (sym (ap length f.none))

record_lays : (bytes : List ℕ) (warn : Bool) (s : Writer) (g : List ℕ) → Offered s g (length bytes) →
    LaidBy (a_record bytes warn) (desk s g) (record_accepted s.phase bytes (ready warn (desk s g))).answer (record_accepted s.phase bytes (ready warn (desk s g))).group
unfolding record_accepted ready
record_lays bytes warn s g o = by s.phase refl
  where
    by : (p : Phase) → s.phase ≡ p → LaidBy (a_record bytes warn) (desk s g) (record_accepted p bytes (pay_owed p (desk (warn_state warn s) g))).answer (record_accepted p bytes (pay_owed p (desk (warn_state warn s) g))).group
    by Free e = free_laid bytes warn (desk s g) _ (fresh_ready (a_record bytes warn) s g Free e o.accepted) (recorded_free bytes _)
    by Inside e =
        inside_laid bytes warn (desk s g) _ (fresh_ready (a_record bytes warn) s g Inside e o.accepted) (bare s g warn o.accepted.sound e) (recorded_inside bytes _)
    by Owed e = free_laid bytes warn (desk s g) _ (fresh_ready (a_record bytes warn) s g Owed e o.accepted) (recorded_free bytes _)

end_lays : (warn : Bool) (s : Writer) (g : List ℕ) → Ended s g → LaidBy (an_end warn) (desk s g) (end_accepted warn (desk s g)).answer (end_accepted warn (desk s g)).group
unfolding ready
end_lays warn s g o = by (end_laid warn (desk s g))
  where
    by : {d : Done} → EndLaid warn (desk s g) d → LaidBy (an_end warn) (desk s g) d.answer d.group
    by (EndLaid.ends_nothing e) = nothing_laid warn s g
    by (EndLaid.ends_group e) =
        let f = fresh_ready (an_end warn) s g s.phase refl (record { sound = o.sound; long = o.long; next = o.next e }) in
        laid_shut (desk s g) 0 (pay_owed s.phase (desk (warn_state warn s) g)) f.room f.next f.mid (sym (ap length f.none))

-- Every call.
pub lays : (c : Call) (w : Desk) → LaidBy c w (call c w).answer (call c w).group
unfolding call record_call separator_call end_call ready
lays (a_record bytes warn) w = guarded (λ (d : Done). LaidBy (a_record bytes warn) w d.answer d.group) _ w _ tt (λ e. record_lays bytes warn w.state w.group (record_accepted_lem w.state w.group (length bytes) e))
lays (a_separator value warn) w =
    guarded (λ (d : Done). LaidBy (a_separator value warn) w d.answer d.group) _ w _ tt
    (λ e. separator_laid_so value warn w _ (fresh_ready (a_separator value warn) w.state w.group w.state.phase refl (separator_accepted_lem w.state w.group value e).accepted) (separator_laid value _))
lays (an_end warn) w = guarded (λ (d : Done). LaidBy (an_end warn) w d.answer d.group) _ w _ tt (λ e. end_lays warn w.state w.group (end_accepted_lem w.state w.group e))
