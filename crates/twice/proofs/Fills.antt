-- How full a group is that a call closes, call by call.
-- Assumes nothing.
use Prim.Native.Nat.{ℕ, zero, suc, ◌+◌, ◌-◌, ◌≤◌, ◌<◌}
use native.Mathlib.Omega.{arith}
use mathlib.Core.List.{List, ◌++◌}
use mathlib.Core.Bool.{Bool, true, false, cond, ◌||◌, true≢false}
use mathlib.Core.Path.{◌≡◌, refl, sym, ap, ◌∙◌, subst}
use lib.ListN.{length, take, drop, replicate, length-drop}
use lib.Seq.{length-take-le}
use Rattle.group.specs.declared.Kind.{Kind}
use Rattle.group.specs.declared.Kind.TheVariants as kind
use Rattle.group.specs.declared.Phase.{Phase}
use Rattle.group.specs.declared.Phase.TheVariants.{Free, Inside, Owed}
use Rattle.group.specs.Sizes.{entry_offset}
use Rattle.group.specs.Flags.{flag_of}
use Rattle.group.specs.Entries.{entry, entry_bytes}
use Rattle.numbers.proofs.Stores.{length_put}
use Rattle.laying.specs.declared.Writer.{Writer}
use Rattle.sound.specs.State.{is_free, is_inside, ends_empty}
use Rattle.laying.specs.Laying.{Desk, desk, lay_entry, lay_data, lay_part, moved, lay_skip, zero_gap, shut, warn_state, pay_owed, ready}
use Rattle.writer.specs.Calls.{Call, Done, call, finished, closed, record_accepted, record_call, separator_accepted, separator_call, end_accepted, end_call}
use Rattle.writer.specs.Calls.Call.{a_record, a_separator, an_end}
use Rattle.laying.specs.Bounds.{span}
use Rattle.laying.proofs.Closing.{shut_stands}
use Rattle.sound.proofs.SoundLaws.{Sound}
use Rattle.sound.proofs.Accepted.{Accepted, Offered, Separated, Ended, fits, record_accepted_lem, separator_accepted_lem, end_accepted_lem}
use Rattle.writer.proofs.CallLaws.{RecordedFree, recorded_free, RecordedInside, recorded_inside, SeparatorLaid, separator_laid}
use Rattle.twice.proofs.Paid.{paid_free, Bare, bare, guarded}
use Rattle.twice.specs.Filled.{warn_of, GapAfter, Filled, FilledBy}

-- A desk in the midst of a call: its size and b4, its data, its buffer's length, room for the skip.
record Here (c : Call) (s : Writer) (taken : ℕ) (v : Desk) : Type 0 where
  holds : v.state.filled ≡ s.filled + taken
  sized : v.state.size ≡ s.size
  b4 : v.state.warned ≡ (warn_of c || s.warned)
  long : length v.group ≡ s.size
  fits : span v.state.filled (v.state.entries + 1) ≤ s.size

-- The bytes of a closed group, by numbers alone.
filled_by : (c : Call) (size f holds entries : ℕ) (b4 : Bool) (after : Phase) (h : List ℕ) → f ≡ holds → length h ≡ size → span f (entries + 1) ≤ size → 1 ≤ entries →
    GapAfter after c (size - span f (entries + 1)) →
    Filled c size holds b4 after (entries + 1)
    (take f h ++ (replicate (size - span f (entries + 1)) 0 ++ (entry_bytes (entry (flag_of kind.Skip (warn_of c || b4)) (size - f)) ++ drop (entry_offset size entries) h)))
filled_by c size f holds entries b4 after h data_bytes long room some left =
    let front : length (take f h) ≡ f = length-take-le f h (omega arith) in
    let rest : length (drop (entry_offset size entries) h) ≡ size - entry_offset size entries = length-drop (entry_offset size entries) h ∙ omega arith in
    record {
      front = take f h;
      gap = size - span f (entries + 1);
      behind = drop (entry_offset size entries) h;
      stands =
          ap (λ (n : ℕ). take f h ++ (replicate (size - span f (entries + 1)) 0 ++ (entry_bytes (entry (flag_of kind.Skip (warn_of c || b4)) (size - n)) ++ drop (entry_offset size entries) h)))
          (sym front);
      data_bytes = front ∙ data_bytes;
      long = omega arith;
      table = omega arith;
      some = omega arith;
      left = left;
    }

-- What a close of it leaves.
shut_filled : {c : Call} {s : Writer} {taken : ℕ} (v : Desk) → Here c s taken v → 1 ≤ v.state.entries →
    GapAfter v.state.phase c (s.size - span v.state.filled (v.state.entries + 1)) →
    Filled c s.size (s.filled + taken) s.warned v.state.phase (v.state.entries + 1) (shut v).group
shut_filled {c} {s} {taken} v h some left =
    rw (shut_stands v (h.long ∙ sym h.sized) (omega (arith, h.fits, h.sized)), h.sized, h.b4)
    (filled_by c s.size v.state.filled (s.filled + taken) v.state.entries s.warned v.state.phase v.group h.holds h.long h.fits some left)

closed_filled : {c : Call} {s : Writer} (g : List ℕ) (taken : ℕ) (v : Desk) → Here c s taken v → 1 ≤ v.state.entries →
    GapAfter v.state.phase c (s.size - span v.state.filled (v.state.entries + 1)) → FilledBy c (desk s g) (closed taken v).answer (closed taken v).group
unfolding closed shut zero_gap lay_skip lay_entry
closed_filled g taken v h some left = shut_filled v h some left

-- The steps before it.
here_ready : (c : Call) (s : Writer) (g : List ℕ) (p : Phase) → s.phase ≡ p → Accepted s g → Here c s 0 (pay_owed p (desk (warn_state (warn_of c) s) g))
unfolding pay_owed moved lay_entry warn_state
here_ready c s g Free e a = record { holds = omega arith; sized = refl; b4 = refl; long = a.long; fits = fits s a.sound }
here_ready c s g Inside e a = record { holds = omega arith; sized = refl; b4 = refl; long = a.long; fits = fits s a.sound }
here_ready c s g Owed e a =
    let none = a.sound.empty (ap is_free e) in
    let least = a.sound.run.least in
    record { holds = omega arith; sized = refl; b4 = refl; long = length_put _ _ _ ∙ a.long; fits = omega (arith, none.0, none.1) }

here_part : {c : Call} {s : Writer} {taken : ℕ} (k : Kind) (bytes : List ℕ) (p : Phase) (sum rest : ℕ) (v : Desk) → span (v.state.filled + length bytes) (v.state.entries + 2) ≤ s.size → length bytes ≡ taken → Here c s 0 v → Here c s taken (moved p sum rest (lay_part k bytes v))
unfolding moved lay_part lay_data lay_entry
here_part k bytes p sum rest v room all h = record { holds = omega (arith, h.holds); sized = h.sized; b4 = h.b4; long = length_put _ _ _ ∙ length_put _ _ _ ∙ h.long; fits = omega arith }

-- The numbers where nothing is laid yet: no data without an entry.
none_held : (d n : ℕ) → (0 < d → 0 < n) → n ≡ 0 → d ≡ 0
none_held zero n h e = refl
none_held (suc d) n h e = absurd (let k : 0 < n = h (omega arith) in omega arith)

-- No room for an item: an entry stands.
entry_stands : (s : Writer) (g : List ℕ) (b : Bool) (p : Phase) → s.phase ≡ p → Sound s → let v = pay_owed p (desk (warn_state b s) g) in s.size ≤ span v.state.filled (v.state.entries + 2) → 1 ≤ v.state.entries
unfolding pay_owed moved lay_entry warn_state
entry_stands s g b Free e t h = by s.entries refl
  where
    by : (n : ℕ) → s.entries ≡ n → 1 ≤ s.entries
    by zero z = absurd (omega (arith, none_held s.filled s.entries t.held z, t.run.least, z))
    by (suc n) z = omega arith
entry_stands s g b Inside e t h = absurd (let none = t.empty (ap is_free e) in omega (arith, none.0, none.1, t.run.least))
entry_stands s g b Owed e t h = omega arith

free_filled : (bytes : List ℕ) (warn : Bool) (s : Writer) (g : List ℕ) (v : Desk) {d : Done} → Here (a_record bytes warn) s 0 v → v.state.phase ≡ Free →
    (s.size ≤ span v.state.filled (v.state.entries + 2) → 1 ≤ v.state.entries) → RecordedFree bytes v d → FilledBy (a_record bytes warn) (desk s g) d.answer d.group
unfolding finished moved lay_part lay_data lay_entry
free_filled bytes warn s g v h p some (RecordedFree.entire k) = tt
free_filled bytes warn s g v h p some (RecordedFree.start r low less k) =
    let l : length (take r bytes) ≡ r = length-take-le r bytes (omega arith) in
    let sized = h.sized in
    closed_filled g r (moved Inside r (length bytes - r) (lay_part kind.Start (take r bytes) v)) (here_part kind.Start (take r bytes) Inside r (length bytes - r) v (omega arith) l h) (omega arith) (omega arith)
free_filled bytes warn s g v h p some (RecordedFree.nothing k) =
    let sized = h.sized in
    closed_filled g 0 v h (some (omega arith)) (subst (λ (q : Phase). GapAfter q (a_record bytes warn) (s.size - span v.state.filled (v.state.entries + 1))) (sym p) (omega arith))

inside_filled : (bytes : List ℕ) (warn : Bool) (s : Writer) (g : List ℕ) (v : Desk) {d : Done} → Here (a_record bytes warn) s 0 v → Bare v.state →
    RecordedInside bytes v d → FilledBy (a_record bytes warn) (desk s g) d.answer d.group
unfolding finished moved lay_part lay_data lay_entry
inside_filled bytes warn s g v h none (RecordedInside.part n e less) =
    let l : length (take n bytes) ≡ n = length-take-le n bytes (omega arith) in
    let sized = h.sized in
    let filled = none.filled in
    let entries = none.entries in
    let least = none.least in
    closed_filled g n (moved Inside (v.state.sum + n) (length bytes - n) (lay_part kind.Middle (take n bytes) v)) (here_part kind.Middle (take n bytes) Inside (v.state.sum + n) (length bytes - n) v (omega arith) l h) (omega arith) (omega arith)
inside_filled bytes warn s g v h none (RecordedInside.total k) = tt
inside_filled bytes warn s g v h none (RecordedInside.owed k m) =
    let sized = h.sized in
    let filled = none.filled in
    let entries = none.entries in
    let least = none.least in
    closed_filled g (length bytes) (moved Owed (v.state.sum + length bytes) 0 (lay_part kind.Last bytes v)) (here_part kind.Last bytes Owed (v.state.sum + length bytes) 0 v (omega arith) refl h) (omega arith) (omega arith)

separator_filled : (value : ℕ) (warn : Bool) (s : Writer) (g : List ℕ) (v : Desk) {d : Done} → Here (a_separator value warn) s 0 v → v.state.phase ≡ Free →
    (s.size ≤ span v.state.filled (v.state.entries + 2) → 1 ≤ v.state.entries) → SeparatorLaid value v d → FilledBy (a_separator value warn) (desk s g) d.answer d.group
unfolding finished
separator_filled value warn s g v h p some (SeparatorLaid.laid k) = tt
separator_filled value warn s g v h p some (SeparatorLaid.not_laid k) =
    let sized = h.sized in
    closed_filled g 0 v h (some (omega arith)) (subst (λ (q : Phase). GapAfter q (a_separator value warn) (s.size - span v.state.filled (v.state.entries + 1))) (sym p) (omega arith))

record_fills : (bytes : List ℕ) (warn : Bool) (s : Writer) (g : List ℕ) → Offered s g (length bytes) →
    FilledBy (a_record bytes warn) (desk s g) (record_accepted s.phase bytes (ready warn (desk s g))).answer (record_accepted s.phase bytes (ready warn (desk s g))).group
unfolding record_accepted ready
record_fills bytes warn s g o = by s.phase refl
  where
    t : Sound s
    t = o.accepted.sound

    by : (p : Phase) → s.phase ≡ p → FilledBy (a_record bytes warn) (desk s g) (record_accepted p bytes (pay_owed p (desk (warn_state warn s) g))).answer (record_accepted p bytes (pay_owed p (desk (warn_state warn s) g))).group
    by Free e = free_filled bytes warn s g _ (here_ready (a_record bytes warn) s g Free e o.accepted) (paid_free s g warn Free e refl) (entry_stands s g warn Free e t) (recorded_free bytes _)
    by Inside e = inside_filled bytes warn s g _ (here_ready (a_record bytes warn) s g Inside e o.accepted) (bare s g warn t e) (recorded_inside bytes _)
    by Owed e = free_filled bytes warn s g _ (here_ready (a_record bytes warn) s g Owed e o.accepted) (paid_free s g warn Owed e refl) (entry_stands s g warn Owed e t) (recorded_free bytes _)

separator_fills : (value : ℕ) (warn : Bool) (s : Writer) (g : List ℕ) → Separated s g value →
    FilledBy (a_separator value warn) (desk s g) (separator_accepted value (ready warn (desk s g))).answer (separator_accepted value (ready warn (desk s g))).group
unfolding ready
separator_fills value warn s g o = by s.phase refl o.shut
  where
    t : Sound s
    t = o.accepted.sound

    by : (p : Phase) → s.phase ≡ p → is_inside p ≡ false → FilledBy (a_separator value warn) (desk s g) (separator_accepted value (pay_owed p (desk (warn_state warn s) g))).answer (separator_accepted value (pay_owed p (desk (warn_state warn s) g))).group
    by p e n = separator_filled value warn s g _ (here_ready (a_separator value warn) s g p e o.accepted) (paid_free s g warn p e n) (entry_stands s g warn p e t) (separator_laid value _)

some_stands : (s : Writer) (g : List ℕ) (b : Bool) (p : Phase) → s.phase ≡ p → is_inside p ≡ false → ends_empty s ≡ false → 1 ≤ (pay_owed p (desk (warn_state b s) g)).state.entries
unfolding pay_owed moved lay_entry warn_state
some_stands s g b Free e n f = at s.entries refl
  where
    at : (k : ℕ) → s.entries ≡ k → 1 ≤ s.entries
    at zero z = let y : true ≡ false = sym (rw (e, z)) ∙ f in absurd (true≢false y)
    at (suc k) z = omega arith
some_stands s g b Inside e n f = let z : ◌≡◌ {A = ℕ} 0 1 = cc in absurd (omega arith)
some_stands s g b Owed e n f = omega arith

end_fills : (warn : Bool) (s : Writer) (g : List ℕ) → Ended s g → FilledBy (an_end warn) (desk s g) (end_accepted warn (desk s g)).answer (end_accepted warn (desk s g)).group
unfolding end_accepted ready finished
end_fills warn s g o = by s.phase refl o.shut (ends_empty s) refl
  where
    by : (p : Phase) → s.phase ≡ p → is_inside p ≡ false → (b : Bool) → ends_empty s ≡ b →
        FilledBy (an_end warn) (desk s g) (cond b (finished (desk s g)) (closed 0 (pay_owed p (desk (warn_state warn s) g)))).answer (cond b (finished (desk s g)) (closed 0 (pay_owed p (desk (warn_state warn s) g)))).group
    by p e n true f = tt
    by p e n false f =
        let a : Accepted s g = record { sound = o.sound; long = o.long; next = o.next f } in
        closed_filled g 0 _ (here_ready (an_end warn) s g p e a) (some_stands s g warn p e n f)
        (subst (λ (q : Phase). GapAfter q (an_end warn) (s.size - span (pay_owed p (desk (warn_state warn s) g)).state.filled ((pay_owed p (desk (warn_state warn s) g)).state.entries + 1))) (sym (paid_free s g warn p e n)) tt)

-- Every call.
pub fills : (c : Call) (w : Desk) → FilledBy c w (call c w).answer (call c w).group
unfolding call record_call separator_call end_call
fills (a_record bytes warn) w = guarded (λ (d : Done). FilledBy (a_record bytes warn) w d.answer d.group) _ w _ tt (λ e. record_fills bytes warn w.state w.group (record_accepted_lem w.state w.group (length bytes) e))
fills (a_separator value warn) w = guarded (λ (d : Done). FilledBy (a_separator value warn) w d.answer d.group) _ w _ tt (λ e. separator_fills value warn w.state w.group (separator_accepted_lem w.state w.group value e))
fills (an_end warn) w = guarded (λ (d : Done). FilledBy (an_end warn) w d.answer d.group) _ w _ tt (λ e. end_fills warn w.state w.group (end_accepted_lem w.state w.group e))
