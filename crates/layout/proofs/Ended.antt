-- What is written reaches the tape: where no entry stands in the open group, so after every accepted end, the account at the last
-- close is the account now.
-- Assumes nothing.
use Prim.Native.Nat.{ℕ, ◌≤◌}
use native.Mathlib.Omega.{arith}
use mathlib.Core.List.{List}
use mathlib.Core.Path.{◌≡◌, refl, sym, ap, ◌∙◌, subst}
use mathlib.Core.Bool.{Bool, true, false, cond, true≢false}
use lib.Dec.{eqb}
use Rattle.answer.specs.Answer.{refusal_told}
use Rattle.group.specs.declared.Phase.{Phase}
use Rattle.group.specs.declared.Phase.TheVariants as phase
use Rattle.laying.specs.declared.Writer.{Writer}
use Rattle.laying.specs.Laying.{Desk, desk, lay_entry, lay_data, lay_part, moved, ready}
use Rattle.sound.specs.State.{is_owed, ends_empty}
use Rattle.sound.proofs.Accepted.{ends_empty_lem}
use Rattle.writer.specs.WriteAnswer.{WriteAnswer}
use Rattle.writer.specs.WriteAnswer.{Finished, Closed, Refused}
use Rattle.writer.specs.Calls.{Done, done, finished, closed, or_refused, record_accepted, record_call, separator_call, end_call, Call, call, told, state_of}
use Rattle.writer.specs.Calls.Call.{a_record, a_separator, an_end}
use Rattle.writer.proofs.CallLaws.{RecordedFree, recorded_free, RecordedInside, recorded_inside, SeparatorLaid, separator_laid, EndLaid, end_laid}
use Rattle.writer.proofs.Theorems.{end_empties}
use Rattle.layout.specs.Layout.{Image}
use Rattle.layout.specs.Writing.{Account, total_laid, noted, Wrote, begins, goes_on, closes, refused, changed, WasEnded}
use Rattle.layout.specs.WritingStated.{GivesBack, AllClosed}
use Rattle.layout.proofs.Accounts.{as_given, as_came}
use Rattle.layout.proofs.Returned.{none_begun, gives_back}

-- A call that finishes has laid an entry,
abbrev Grew : WriteAnswer → Type 0
Grew (Finished t) = 1 ≤ t.entries
Grew (Closed t number entries taken) = Unit {0}
Grew (Refused t refusal) = Unit {0}

grew_free : {bs : List ℕ} {v : Desk} {d : Done} → RecordedFree bs v d → Grew d.answer
unfolding finished closed lay_part lay_data lay_entry
grew_free (RecordedFree.entire h) = omega arith
grew_free (RecordedFree.start r a b c) = tt
grew_free (RecordedFree.nothing h) = tt

grew_inside : {bs : List ℕ} {v : Desk} {d : Done} → RecordedInside bs v d → Grew d.answer
unfolding finished closed moved lay_part lay_data lay_entry
grew_inside (RecordedInside.part n e l) = tt
grew_inside (RecordedInside.total h) = omega arith
grew_inside (RecordedInside.owed h k) = tt

grew_record : (p : Phase) (bs : List ℕ) (v : Desk) → Grew (record_accepted p bs v).answer
unfolding record_accepted
grew_record phase.Free bs v = grew_free (recorded_free bs v)
grew_record phase.Inside bs v = grew_inside (recorded_inside bs v)
grew_record phase.Owed bs v = grew_free (recorded_free bs v)

grew_separator : {value : ℕ} {v : Desk} {d : Done} → SeparatorLaid value v d → Grew d.answer
unfolding finished closed lay_entry
grew_separator (SeparatorLaid.laid h) = omega arith
grew_separator (SeparatorLaid.not_laid h) = tt

-- .. but an end, which finishes only with the state as it came and no total owed.
abbrev Same : Writer → WriteAnswer → Type 0
Same s (Finished t) = (t ≡ s) × (ends_empty s ≡ true)
Same s (Closed t number entries taken) = Unit {0}
Same s (Refused t refusal) = Unit {0}

same_end : {warn : Bool} {v : Desk} {d : Done} → EndLaid warn v d → Same v.state d.answer
unfolding finished closed
same_end (EndLaid.ends_nothing e) = (refl, e)
same_end (EndLaid.ends_group e) = tt

-- What holds of a refusal and of the accepted form holds of the call.
guarded : (P : WriteAnswer → Type 0) (refusal : ℕ) (w : Desk) (d : Done) → P (Refused w.state refusal) → P d.answer → P (or_refused refusal w d).answer
unfolding or_refused
guarded P refusal w d r h = by (eqb refusal 0)
  where
    by : (b : Bool) → P (cond b d (done (Refused w.state refusal) w.group)).answer
    by true = h
    by false = r

unowed : (p : Phase) → is_owed p ≡ false → (a : Account) → total_laid p a ≡ a
unfolding total_laid
unowed phase.Free e a = refl
unowed phase.Inside e a = refl
unowed phase.Owed e a = absurd (true≢false e)

goes : (closed now : Account) (c : Call) (w : Desk) (s : Writer) → (w.state.entries ≡ 0 → closed ≡ now) → (call c w).answer ≡ Finished s →
    s.entries ≡ 0 → closed ≡ noted c w.state.phase (Finished s) now
unfolding call record_call separator_call end_call noted
goes closed now (a_record bs warn) w s h e z = absurd (let g : Grew (Finished s) = subst Grew e (guarded Grew _ w _ tt (grew_record w.state.phase bs (ready warn w))) in omega arith)
goes closed now (a_separator value warn) w s h e z = absurd (let g : Grew (Finished s) = subst Grew e (guarded Grew _ w _ tt (grew_separator (separator_laid value (ready warn w)))) in omega arith)
goes closed now (an_end warn) w s h e z =
    let g : Same w.state (Finished s) = subst (Same w.state) e (guarded (Same w.state) _ w _ tt (same_end (end_laid warn w))) in
    h (ap (λ (t : Writer). t.entries) (sym g.0) ∙ z) ∙ sym (unowed w.state.phase (ends_empty_lem w.state g.1).0 now)

-- Where no entry stands in the open group, the account at the last close is the account now.
pub none_waits : {size first : ℕ} {w : Desk} {run : List Image} {closed now : Account} → Wrote size first w run closed now → w.state.entries ≡ 0 → closed ≡ now
none_waits (begins e l) z = refl
none_waits (goes_on {w} {s} {closed = was} {now = now} c x asked e) z = goes was now c w s (λ y. none_waits x y) e z
none_waits (closes c information g x asked e i l) z = refl
none_waits (refused {w} {s} {refusal} c lent x e) z =
    none_waits x (ap (λ (t : Writer). t.entries) (as_came (desk w.state lent) _ _ s refusal (as_given c (desk w.state lent)) e) ∙ z)
none_waits (changed information x i) z = none_waits x z

-- After an accepted end no entry stands, and the writer is free.
abbrev Rests : Writer → Type 0
Rests s = (s.entries ≡ 0) × (s.phase ≡ phase.Free)

rests : {size first : ℕ} {w : Desk} {run : List Image} {closed now : Account} (x : Wrote size first w run closed now) → WasEnded x → Rests w.state
unfolding WasEnded state_of
rests (begins e l) h = absurd h
rests (goes_on (a_record bs warn) x asked e) h = absurd h
rests (goes_on (a_separator value warn) x asked e) h = absurd h
rests (goes_on {w} {s} (an_end warn) x asked e) h = subst (λ (a : WriteAnswer). refusal_told (told a) ≡ 0 → Rests (state_of a)) e (end_empties warn w) refl
rests (closes (a_record bs warn) information g x asked e i l) h = absurd h
rests (closes (a_separator value warn) information g x asked e i l) h = absurd h
rests (closes {w} {s} (an_end warn) information g x asked e i l) h = subst (λ (a : WriteAnswer). refusal_told (told a) ≡ 0 → Rests (state_of a)) e (end_empties warn w) refl
rests (refused {w} {s} {refusal} c lent x e) h = subst Rests (as_came (desk w.state lent) _ _ s refusal (as_given c (desk w.state lent)) e) (rests x h)
rests (changed information x i) h = rests x h

pub all_closed : {size first : ℕ} {w : Desk} {run : List Image} {closed now : Account} (x : Wrote size first w run closed now) → WasEnded x → AllClosed size first w run closed now
all_closed {size} {first} {w} {run} {closed} {now} x h =
    let r = rests x h in
    let same = none_waits x r.0 in
    record {
      none = r.0;
      free = r.1;
      all = same;
      whole = none_begun x r.1;
      gives_back = λ lent e. subst (GivesBack size first run lent) same (gives_back x e);
    }
