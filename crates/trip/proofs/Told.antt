-- The numbers that an answer of the writer tells have room in four bytes, and no refusal is told as 0.
-- Assumes nothing.
use mathlib.Core.Path.{◌≡◌, refl}
use mathlib.Core.Bool.{Bool, true, false, cond}
use mathlib.Core.List.{List}
use Prim.Native.Nat.{ℕ, ◌+◌, ◌-◌, ◌^◌, ◌≤◌, ◌<◌}
use native.Mathlib.Omega.{arith}
use lib.Dec.{eqb}
use lib.ListN.{length, take}
use borrow.Author.Tests.{eqb-true, eqb-false}
use Rattle.laying.specs.Start.{fresh_state, writer_start_call}
use Rattle.group.specs.declared.Kind.TheVariants as kind
use Rattle.group.specs.declared.Phase.{Phase}
use Rattle.group.specs.declared.Phase.TheVariants.{Free, Inside, Owed}
use Rattle.group.specs.Sizes.{longest_record}
use Rattle.group.specs.State.{start_refusal}
use Rattle.laying.specs.declared.Writer.{Writer}
use Rattle.laying.specs.WriterStart.{WriterStart}
use Rattle.laying.specs.WriterStart as start
use Rattle.writer.specs.WriteAnswer.{WriteAnswer}
use Rattle.writer.specs.WriteAnswer.{Finished, Closed, Refused}
use Rattle.laying.specs.Laying.{Desk, desk, lay_entry, lay_data, lay_part, moved, warn_state, pay_owed, ready}
use Rattle.writer.specs.Calls.{Done, done, finished, closed, or_refused, record_accepted, record_call, separator_accepted, separator_call, end_accepted, end_call, Call, call}
use Rattle.writer.specs.Calls.Call.{a_record, a_separator, an_end}
use Rattle.sound.proofs.SoundLaws.{Sound}
use Rattle.sound.proofs.Accepted.{Offered, fits, record_accepted_lem, separator_accepted_lem, end_accepted_lem}
use Rattle.writer.proofs.CallLaws.{RecordedFree, recorded_free, RecordedInside, recorded_inside, SeparatorLaid, separator_laid, EndLaid, end_laid}

-- What is so of every answer.
abbrev pub Tells : WriteAnswer → Type 0
Tells (Finished s) = Unit {0}
Tells (Closed s number entries taken) = (number < 256 ^ 4) × ((entries < 256 ^ 4) × (taken < 256 ^ 4))
Tells (Refused s refusal) = refusal ≡ 0 → ⊥

abbrev pub TellsStart : WriterStart → Type 0
TellsStart (start.Started s) = Unit {0}
TellsStart (start.Refused refusal) = refusal ≡ 0 → ⊥

-- A close's numbers, by those of the desk that it closes.
closed_tells : (taken : ℕ) (v : Desk) → v.state.next ≤ 65536 → v.state.entries ≤ 126640 → taken ≤ longest_record → Tells (closed taken v).answer
unfolding closed
closed_tells taken v n e t = (omega arith, (omega arith, omega arith))

finished_tells : (v : Desk) → Tells (finished v).answer
unfolding finished
finished_tells v = tt

-- How far a sound state's number and entry count have come, and one more for an owed total.
sound_low : (s : Writer) → Sound s → (s.next ≤ 65536) × (s.entries ≤ 126632)
sound_low s t = (t.run.number, omega (arith, fits s t, t.run.most))

ready_low : (warn : Bool) (w : Desk) → Sound w.state → ((ready warn w).state.next ≤ 65536) × ((ready warn w).state.entries ≤ 126633)
unfolding ready pay_owed warn_state moved lay_entry
ready_low warn w t = by w.state.phase (sound_low w.state t)
  where
    by : (p : Phase) → (w.state.next ≤ 65536) × (w.state.entries ≤ 126632) →
        ((pay_owed p (desk (warn_state warn w.state) w.group)).state.next ≤ 65536) × ((pay_owed p (desk (warn_state warn w.state) w.group)).state.entries ≤ 126633)
    by Free l = (l.0, omega arith)
    by Inside l = (l.0, omega arith)
    by Owed l = (l.0, omega arith)

-- Each accepted call.
free_tells : {bytes : List ℕ} {w : Desk} {d : Done} → w.state.next ≤ 65536 → w.state.entries ≤ 126633 → length bytes ≤ longest_record → RecordedFree bytes w d → Tells d.answer
unfolding lay_part lay_data lay_entry moved
free_tells {bytes} {w} n e most (RecordedFree.entire h) = finished_tells (lay_part kind.Entire bytes w)
free_tells {bytes} {w} n e most (RecordedFree.start r some less h) =
    closed_tells r (moved Inside r (length bytes - r) (lay_part kind.Start (take r bytes) w)) n (omega arith) (omega arith)
free_tells {bytes} {w} n e most (RecordedFree.nothing h) = closed_tells 0 w n (omega arith) (omega arith)

inside_tells : {bytes : List ℕ} {w : Desk} {d : Done} → w.state.next ≤ 65536 → w.state.entries ≤ 126633 → length bytes ≤ longest_record → RecordedInside bytes w d → Tells d.answer
unfolding lay_part lay_data lay_entry moved
inside_tells {bytes} {w} n e most (RecordedInside.part r is less) =
    closed_tells r (moved Inside (w.state.sum + r) (length bytes - r) (lay_part kind.Middle (take r bytes) w)) n (omega arith) (omega arith)
inside_tells {bytes} {w} n e most (RecordedInside.total h) =
    finished_tells (moved Free 0 0 (lay_entry kind.Total (w.state.sum + length bytes) (lay_part kind.Last bytes w)))
inside_tells {bytes} {w} n e most (RecordedInside.owed h k) =
    closed_tells (length bytes) (moved Owed (w.state.sum + length bytes) 0 (lay_part kind.Last bytes w)) n (omega arith) most

record_tells : (bytes : List ℕ) (warn : Bool) (w : Desk) → Offered w.state w.group (length bytes) → Tells (record_accepted w.state.phase bytes (ready warn w)).answer
unfolding record_accepted
record_tells bytes warn w o = by w.state.phase (ready_low warn w o.accepted.sound)
  where
    by : (p : Phase) → ((ready warn w).state.next ≤ 65536) × ((ready warn w).state.entries ≤ 126633) → Tells (record_accepted p bytes (ready warn w)).answer
    by Free l = free_tells l.0 l.1 o.most (recorded_free bytes (ready warn w))
    by Inside l = inside_tells l.0 l.1 o.most (recorded_inside bytes (ready warn w))
    by Owed l = free_tells l.0 l.1 o.most (recorded_free bytes (ready warn w))

separator_tells : (value : ℕ) (v : Desk) → (v.state.next ≤ 65536) × (v.state.entries ≤ 126633) → Tells (separator_accepted value v).answer
separator_tells value v l = by (separator_laid value v)
  where
    by : {d : Done} → SeparatorLaid value v d → Tells d.answer
    by (SeparatorLaid.laid h) = finished_tells (lay_entry kind.Separator value v)
    by (SeparatorLaid.not_laid h) = closed_tells 0 v l.0 (omega arith) (omega arith)

end_tells : (warn : Bool) (w : Desk) → Sound w.state → Tells (end_accepted warn w).answer
end_tells warn w t = by (ready_low warn w t) (end_laid warn w)
  where
    by : {d : Done} → ((ready warn w).state.next ≤ 65536) × ((ready warn w).state.entries ≤ 126633) → EndLaid warn w d → Tells d.answer
    by l (EndLaid.ends_nothing h) = finished_tells w
    by l (EndLaid.ends_group h) = closed_tells 0 (ready warn w) l.0 (omega arith) (omega arith)

or_tells : (n : ℕ) (w : Desk) (d : Done) → (n ≡ 0 → Tells d.answer) → Tells (or_refused n w d).answer
unfolding or_refused
or_tells n w d h = by (eqb n 0) refl
  where
    by : (p : Bool) → eqb n 0 ≡ p → Tells (cond p d (done (Refused w.state n) w.group)).answer
    by true e = h (eqb-true n 0 e)
    by false e = eqb-false n 0 e

pub call_tells : (c : Call) (w : Desk) → Tells (call c w).answer
unfolding call record_call separator_call end_call
call_tells (a_record bytes warn) w =
    or_tells _ w _ (λ e. record_tells bytes warn w (record_accepted_lem w.state w.group (length bytes) e))
call_tells (a_separator value warn) w =
    or_tells _ w _ (λ e. separator_tells value (ready warn w) (ready_low warn w (separator_accepted_lem w.state w.group value e).accepted.sound))
call_tells (an_end warn) w = or_tells _ w _ (λ e. end_tells warn w (end_accepted_lem w.state w.group e).sound)

pub start_tells : (size first : ℕ) → TellsStart (writer_start_call size first)
unfolding writer_start_call
start_tells size first = by (eqb (start_refusal size first) 0) refl
  where
    by : (p : Bool) → eqb (start_refusal size first) 0 ≡ p → TellsStart (cond p (start.Started (fresh_state size first)) (start.Refused (start_refusal size first)))
    by true e = tt
    by false e = eqb-false (start_refusal size first) 0 e
