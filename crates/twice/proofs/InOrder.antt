-- The orders of refusals: each chain of tests is a list of rules.
-- Assumes nothing.
use Prim.Native.Nat.{ℕ, ◌+◌}
use mathlib.Core.List.{List, ◌∷◌}
use mathlib.Core.Bool.{Bool, true, false, cond, not, ◌&&◌, ◌||◌}
use mathlib.Core.Path.{◌≡◌, refl, sym, subst}
use lib.Dec.{eqb, leb}
use lib.ListN.{length}
use borrow.Author.Tests.{eqb-true, eqb-false}
use Rattle.answer.specs.Answer.{refusal_told}
use Rattle.group.specs.State.{start_refusal}
use Rattle.reader.specs.declared.Reader.{Reader}
use Rattle.reader.specs.ReaderStart as reader_start_lem
use Rattle.reader.specs.Answer as reading
use Rattle.reader.specs.Answer.{fresh, reader_start_call, is_repeat, read_refusal}
use Rattle.reader.proofs.Accepted.{is_repeat_lem, not_repeat, never_repeat, five_means, read_repeated, read_refused_lem}
use Rattle.laying.specs.WriterStart as writer_start_lem
use Rattle.laying.specs.Start.{fresh_state, writer_start_call}
use Rattle.laying.specs.Laying.{Desk}
use Rattle.sound.specs.State.{is_inside, is_owed, record_refusal, separator_refusal, end_refusal}
use Rattle.writer.specs.Calls.{Call, call, refusal_of, start_told, told}
use Rattle.writer.specs.Calls.Call.{a_record, a_separator, an_end}
use Rattle.writer.proofs.Theorems.{refusal_told_lem}
use Rattle.twice.specs.Orders.{FirstBroken, start_rules, read_rules, call_rules, last_accepted, BeforeScan}
use Rattle.twice.specs.Orders.FirstBroken.{all_hold, broken, holds}

-- One test of a chain.
link : (n : ℕ) (b : Bool) {m : ℕ} {rules : List (ℕ × Bool)} → FirstBroken rules m → FirstBroken ((n, b) ∷ rules) (cond (not b) n m)
link n true f = holds f
link n false f = broken

-- A test that is made only where a holds.
link_where : (n : ℕ) (a b : Bool) {m : ℕ} {rules : List (ℕ × Bool)} → FirstBroken rules m → FirstBroken ((n, not a || b) ∷ rules) (cond (not (cond a b true)) n m)
link_where n true b f = link n b f
link_where n false b f = holds f

-- The chain of a start.
start_chain : (size first : ℕ) → FirstBroken (start_rules size first) (start_refusal size first)
unfolding start_refusal
start_chain size first = link _ _ (link _ _ all_hold)

pub reader_start_order : (size first : ℕ) → FirstBroken (start_rules size first) (refusal_told (reading.start_told (reader_start_call size first)))
unfolding reader_start_call
reader_start_order size first = by (start_refusal size first) (eqb (start_refusal size first) 0) refl (start_chain size first)
  where
    by : (n : ℕ) (b : Bool) → eqb n 0 ≡ b → FirstBroken (start_rules size first) n →
        FirstBroken (start_rules size first) (refusal_told (reading.start_told (cond b (reader_start_lem.Started (fresh size first)) (reader_start_lem.Refused n))))
    by n true e f = subst (FirstBroken (start_rules size first)) (eqb-true n 0 e) f
    by n false e f = f

pub writer_start_order : (size first : ℕ) → FirstBroken (start_rules size first) (refusal_told (start_told (writer_start_call size first)))
unfolding writer_start_call
writer_start_order size first = by (start_refusal size first) (eqb (start_refusal size first) 0) refl (start_chain size first)
  where
    by : (n : ℕ) (b : Bool) → eqb n 0 ≡ b → FirstBroken (start_rules size first) n →
        FirstBroken (start_rules size first) (refusal_told (start_told (cond b (writer_start_lem.Started (fresh_state size first)) (writer_start_lem.Refused n))))
    by n true e f = subst (FirstBroken (start_rules size first)) (eqb-true n 0 e) f
    by n false e f = f

-- The chain of a read before its scan.
read_chain : (s : Reader) (len number n room : ℕ) → FirstBroken (read_rules s len number n room) (read_refusal s len number n room)
unfolding read_refusal
read_chain s len number n room = link _ _ (link _ _ (link _ _ (link _ _ (link _ _ all_hold))))

-- The two tests of a repeat, in either order.
turned : (a b c : Bool) → a && b ≡ c → b && a ≡ c
turned true true c e = e
turned true false c e = e
turned false true c e = e
turned false false c e = e

-- Where 5 is broken, and the number is not that of the last accepted group; or another rule is.
no_repeat : (s : Reader) (len number n room : ℕ) → (read_refusal s len number n room ≡ 5 → last_accepted s number ≡ false) → is_repeat s len number ≡ false
no_repeat s len number n room h = by (eqb (read_refusal s len number n room) 5) refl
  where
    by : (b : Bool) → eqb (read_refusal s len number n room) 5 ≡ b → is_repeat s len number ≡ false
    by true e = not_repeat s len number (turned s.accepted (eqb (number + 1) s.next) false (h (eqb-true _ 5 e)))
    by false e = never_repeat s len number n room _ refl (eqb-false _ 5 e)

pub read_order : (s : Reader) (group : List ℕ) (number n room : ℕ) → BeforeScan s group number n room
read_order s group number n room =
    record {
      refusal = read_refusal s (length group) number n room;
      first = read_chain s (length group) number n room;
      repeated = λ e h.
          let f = five_means s (length group) number n room e in
          sym (read_repeated s group number n room (is_repeat_lem s (length group) number f.0 f.1 (turned s.accepted (eqb (number + 1) s.next) true h)));
      answered = λ h k. sym (read_refused_lem s group number n room (read_refusal s (length group) number n room) refl h (no_repeat s (length group) number n room k));
    }

-- The chains of the writer's calls.
call_chain : (c : Call) (w : Desk) → FirstBroken (call_rules c w) (refusal_of c w)
unfolding refusal_of record_refusal separator_refusal end_refusal
call_chain (a_record bytes warn) w = link _ _ (link _ _ (link _ _ (link _ _ (link_where _ (is_inside w.state.phase) (eqb (length bytes) w.state.rest) all_hold))))
call_chain (a_separator value warn) w = link _ _ (link _ _ (link _ _ (link _ _ (link _ _ all_hold))))
call_chain (an_end warn) w = link _ _ (link _ _ (link _ _ (link_where _ (is_owed w.state.phase) (leb w.state.next 65535) all_hold)))

pub call_order : (c : Call) (w : Desk) → FirstBroken (call_rules c w) (refusal_told (told (call c w).answer))
call_order c w = subst (FirstBroken (call_rules c w)) (sym (refusal_told_lem c w)) (call_chain c w)
