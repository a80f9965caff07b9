-- Change request 2026-03: b4 that is set stays set, by what each call is held to leave.
-- Assumes nothing.
use mathlib.Core.Bool.{Bool, true, false, ◌||◌}
use mathlib.Core.Path.{◌≡◌, refl, sym, ap, ◌∙◌}
use Rattle.laying.specs.declared.Writer.{Writer}
use Rattle.laying.specs.Laying.{Desk}
use Rattle.writer.specs.WriteAnswer.{WriteAnswer}
use Rattle.writer.specs.WriteAnswer.{Finished, Closed, Refused}
use Rattle.writer.specs.Calls.{Call, call, state_of}
use Rattle.writer.specs.Calls.Call.{a_record, a_separator, an_end}
use Rattle.layout.proofs.Accounts.{as_given, as_came}
use Rattle.twice.specs.Filled.{warn_of}
use Rattle.twice.specs.Laid.{b4_after, LaidBy}
use Rattle.twice.proofs.Lays.{lays}

set : (warn b4 : Bool) → b4 ≡ true → (warn || b4) ≡ true
set true b4 e = refl
set false b4 e = e

set_after : (c : Call) (b4 : Bool) → b4 ≡ true → b4_after c b4 ≡ true
set_after (a_record bytes warn) b4 e = set warn b4 e
set_after (a_separator value warn) b4 e = set warn b4 e
set_after (an_end warn) b4 e = e

pub warned_stays : (c : Call) (w : Desk) → w.state.warned ≡ true → (state_of (call c w).answer).warned ≡ true
unfolding state_of
warned_stays c w e = by (call c w).answer refl (lays c w)
  where
    by : (a : WriteAnswer) → (call c w).answer ≡ a → LaidBy c w a (call c w).group → (state_of a).warned ≡ true
    by (Finished s) f l = l.b4 ∙ set_after c w.state.warned e
    by (Closed s number entries taken) f l = l.b4 ∙ set (warn_of c) w.state.warned e
    by (Refused s refusal) f l = ap (λ (t : Writer). t.warned) (sym (as_came w _ (call c w).group s refusal (as_given c w) f)) ∙ e
