-- What an accepted end leaves: no entry in the group, and a writer that is free.
-- Assumes nothing.
use mathlib.Core.Path.{◌≡◌, refl, sym, subst}
use mathlib.Core.Bool.{Bool, true≢false, false}
use lib.ListN.{length}
use Rattle.group.specs.declared.Phase.{Phase}
use Rattle.group.specs.declared.Phase.TheVariants.{Free, Inside, Owed}
use Rattle.laying.specs.declared.Writer.{Writer}
use Rattle.laying.specs.Laying.{Desk, desk, warn_state, moved, lay_entry, lay_skip, zero_gap, shut, pay_owed, ready}
use Rattle.sound.specs.State.{is_inside, is_owed, end_refusal}
use Rattle.sound.proofs.Accepted.{ends_empty_lem, end_accepted_lem}
use Rattle.writer.specs.Calls.{Done, finished, closed, end_call, state_of}
use Rattle.writer.proofs.CallLaws.{EndLaid, end_laid, end_accepts, ends_nothing, ends_group}

-- "free with e = 0"
pub record Rests (s : Writer) : Type 0 where
  pub none : s.entries ≡ 0
  pub free : s.phase ≡ Free

neither : (p : Phase) → is_inside p ≡ false → is_owed p ≡ false → p ≡ Free
neither Free h k = refl
neither Inside h k = absurd (true≢false h)
neither Owed h k = absurd (true≢false k)

-- An owed total is laid, and leaves the writer free.
paid : (w : Desk) (warn : Bool) (p : Phase) → w.state.phase ≡ p → is_inside p ≡ false → (pay_owed p (desk (warn_state warn w.state) w.group)).state.phase ≡ Free
unfolding pay_owed moved warn_state
paid w warn Free e h = e
paid w warn Inside e h = absurd (true≢false h)
paid w warn Owed e h = refl

ended : (warn : Bool) (w : Desk) {d : Done} → is_inside w.state.phase ≡ false → EndLaid warn w d → Rests (state_of d.answer)
unfolding finished closed state_of shut zero_gap lay_skip lay_entry ready
ended warn w h (ends_nothing e) =
    let n = ends_empty_lem w.state e in
    record { none = n.1; free = neither w.state.phase h n.0 }
ended warn w h (ends_group e) = record { none = refl; free = paid w warn w.state.phase refl h }

pub end_rests : (warn : Bool) (w : Desk) → end_refusal w.state (length w.group) ≡ 0 → Rests (state_of (end_call warn w).answer)
end_rests warn w e =
    subst (λ (d : Done). Rests (state_of d.answer)) (sym (end_accepts warn w e))
    (ended warn w (end_accepted_lem w.state w.group e).shut (end_laid warn w))
