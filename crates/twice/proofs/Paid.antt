-- What Fills, Lays and Takes share: the desk once b4 is as the call says and an owed total is laid, and a call that may be refused.
-- Assumes nothing.
use Prim.Native.Nat.{ℕ, ◌≤◌}
use native.Mathlib.Omega.{arith}
use mathlib.Core.List.{List}
use mathlib.Core.Bool.{Bool, true, false, cond}
use mathlib.Core.Path.{◌≡◌, refl, ap}
use lib.Dec.{eqb}
use borrow.Author.Tests.{eqb-true}
use Rattle.group.specs.declared.Phase.{Phase}
use Rattle.group.specs.declared.Phase.TheVariants.{Free, Inside, Owed}
use Rattle.laying.specs.declared.Writer.{Writer}
use Rattle.laying.specs.Laying.{Desk, desk, lay_entry, moved, warn_state, pay_owed}
use Rattle.sound.specs.State.{is_free, is_inside}
use Rattle.sound.proofs.SoundLaws.{Sound}
use Rattle.writer.specs.WriteAnswer.{Refused}
use Rattle.writer.specs.Calls.{Done, done, or_refused}

-- It has its size, and is free where the writer was not inside a record.
pub paid_size : (s : Writer) (g : List ℕ) (b : Bool) (p : Phase) → (pay_owed p (desk (warn_state b s) g)).state.size ≡ s.size
unfolding pay_owed moved lay_entry warn_state
paid_size s g b Free = refl
paid_size s g b Inside = refl
paid_size s g b Owed = refl

pub paid_free : (s : Writer) (g : List ℕ) (b : Bool) (p : Phase) → s.phase ≡ p → is_inside p ≡ false → (pay_owed p (desk (warn_state b s) g)).state.phase ≡ Free
unfolding pay_owed moved warn_state
paid_free s g b Free e n = e
paid_free s g b Inside e n = let z : ◌≡◌ {A = ℕ} 0 1 = cc in absurd (omega arith)
paid_free s g b Owed e n = refl

-- Inside a record nothing is laid yet.
pub record Bare (s : Writer) : Type 0 where
  pub filled : s.filled ≡ 0
  pub entries : s.entries ≡ 0
  pub least : 64 ≤ s.size

pub bare : (s : Writer) (g : List ℕ) (b : Bool) → Sound s → s.phase ≡ Inside → Bare (pay_owed Inside (desk (warn_state b s) g)).state
unfolding pay_owed warn_state
bare s g b t e = let n = t.empty (ap is_free e) in record { filled = n.0; entries = n.1; least = t.run.least }

-- What holds of a refusal and of an accepted call holds of the call.
pub guarded : (P : Done → Type 0) (n : ℕ) (w : Desk) (d : Done) → P (done (Refused w.state n) w.group) → (n ≡ 0 → P d) → P (or_refused n w d)
unfolding or_refused
guarded P n w d r h = by (eqb n 0) refl
  where
    by : (b : Bool) → eqb n 0 ≡ b → P (cond b d (done (Refused w.state n) w.group))
    by true e = h (eqb-true n 0 e)
    by false e = r
