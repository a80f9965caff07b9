-- The theorem that a writer's answer does not hang on what the group holds, and what it is made of.
-- Assumes nothing.
use Prim.Native.Nat.{ℕ}
use mathlib.Core.List.{List}
use mathlib.Core.Path.{◌≡◌, refl}
use mathlib.Core.Bool.{Bool, true, false, cond}
use lib.Dec.{eqb, leb, ltb}
use lib.ListN.{length}
use Rattle.group.specs.declared.Phase.{Phase}
use Rattle.group.specs.declared.Phase.TheVariants.{Free, Inside, Owed}
use Rattle.laying.specs.declared.Writer.{Writer}
use Rattle.laying.specs.declared.Fit.{Fit}
use Rattle.laying.specs.declared.Fit.TheVariants as fit
use Rattle.laying.specs.Room.{room, fit_of, separator_fits, middle_length, last_with_total}
use Rattle.laying.specs.Laying.{desk, lay_entry, lay_data, lay_part, lay_skip, zero_gap, shut, moved, pay_owed, ready, warn_state}
use Rattle.sound.specs.State.{record_refusal, separator_refusal, end_refusal, ends_empty}
use Rattle.writer.specs.WriteAnswer.{WriteAnswer}
use Rattle.writer.specs.Calls.{Done, done, finished, closed, or_refused, by_fit, record_free, middle, last, record_inside, record_accepted, record_call, separator_accepted, separator_call, end_accepted, end_call, Call, call, a_record, a_separator, an_end}

-- An answer's two ways.
refused_or : (b : Bool) (x y : Done) (r : WriteAnswer) (g h : List ℕ) → x.answer ≡ y.answer → (cond b x (done r g)).answer ≡ (cond b y (done r h)).answer
refused_or true x y r g h e = e
refused_or false x y r g h e = refl

either : (b : Bool) (x y p q : Done) → x.answer ≡ y.answer → p.answer ≡ q.answer → (cond b x p).answer ≡ (cond b y q).answer
either true x y p q e f = e
either false x y p q e f = f

module _ (s : Writer) (g h : List ℕ) where
  fits : (f : Fit) (bytes : List ℕ) → (by_fit f bytes (desk s g)).answer ≡ (by_fit f bytes (desk s h)).answer
  unfolding by_fit finished closed lay_part lay_data lay_entry moved shut lay_skip zero_gap
  fits fit.Entire bytes = refl
  fits (fit.Start r) bytes = refl
  fits fit.Close bytes = refl

  free : (bytes : List ℕ) → (record_free bytes (desk s g)).answer ≡ (record_free bytes (desk s h)).answer
  unfolding record_free
  free bytes = fits (fit_of (length bytes) (room s)) bytes

  lasts : (bytes : List ℕ) → (last bytes (desk s g)).answer ≡ (last bytes (desk s h)).answer
  unfolding last finished closed lay_part lay_data lay_entry moved shut lay_skip zero_gap
  lasts bytes = either (leb (length bytes) (last_with_total s)) _ _ _ _ refl refl

  inside : (bytes : List ℕ) → (record_inside bytes (desk s g)).answer ≡ (record_inside bytes (desk s h)).answer
  unfolding record_inside middle closed lay_part lay_data lay_entry moved shut lay_skip zero_gap
  inside bytes = either (ltb (middle_length s) (length bytes)) _ _ _ _ refl (lasts bytes)

  separates : (value : ℕ) → (separator_accepted value (desk s g)).answer ≡ (separator_accepted value (desk s h)).answer
  unfolding separator_accepted finished closed lay_entry shut lay_skip zero_gap
  separates value = either (separator_fits (room s)) _ _ _ _ refl refl

  shuts : (closed 0 (desk s g)).answer ≡ (closed 0 (desk s h)).answer
  unfolding closed lay_entry shut lay_skip zero_gap
  shuts = refl

module _ (s : Writer) (g h : List ℕ) (long : length g ≡ length h) where
  record_blind : (bytes : List ℕ) (warn : Bool) → (record_call bytes warn (desk s g)).answer ≡ (record_call bytes warn (desk s h)).answer
  unfolding record_call or_refused ready record_accepted pay_owed moved lay_entry
  record_blind bytes warn = rw long (refused_or (eqb (record_refusal s (length h) (length bytes)) 0) _ _ _ g h (by s.phase))
    where
      by : (p : Phase) → (record_accepted p bytes (pay_owed p (desk (warn_state warn s) g))).answer ≡ (record_accepted p bytes (pay_owed p (desk (warn_state warn s) h))).answer
      by Free = free (warn_state warn s) g h bytes
      by Inside = inside (warn_state warn s) g h bytes
      by Owed = free _ _ _ bytes

  separator_blind : (value : ℕ) (warn : Bool) → (separator_call value warn (desk s g)).answer ≡ (separator_call value warn (desk s h)).answer
  unfolding separator_call or_refused ready pay_owed moved lay_entry
  separator_blind value warn = rw long (refused_or (eqb (separator_refusal s (length h) value) 0) _ _ _ g h (by s.phase))
    where
      by : (p : Phase) → (separator_accepted value (pay_owed p (desk (warn_state warn s) g))).answer ≡ (separator_accepted value (pay_owed p (desk (warn_state warn s) h))).answer
      by Free = separates (warn_state warn s) g h value
      by Inside = separates (warn_state warn s) g h value
      by Owed = separates _ _ _ value

  end_blind : (warn : Bool) → (end_call warn (desk s g)).answer ≡ (end_call warn (desk s h)).answer
  unfolding end_call or_refused end_accepted finished ready pay_owed moved lay_entry
  end_blind warn = rw long (refused_or (eqb (end_refusal s (length h)) 0) _ _ _ g h (either (ends_empty s) _ _ _ _ refl (by s.phase)))
    where
      by : (p : Phase) → (closed 0 (pay_owed p (desk (warn_state warn s) g))).answer ≡ (closed 0 (pay_owed p (desk (warn_state warn s) h))).answer
      by Free = shuts (warn_state warn s) g h
      by Inside = shuts (warn_state warn s) g h
      by Owed = shuts _ _ _

  -- "We neither read nor write those 32 bytes", nor any other byte of the group: what a call answers, the state in it too, is the
  -- same whatever stands there.
  pub writer_blind : (c : Call) → (call c (desk s g)).answer ≡ (call c (desk s h)).answer
  unfolding call
  writer_blind (a_record bytes warn) = record_blind bytes warn
  writer_blind (a_separator value warn) = separator_blind value warn
  writer_blind (an_end warn) = end_blind warn
