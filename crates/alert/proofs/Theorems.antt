-- The theorems of the Tape Alert flags of change request 2026-11, each with its sentence above it.
-- Assumes nothing.
use mathlib.Core.Path.{◌≡◌, sym, ap, ◌∙◌}
use mathlib.Core.Bool.{Bool, true, false, cond}
use mathlib.Core.List.{List}
use Prim.Native.Nat.{ℕ, ◌<◌}
use native.Mathlib.Omega.{arith}
use borrow.Author.Tests.{eq-eqb}
use lib.Dec.{eqb}
use lib.ListN.{length}
use Rattle.answer.specs.Answer.{if_accepted}
use Rattle.numbers.specs.Numbers.{number_at}
use Rattle.alert.specs.Flags.{AlertAnswer}
use Rattle.alert.specs.Flags.{Counted, Refused}
use Rattle.alert.specs.Flags.{raised_count, lowest_raised, Says, alert_of, counted_in, make_call, read_call, Makes, told}
use Rattle.alert.proofs.FlagLaws.{counted_so, high_made, low_made, length_alert}

-- "the count is the number of raised flags, the lowest is raised and none below it is": of the bytes that are read,
pub alert_counted : (alert : List ℕ) (count lowest high low : ℕ) → Counted count lowest high low ≡ read_call alert → Says alert count lowest
unfolding read_call
alert_counted alert count lowest high low e = by (eqb (length alert) 8) e
  where
    by : (b : Bool) → Counted count lowest high low ≡ cond b (counted_in alert (number_at 4 alert 0) (number_at 4 alert 4)) (Refused 60) → Says alert count lowest
    by true f =
        let c : count ≡ raised_count alert = cc in
        let l : lowest ≡ lowest_raised alert = cc in
        rw (c, l) (counted_so alert)
    by false f = let z : ◌≡◌ {A = ℕ} 0 1 = cc in absurd (omega arith)

-- and of those that are made, which reading then tells in the same way.
pub alert_returned : (high low : ℕ) (old : List ℕ) (a : AlertAnswer) (alert : List ℕ) → high < 4294967296 → low < 4294967296 → length old ≡ 8
    → Makes high low old a alert → read_call alert ≡ a
unfolding make_call read_call
alert_returned high low old a alert h l long m =
    let counts : a ≡ counted_in (alert_of high low) high low = m.answer ∙ rw (eq-eqb (length old) 8 long) in
    let made : alert ≡ alert_of high low = m.alert_left ∙ ap (λ (b : AlertAnswer). if_accepted (told b) (alert_of high low) old) counts in
    rw (made, eq-eqb (length (alert_of high low)) 8 (length_alert high low), high_made high low h l, low_made high low h l) (sym counts)
