-- For each public call: two answers, and what is left in its lent slice, that meet its contract coincide; so do two
-- results of the code.
-- Assumes nothing.
use mathlib.Core.Path.{◌≡◌, sym, ap, ◌∙◌}
use mathlib.Core.List.{List}
use Prim.Native.Nat.{ℕ}
use Rattle.std.specs.Prelude.{Result}
use Rattle.answer.specs.declared.refusals.LoaderRefusal.{LoaderRefusal}
use Rattle.answer.specs.Answer.{if_accepted}
use Rattle.answer.proofs.Once.{OneToOne, loader_once, result_once, same_result}
use Rattle.alert.specs.declared.Counted.{Counted}
use Rattle.alert.specs.Flags.{AlertAnswer}
use Rattle.alert.specs.Flags.{answered, alert_of, Makes, read_call, told}

pub alert_make_settled : (high low : ℕ) (old : List ℕ) (a b : AlertAnswer) (alert alert' : List ℕ)
    → Makes high low old a alert → Makes high low old b alert' → (a ≡ b) × (alert ≡ alert')
alert_make_settled high low old a b alert alert' p q =
    let e : a ≡ b = p.answer ∙ sym q.answer in
    (e, p.alert_left ∙ ap (λ (c : AlertAnswer). if_accepted (told c) (alert_of high low) old) e ∙ sym q.alert_left)

pub alert_read_settled : (alert : List ℕ) (a b : AlertAnswer) → a ≡ read_call alert → b ≡ read_call alert → a ≡ b
alert_read_settled alert a b e f = e ∙ sym f

same_counted : (x y : Counted) → x.raised ≡ y.raised → x.lowest ≡ y.lowest → x.high ≡ y.high → x.low ≡ y.low → x ≡ y
same_counted x y e f g h = λ i. record { raised = e i; lowest = f i; high = g i; low = h i }

-- What a call answers tells the code's results apart.
answered_once : OneToOne answered
answered_once = result_once answered (λ x y e. same_counted x y (cc) (cc) (cc) (cc)) (λ r t e. loader_once r t (cc)) (λ x r e. cc)

pub alert_make_result_settled : (high low : ℕ) (old : List ℕ) (a b : Result Counted LoaderRefusal) (alert alert' : List ℕ)
    → Makes high low old (answered a) alert → Makes high low old (answered b) alert' → (a ≡ b) × (alert ≡ alert')
alert_make_result_settled high low old a b alert alert' p q = same_result answered_once a b (alert_make_settled high low old _ _ alert alert' p q)

pub alert_read_result_settled : (alert : List ℕ) (a b : Result Counted LoaderRefusal) → answered a ≡ read_call alert → answered b ≡ read_call alert → a ≡ b
alert_read_result_settled alert a b e f = answered_once a b (alert_read_settled alert _ _ e f)
