-- `Alert::make` meets its contract: the length, or both numbers and what is counted. Assumes nothing.
use native.Mathlib.Omega.{arith}
use Rattle.alert.proofs.FlagLaws.{alert_refused, alert_made_lem}
use Rattle.alert.proofs.Alert.make.Goals as goal

pub returns-then-alert-ne-LENGTH : goal.returns-then-alert-ne-LENGTH
returns-then-alert-ne-LENGTH c = alert_refused _ _ _ (λ e. omega arith)

pub returns : goal.returns
returns c = alert_made_lem c.args.high c.args.low c.args.alert.now _ _ _ c.if-alert-ne-LENGTH.false c.put_number.ensures c.put_number-2.ensures c.counted.ensures
