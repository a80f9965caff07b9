-- `Alert::read` meets its contract: the length, or what is counted of both numbers. Assumes nothing.
use native.Mathlib.Omega.{arith}
use Rattle.alert.proofs.FlagLaws.{read_refused_lem, read_counted}
use Rattle.alert.proofs.Alert.read.Goals as goal

pub returns-then-alert-ne-LENGTH : goal.returns-then-alert-ne-LENGTH
returns-then-alert-ne-LENGTH c = read_refused_lem _ (λ e. omega arith)

pub returns : goal.returns
returns c = read_counted _ _ _ _ (λ k. omega (arith, c.type_inv.alert k)) c.if-alert-ne-LENGTH.false c.number_at-high.ensures c.number_at-low.ensures c.counted.ensures
