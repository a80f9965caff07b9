-- `Radio::find` meets its contract: place by place, the first where a message begins. Assumes nothing.
use mathlib.Core.Path.{◌∙◌}
use native.Mathlib.Omega.{arith}
use Rattle.radio.proofs.SearchLaws.{searching, found_here, not_here, found_nowhere, find_first, find_refused}
use Rattle.radio.proofs.Radio.find.Goals as goal

pub returns-then-received-gt-LONGEST : goal.returns-then-received-gt-LONGEST
returns-then-received-gt-LONGEST c = find_refused _ c.if-received-gt-LONGEST.true

pub loop-place-init : goal.loop-place-init
loop-place-init c = searching _ c.if-received-gt-LONGEST.false

pub returns-then-is_start : goal.returns-then-is_start
returns-then-is_start c =
    let s = c.loop-place.invariant in
    found_here _ c.loop-place.place _ (omega (arith, c.saturating_sub-place-end.ensures)) s c.is_start.ensures c.if-is_start.true ∙ find_first _ s.short

pub loop-place-preserved : goal.loop-place-preserved
loop-place-preserved c =
    not_here _ c.loop-place.place _ (omega (arith, c.saturating_sub-place-end.ensures)) c.loop-place.invariant c.is_start.ensures c.if-is_start.false

pub returns : goal.returns
returns c =
    let s = c.loop-place.invariant in
    found_nowhere _ c.loop-place.place (omega (arith, c.saturating_sub-place-end.ensures)) s ∙ find_first _ s.short
