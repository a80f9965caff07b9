-- `add_kinds` meets its contract: after seven turns all names are added. Assumes nothing.
use Rattle.std.proofs.Common.{◌≡◌, ◌*◌, arith}
use Rattle.words.proofs.AddedLaws.{added_as}
use Rattle.reason_lines.proofs.LineLaws.{all_names}
use Rattle.reason_lines.proofs.add_kinds.Goals as goal

pub returns : goal.returns
returns c =
    let all : c.loop-i.i ≡ 7 = omega arith in
    added_as (10 * c.loop-i.i) _ _ _ _ _ (all_names _ _ all c.if-why-eq0.false) (omega (arith, all)) c.loop-i.invariant
