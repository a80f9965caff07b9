-- `tell_group` meets its contract: by whether the image is there. Assumes nothing.
use Rattle.std.proofs.Common.{sym}
use Rattle.telling.proofs.TellingLaws.{tells_as}
use Rattle.programs.proofs.StepLaws.{group_short, group_whole}
use Rattle.programs.proofs.tell_group.Goals as goal

pub returns-in_default : goal.returns-in_default
returns-in_default g c = tells_as (rw c.in_default.is (group_short g.P.Program.program _ _ _ _)) c.tell_bad.ensures

pub returns : goal.returns
returns g c = tells_as (rw (c.in-Some.is, sym c.pair_at-pair.ensures) (group_whole g.P.Program.program _ _ _ _)) c.tell_read.ensures
