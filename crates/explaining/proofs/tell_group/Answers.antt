-- `tell_group` meets its contract: by whether the image is there. Assumes nothing.
use Rattle.std.proofs.Common.{refl}
use Rattle.telling.proofs.TellingLaws.{tells_as}
use Rattle.explaining.proofs.StepLaws.{group_short, group_whole}
use Rattle.explaining.proofs.tell_group.Goals as goal

pub returns-in_default : goal.returns-in_default
returns-in_default c = tells_as (rw c.in_default.is (group_short _ _ _ _ _ refl)) c.tell_bad.ensures

pub returns : goal.returns
returns c = tells_as (rw c.in-Some.is (group_whole _ _ _ _ _ _ refl c.pair_at-pair.ensures)) c.tell_read.ensures
