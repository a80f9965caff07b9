-- `table` meets its contract: the constant holds, at each of the 256 flags, the code of what the flag means, by computation.
-- Assumes nothing.
use mathlib.Core.Path.{refl}
use Rattle.group.specs.Flags.{meaning_of}
use Rattle.flag_table.specs.Table.{flag_table}
use Rattle.flag_table.proofs.table.Goals as goal

pub returns : goal.returns
unfolding flag_table meaning_of
returns c = refl
