-- `meaning_of` meets its contract: the kind that the bits leave has the flag, or none has. Assumes nothing.
use Rattle.group.proofs.FlagLaws.{means_none, means_kind}
use Rattle.group.proofs.flags.meaning_of.Goals as goal

pub returns-in_default : goal.returns-in_default
returns-in_default c = means_none _ c.number_by_bits.ensures c.in_default.ensures

pub returns : goal.returns
returns c = rw (c.then_some.ensures, c.flag_of.ensures, c.b4-warned.ensures) (means_kind _ _ c.number_by_bits.ensures c.in-Ok.ensures)
