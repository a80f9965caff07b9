-- `put_volume` meets its contract: zeros, the fields and zeros, one after another. Assumes nothing.
use Rattle.volume.proofs.InformationLaws.{volume_stored}
use Rattle.volume.proofs.information.put_volume.Goals as goal

pub returns : goal.returns
returns c = volume_stored c.args.fields.now _ _ _ _ c.requires.0 c.requires.1 c.put_zeros.ensures c.put_bytes.ensures c.put_zeros-2.ensures
