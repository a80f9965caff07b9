-- `put_fields` meets its contract: what stands between the reserved bytes, at once. Assumes nothing.
use Rattle.volume.proofs.InformationLaws.{fields_stored}
use Rattle.volume.proofs.information.put_fields.Goals as goal

pub returns : goal.returns
returns c = fields_stored c.args.volume.now _ _ c.requires.0 c.requires.1 c.put_bytes.ensures
