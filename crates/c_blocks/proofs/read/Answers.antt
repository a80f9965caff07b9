-- `read` meets its contract: what refuses the read, or the plain call. Assumes nothing.
use mathlib.Core.Path.{ap, ◌∙◌}
use native.Mathlib.Omega.{arith}
use Rattle.slices.proofs.Calls.{lengths}
use Rattle.c_reader.specs.Calls.{dds_read}
use Rattle.c_blocks.proofs.Laws.{plain_call}
use Rattle.c_blocks.proofs.read.Goals as goal

pub returns : goal.returns
returns c =
    let j = c.judge-refusal.ensures in
    let none = c.if-refusal-ne0.false in
    plain_call _ _ _ _ _ _ (j.kept none) (j.plainly none) (c.read.ensures ∙ ap (dds_read _ _ _ _ _) (j.stays none))
