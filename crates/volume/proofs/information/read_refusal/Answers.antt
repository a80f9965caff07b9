-- `read_refusal` meets its contract: the reserved bytes, and what the others refuse. Assumes nothing.
use mathlib.Core.Path.{◌∙◌}
use Rattle.numbers.proofs.Tests.{fails, holds}
use Rattle.volume.proofs.InformationLaws.{read_before, read_behind, read_bytes}
use Rattle.volume.proofs.information.read_refusal.Goals as goal
use Rattle.volume.proofs.information.read_refusal.Goals.{then-not-are_zeros-via-then-not-are_zeros, then-not-are_zeros-via-else-not-are_zeros+then-not-are_zeros-2}

pub returns-then-not-are_zeros : goal.returns-then-not-are_zeros
returns-then-not-are_zeros c =
    let e = c.if-fields-ne-FIELDS_LENGTH.false in
    let f = c.if-volume-ne-LENGTH.false in
    elim c.then-not-are_zeros.branch [
      | then-not-are_zeros-via-then-not-are_zeros w ↦ read_before _ _ e f (fails c.are_zeros.ensures w.if-not-are_zeros.true)
      | then-not-are_zeros-via-else-not-are_zeros+then-not-are_zeros-2 w ↦
          read_behind _ _ e f (holds c.are_zeros.ensures w.if-not-are_zeros.false) (fails w.are_zeros-else-not-are_zeros.ensures w.if-not-are_zeros-2.true)
    ]

pub returns : goal.returns
returns c =
    c.byte_refusal.ensures
    ∙ read_bytes _ _ c.if-fields-ne-FIELDS_LENGTH.false c.if-volume-ne-LENGTH.false (holds c.are_zeros.ensures c.if-not-are_zeros.false)
    (holds c.are_zeros-else-not-are_zeros.ensures c.if-not-are_zeros-2.false)
