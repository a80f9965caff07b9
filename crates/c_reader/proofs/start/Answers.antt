-- `start` meets its contract: a length, or what the start answers. Assumes nothing.
use mathlib.Core.Path.{◌≡◌, ◌∙◌}
use mathlib.Core.Bool.{true}
use lib.ListN.{length}
use Rattle.numbers.proofs.Tests.{holds}
use Rattle.answer.specs.Numbers.{refusal_number}
use Rattle.slices.specs.Call.{lengths_kept}
use Rattle.slices.proofs.Calls.{lengths}
use Rattle.states.specs.States.{reader_length}
use Rattle.c_reader.proofs.Laws.{start_done, start_refused}
use Rattle.c_reader.proofs.start.Goals.{in-Ok, in_default}
use Rattle.c_reader.proofs.start.Goals as goal

pub returns : goal.returns
returns c =
    let a = c.args in
    let kept : lengths_kept (length a.state.now) reader_length (length a.answer.now) ≡ true = holds c.lengths_kept.ensures c.if-not-lengths_kept.false in
    let is = c.start-started.ensures in
    let said = c.plainly_told.ensures refusal_number in
    elim c.match-started.branch [
      | in-Ok w ↦
          start_done a.size a.first _ _ kept c.tell.ensures (rw w.in-Ok.is at is) (rw w.started-is at said) (w.state-is ∙ w.begin.ensures 4 (lengths _ _ _ kept).0)
      | in_default w ↦
          start_refused a.size a.first _ _ kept c.tell.ensures w.in_default.field-0 (rw w.in_default.is at is) (rw (w.started-is, w.in_default.is) at said) w.state-is
    ]
