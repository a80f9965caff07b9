-- `put_writer` meets its contract: eight numbers, one after another. Assumes nothing.
use Rattle.numbers.proofs.InBytes.{puts_whole}
use Rattle.states.specs.States.{writer_numbers}
use Rattle.storing.proofs.Casts.{phase_cast, b4_cast}
use Rattle.storing.proofs.put_writer.Goals as goal

pub returns : goal.returns
returns c =
    let w = c.args.w in
    rw (c.keep-8.ensures, c.keep-7.ensures, c.keep-6.ensures, c.keep-5.ensures, c.keep-4.ensures, c.keep-3.ensures, c.keep-2.ensures, c.keep.ensures, c.from.ensures, b4_cast w.warned, phase_cast w.phase)
    (puts_whole c.args.slice.now (writer_numbers w) c.requires)
