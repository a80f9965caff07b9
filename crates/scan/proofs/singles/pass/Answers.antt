-- `pass` meets its contract: a turn passes one entry, and what the scan gives stays. Assumes nothing.
use Rattle.std.proofs.Common.{refl, ◌∙◌, arith, rules}
use Rattle.scan.proofs.Stretches.{single_turn}
use Rattle.scan.proofs.singles.pass.Goals as goal

pub loop-behind-preserved : goal.loop-behind-preserved
loop-behind-preserved c =
    let l = c.loop-behind in
    let w = c.entry_word-word.ensures in
    let fits = c.if-limit-reached.false in
    record {
      behind = refl;
      some = omega arith;
      bounded = record { sum = omega arith; reached = omega arith };
      same =
          single_turn _ _ _ l.behind c.args.here l.sum l.reached _ _ (search rules) (omega arith) (omega arith) refl (c.single_data-data.ensures _ w (omega arith)) (omega (arith, w.small)) (omega arith)
          ∙ rw l.invariant.behind at l.invariant.same;
    }
