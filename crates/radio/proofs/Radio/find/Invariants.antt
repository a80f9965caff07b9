-- Before each turn of `Radio::find` the first place from this one on is the first of all. Assumes nothing.
use Rattle.radio.proofs.SearchLaws.{Searching}
use Rattle.radio.proofs.Radio.find.Given as goal

abbrev pub invariant-loop-place : goal.invariant-loop-place
invariant-loop-place l = Searching l.received l.place
