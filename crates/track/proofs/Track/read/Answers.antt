-- `Track::read` meets its contract: lengths, the judgement, and what the track holds where it accepts. Assumes nothing.
use borrow.Author.Rules.{rules}
use Rattle.track.proofs.Judged.{reads_none}
use Rattle.track.proofs.Track.read.Goals as goal

pub returns-in_err-track : goal.returns-in_err-track
returns-in_err-track c = reads_none _ _ (search rules) (λ l. search rules) (search rules) (search rules) (search rules)

pub returns-in_err-packs : goal.returns-in_err-packs
returns-in_err-packs c = reads_none _ _ (search rules) (λ l. search rules) (search rules) (search rules) (search rules)

pub returns-in_err-items : goal.returns-in_err-items
returns-in_err-items c = reads_none _ _ (search rules) (λ l. search rules) (search rules) (search rules) (search rules)

pub returns-in_err-numbers : goal.returns-in_err-numbers
returns-in_err-numbers c = reads_none _ _ (search rules) (λ l. search rules) (search rules) (search rules) (search rules)
