-- `Track::make` meets its contract: lengths, the judgement, and the track and the numbers where it accepts. Assumes nothing.
use mathlib.Core.Path.{sym}
use borrow.Author.Rules.{rules}
use Rattle.header.proofs.TakenApart.{area_small}
use Rattle.track.proofs.Judged.{make_kept, packs_small, makes_none}
use Rattle.track.proofs.Track.make.Goals as goal

pub returns-in_err-packs : goal.returns-in_err-packs
returns-in_err-packs c = makes_none _ _ (search rules) (λ l. search rules) (search rules) (search rules)

pub returns-in_err-items : goal.returns-in_err-items
returns-in_err-items c = makes_none _ _ (search rules) (λ l. search rules) (search rules) (search rules)

pub returns-in_err-track : goal.returns-in_err-track
returns-in_err-track c = makes_none _ _ (search rules) (λ l. search rules) (search rules) (search rules)

pub returns-in_err-numbers : goal.returns-in_err-numbers
returns-in_err-numbers c = makes_none _ _ (search rules) (λ l. search rules) (search rules) (search rules)

pub put_track-requires-clause-area_bound : goal.put_track-requires-clause-area_bound
put_track-requires-clause-area_bound c = area_small _ (make_kept _ _ _ _ _ (sym c.in_ok-judge_making.ensures)).allowed

pub put_track-requires-clause-pack_bounds : goal.put_track-requires-clause-pack_bounds
put_track-requires-clause-pack_bounds c = packs_small _ _ _ _ _ (make_kept _ _ _ _ _ (sym c.in_ok-judge_making.ensures))
