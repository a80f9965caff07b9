-- `group` goes on as its step does, and stops where that could not be written. Assumes nothing.
use Rattle.std.proofs.Common.{rules, ℕ, ◌≡◌, sym, ap, subst, ◌∙◌, false, is_some, List, [], replicate, Option, None, Bor}
use Rattle.std.proofs.lemmas.List.{length-replicate}
use Rattle.reader.specs.declared.Reader.{Reader}
use Rattle.sections.specs.declared.Pair.{Pair}
use Rattle.sections.specs.Sections.{pair_at}
use Rattle.telling.specs.Telling.{Step, bad_step, image_of}
use Rattle.programs.specs.Steps.{Program, group_of}
use Rattle.programs.proofs.StepLaws.{group_short}
use Rattle.runfile.specs.Follows.{Follows}
use Rattle.runfile.proofs.Run.group.Goals.{in-Ok, in-Err}
use Rattle.runfile.proofs.Run.group.Goals as goal

-- A run that stops goes on as after an image cut short.
stopped : (p : Program) (i : ℕ) (s : Reader) (size : ℕ) (pair : Pair) {then : Option Reader} → then ≡ None → Follows p i s size pair then
unfolding bad_step
stopped p i s size pair e =
    record {
      whole = false;
      image = replicate size 0;
      long = length-replicate size 0;
      goes = e ∙ sym (ap (λ (step : Step). step.then) (group_short p i s (replicate size 0) pair));
    }

-- So does one whose image was cut short.
short : (p : Program) (i : ℕ) (s : Reader) (size : ℕ) (pair : Pair) {then : Option Reader} (image : List ℕ)
    → then ≡ (group_of p i s false image pair).then → Follows p i s size pair then
unfolding bad_step
short p i s size pair image e = stopped p i s size pair (e ∙ ap (λ (step : Step). step.then) (group_short p i s image pair))

pub returns-in_err-ok : goal.returns-in_err-ok
returns-in_err-ok g c = stopped g.P.Steps.program _ _ _ _ c.from_residual.ensures

pub returns : goal.returns
returns g c =
    let went = c.tell_group_of-then.ensures.goes in
    elim c.match-read_whole.branch [
      | in-Ok w ↦ record { whole = is_some c.match-read_whole.image; image = image_of c.match-read_whole.image; long = rw w.image-is (search rules); goes = went }
      | in-Err w ↦
          short g.P.Steps.program _ _ _ _ []
          (subst (λ (image : Option (Bor (List ℕ))). c.tell_group_of-then.result ≡ (group_of g.P.Steps.program c.args.i c.args.reader (is_some image) (image_of image) (pair_at c.args.sections.now.bytes c.args.i)).then) w.image-is went)
    ]
