-- `put_explanation` meets its contract: zeros, or seven numbers one after another. Assumes nothing.
use Rattle.std.proofs.Common.{◌≡◌, refl, ap, ◌∙◌, replicate, sym, Some}
use Rattle.numbers.specs.Numbers.{bytes_of, in_eights}
use Rattle.numbers.proofs.Stores.{put_whole}
use Rattle.numbers.proofs.InEights.{eights_whole}
use Rattle.explain.specs.Explanation.{explanation_of, no_refusal}
use Rattle.c_explain.specs.Calls.{explains, explanation_numbers}
use Rattle.c_explain.proofs.put_explanation.Goals as goal

-- Seven numbers that are 0 are 56 zeros.
zeros_told : replicate 56 0 ≡ in_eights (explanation_numbers no_refusal)
unfolding in_eights bytes_of
zeros_told = refl

pub returns-in_default : goal.returns-in_default
returns-in_default c = rw (c.in_default.is, c.put_zeros.ensures) (ap (explains 0) (put_whole c.args.slice.now (replicate 56 0) (sym c.requires) ∙ zeros_told))

pub returns : goal.returns
returns c =
    rw (c.in-Some.is, c.put_eight-7.ensures, c.put_eight-6.ensures, c.put_eight-5.ensures, c.put_eight-4.ensures, c.put_eight-3.ensures, c.put_eight-2.ensures, c.put_eight.ensures, c.number-refusal.ensures)
    (ap (explains _) (eights_whole c.args.slice.now (explanation_numbers (explanation_of (Some c.in-Some.x))) c.requires))
