-- Document 01, "Writing", at the standard's size: what fits into a fresh group and into one with an entry, by length. 126,632 - 32 - 4 * 2
-- is 126,592; 126,632 - 44 is 126,588.
-- Assumes nothing.
use Rattle.std.specs.Prelude.{ℕ, List, [], ◌∷◌, Bool, true, false}
use Rattle.laying.specs.declared.Writer.{Writer}
use Rattle.laying.specs.declared.Fit.{Fit}
use Rattle.laying.specs.declared.Fit.TheVariants.{Entire, Start, Close}
use Rattle.laying.specs.Start.{fresh_state}
use Rattle.laying.specs.Room.{room, fit_of, separator_fits, middle_length, last_with_total}
use Rattle.laying.specs.Laying.{holding}

-- A writer of the standard's size whose open group has d data bytes and e entries.
abbrev opened : (d e : ℕ) → Writer
opened d e = holding d e (fresh_state 126632 1)

-- How records go into it.
abbrev pub fits_shown : List Fit
fits_shown =
    fit_of 1 (room (opened 0 0))
    ∷ fit_of 126592 (room (opened 0 0))
    ∷ fit_of 126593 (room (opened 0 0))
    ∷ fit_of 16777215 (room (opened 0 0))
    ∷ fit_of 588 (room (opened 126000 1))
    ∷ fit_of 589 (room (opened 126000 1))
    ∷ fit_of 2 (room (opened 126587 1))
    ∷ fit_of 1 (room (opened 126588 1))
    ∷ fit_of 1 (room (opened 126592 1))
    ∷ []

-- An entire record up to the room and no longer; a start of all the room, of one byte too; nothing where there is none.
abbrev pub fits_expected : List Fit
fits_expected =
    Entire ∷ Entire ∷ Start 126592 ∷ Start 126592 ∷ Entire ∷ Start 588 ∷ Start 1 ∷ Close ∷ Close ∷ []

-- Whether a separator is laid at room 0 and at room -1; a middle, and the longest last that has its total with it.
abbrev pub separators_shown : List Bool
separators_shown = separator_fits (room (opened 126588 1)) ∷ separator_fits (room (opened 126589 1)) ∷ []

abbrev pub separators_expected : List Bool
separators_expected = true ∷ false ∷ []

abbrev pub parts_shown : List ℕ
parts_shown = middle_length (opened 0 0) ∷ last_with_total (opened 0 0) ∷ []

abbrev pub parts_expected : List ℕ
parts_expected = 126592 ∷ 126588 ∷ []
