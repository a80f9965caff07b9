-- Change request 2026-07: what the call that explains a read returns and what it leaves in the explanation, for every input. It is the
-- crate explain's own on the state that the slice holds.
-- Assumes nothing.
use Rattle.std.specs.Prelude.{ℕ, List, [], ◌∷◌, Bool, cond, ◌&&◌, eqb, length}
use Rattle.numbers.specs.Numbers.{in_eights}
use Rattle.explain.specs.Explanation.{Explanation}
use Rattle.reasons.specs.Reasons.{no_reason}
use Rattle.explain.specs.Explanation.{explanation, explained}
use Rattle.slices.specs.Call.{Left, left}
use Rattle.states.specs.States.{reader_length, reader_of, reader_meant}

-- "seven 8-byte numbers"
abbrev pub explanation_length : ℕ
explanation_length = 56

-- "the refusal (0 if accepted), the place, the byte offset of that entry, the number found, the least and the greatest allowed, and the
-- permitted kinds"
abbrev pub explanation_numbers : Explanation → List ℕ
explanation_numbers x =
    x.refusal ∷ x.place ∷ x.offset ∷ x.why.found ∷ x.why.least ∷ x.why.greatest ∷ x.why.kinds ∷ []

-- What the call leaves: the number that it returns, and the one slice that it may write. It is lent no answer slice.
abbrev pub explains : (refusal : ℕ) (slice : List ℕ) → Left
explains refusal slice = left refusal (slice ∷ []) []

-- All seven go into the slice, and the first is returned.
abbrev pub tells : Explanation → Left
tells x = explains x.refusal (in_eights (explanation_numbers x))

-- A state slice of its length, whose numbers have a meaning.
abbrev pub state_kept : List ℕ → Bool
state_kept state = eqb (length state) reader_length && reader_meant state

-- "those of reading, put into the explanation": 1 too, where the slice holds no state. "Where a rule has no such number, as 1 .., zeros
-- stand." Of the rows only the length is asked.
unfoldable pub state_explained : (state group : List ℕ) (number n : ℕ) (rows : List ℕ) → Explanation
state_explained state group number n rows =
    cond (state_kept state) (explained (reader_of state) group number n (length rows)) (explanation 1 0 0 no_reason)

-- "24, which writes nothing, when the lent explanation buffer isn't 56 bytes, checked before all others"
unfoldable pub dds_explain : (state group : List ℕ) (number n : ℕ) (rows slice : List ℕ) → Left
dds_explain state group number n rows slice =
    cond (eqb (length slice) explanation_length) (tells (state_explained state group number n rows)) (explains 24 slice)
