-- Refusals explained in lines, worked out by hand: each form of both lines.
-- Assumes nothing.
use Rattle.std.specs.Prelude.{ℕ, List, [], ◌∷◌, ◌++◌}
use Rattle.words.specs.Words.{ascii, newline}
use Rattle.reasons.specs.Reasons.{reason}
use Rattle.explain.specs.Explanation.{explanation}
use Rattle.reason_lines.specs.Lines.{refused_lines}

-- In the second group a total of 24 where the parts add to 25. A skip at the first of several entries, between records and inside one.
-- Number 7 where 65,536 is the next. A flag that no entry has.
abbrev pub lines_shown : List (List ℕ)
lines_shown =
    refused_lines 2 (explanation 22 2 24 (reason 24 25 25 0))
    ∷ refused_lines 1 (explanation 10 1 28 (reason 7 0 0 42))
    ∷ refused_lines 1 (explanation 10 2 24 (reason 7 0 0 0))
    ∷ refused_lines 1024 (explanation 5 0 0 (reason 7 1 0 0))
    ∷ refused_lines 1 (explanation 8 3 20 (reason 129 0 0 0))
    ∷ []

-- Three lines.
abbrev pub three : (a b c : List ℕ) → List ℕ
three a b c = a ++ newline ++ b ++ newline ++ c ++ newline

abbrev pub lines_expected : List (List ℕ)
lines_expected =
    three (ascii "refused 22 at 2") (ascii "group 2 byte 24: the total is not the sum of its parts") (ascii "found 24, allowed 25 to 25")
    ∷ three (ascii "refused 10 at 1") (ascii "group 1 byte 28: this kind may not stand here") (ascii "found skip, permitted separator start entire")
    ∷ three (ascii "refused 10 at 2") (ascii "group 1 byte 24: this kind may not stand here") (ascii "found skip, permitted none")
    ∷ three (ascii "refused 5 at 0") (ascii "group 1024: the number is not the next") (ascii "found 7, none allowed")
    ∷ three (ascii "refused 8 at 3") (ascii "group 1 byte 20: no entry has this flag") (ascii "found 129")
    ∷ []
