-- Change request 2026-07, the explaining tool "beside the lister": the two lines that it prints after a refusal, as ASCII codes. The words
-- are written as they are printed.
-- Assumes nothing.
use Rattle.std.specs.Prelude.{ℕ, List, [], ◌∷◌, ◌++◌, cond, eqb, leb}
use Rattle.group.specs.declared.Kind.{Kind}
use Rattle.group.specs.Flags.{kind_number, kinds}
use Rattle.words.specs.Words.{ascii, decimal, labelled, newline, kind_name}
use Rattle.lines.specs.Text.{refusal_line}
use Rattle.reasons.specs.declared.Reason.{Reason}
use Rattle.reasons.specs.Truth.{is_permitted}
use Rattle.explain.specs.Explanation.{Explanation}

-- What is wrong, for each refusal that a run file can meet. 1, 4 and 7 it cannot: the program's own state is sound, its buffer is L bytes
-- long, and it has room for the rows (`always_words`).
abbrev pub wrongs : List (ℕ × List ℕ)
wrongs =
    (3, ascii "the first number is out of range")
    ∷ (5, ascii "the number is not the next")
    ∷ (6, ascii "the entry count is out of range")
    ∷ (8, ascii "no entry has this flag")
    ∷ (9, ascii "bit b4 went out")
    ∷ (10, ascii "this kind may not stand here")
    ∷ (19, ascii "a part of no bytes")
    ∷ (20, ascii "a separator above 1")
    ∷ (21, ascii "the record is too long")
    ∷ (22, ascii "the total is not the sum of its parts")
    ∷ (12, ascii "the data would pass into the table")
    ∷ (13, ascii "the skip count is wrong")
    ∷ (23, ascii "the total had room here")
    ∷ []

abbrev pub wrong_among : List (ℕ × List ℕ) → (refusal : ℕ) → List ℕ
wrong_among [] refusal = []
wrong_among (w ∷ ws) refusal = cond (eqb refusal w.0) w.1 (wrong_among ws refusal)

unfoldable pub wrong : (refusal : ℕ) → List ℕ
wrong refusal = wrong_among wrongs refusal

-- The entry's byte in its group, where there is an entry.
unfoldable pub byte_of : Explanation → List ℕ
byte_of x = cond (eqb x.place 0) [] (labelled (ascii " byte") x.offset)

-- Which group of the file, counted from 1, which byte of it, and what is wrong.
unfoldable pub where_line : (i : ℕ) → Explanation → List ℕ
where_line i x = labelled (ascii "group") i ++ (byte_of x ++ (ascii ": " ++ (wrong x.refusal ++ newline)))

-- The least and the greatest allowed; none is allowed where the least is the greater.
unfoldable pub limits : Reason → List ℕ
limits r =
    cond (leb r.least r.greatest) (ascii ", allowed " ++ (decimal r.least ++ (ascii " to " ++ decimal r.greatest)))
    (ascii ", none allowed")

-- The permitted kinds by name, in the order of their numbers.
abbrev pub names_among : List Kind → Reason → List ℕ
names_among [] r = []
names_among (k ∷ ks) r = cond (is_permitted r (kind_number k)) (ascii " " ++ kind_name (kind_number k)) [] ++ names_among ks r

unfoldable pub permitted_names : Reason → List ℕ
permitted_names r = cond (eqb r.kinds 0) (ascii " none") (names_among kinds r)

-- What was found: a kind by its name, a flag alone, and any other number with its limits.
unfoldable pub found_words : (refusal : ℕ) → Reason → List ℕ
found_words refusal r =
    cond (eqb refusal 10) (kind_name r.found ++ (ascii ", permitted" ++ permitted_names r))
    (decimal r.found ++ cond (eqb refusal 8) [] (limits r))

unfoldable pub found_line : Explanation → List ℕ
found_line x = ascii "found " ++ (found_words x.refusal x.why ++ newline)

-- The lister's own line, and then the reason in two.
unfoldable pub refused_lines : (i : ℕ) → Explanation → List ℕ
refused_lines i x = refusal_line x.refusal x.place ++ (where_line i x ++ found_line x)
