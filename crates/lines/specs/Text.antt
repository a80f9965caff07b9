-- Document 01, "Bench program", with change request 2026-05: what is printed, as ASCII codes. The words are written as they are
-- printed.
-- Assumes nothing.
use Rattle.std.specs.Prelude.{ℕ, zero, suc, ◌+◌, ◌*◌, List, [], ◌++◌, get_or}
use Rattle.group.specs.declared.Phase.{Phase}
use Rattle.group.specs.declared.Phase.TheVariants.{Free, Inside, Owed}
use Rattle.words.specs.Words.{ascii, field, labelled, newline, kind_name}

-- "a line `group`, number, `entries`, count"
unfoldable pub group_line : ℕ → ℕ → List ℕ
group_line number entries = labelled (ascii "group") number ++ (labelled (ascii " entries") entries ++ newline)

-- "then per row name, offset, count"
unfoldable pub row_line : (kind offset count : ℕ) → List ℕ
row_line kind offset count = kind_name kind ++ (field offset ++ (field count ++ newline))

-- The lines of the first n rows, three numbers each.
unfoldable pub row_lines : ℕ → List ℕ → List ℕ
row_lines zero rows = []
row_lines (suc n) rows =
    row_lines n rows ++ row_line (get_or rows (3 * n) 0) (get_or rows (3 * n + 1) 0) (get_or rows (3 * n + 2) 0)

-- What is printed of an accepted group.
unfoldable pub group_lines : ℕ → ℕ → List ℕ → List ℕ
group_lines number entries rows = group_line number entries ++ row_lines entries rows

-- 2026-05: "The lister prints `repeat` and the number."
unfoldable pub repeat_line : ℕ → List ℕ
repeat_line number = labelled (ascii "repeat") number ++ newline

-- "A refusal prints `refused R at K`"
unfoldable pub refusal_line : ℕ → ℕ → List ℕ
refusal_line refusal place = labelled (ascii "refused") refusal ++ (labelled (ascii " at") place ++ newline)

-- "`end`, then `free`, `inside` or `owed`, then the sum"
unfoldable pub ending : Phase → List ℕ
ending Free = ascii "end free"
ending Inside = ascii "end inside"
ending Owed = ascii "end owed"

unfoldable pub end_line : Phase → ℕ → List ℕ
end_line phase sum = ending phase ++ (field sum ++ newline)

-- "A section out of range, short input or extra bytes print `bad run file`"
unfoldable pub bad_line : List ℕ
bad_line = ascii "bad run file" ++ newline
