-- Document 01, "Bench program": what lines are made of, as ASCII codes. That is words, numbers in decimal and the kinds' names,
-- which are written as they are printed.
-- Assumes nothing.
use Rattle.std.specs.Prelude.{ℕ, zero, suc, ◌+◌, ◌/◌, ◌%◌, List, [], ◌∷◌, ◌++◌, cond, ltb, get_or}
use Prim.Native.Char.{code}
use Prim.Native.String.{String}
use Prim.Native.String as text

-- The codes of a text.
abbrev pub ascii : String → List ℕ
ascii text.[] = []
ascii (text.◌∷◌ c s) = code c ∷ ascii s

-- A number in decimal: its digits, most significant first, with no zero in front of another digit. `most` digits are enough.
unfoldable pub decimal_in : ℕ → ℕ → List ℕ
decimal_in zero n = []
decimal_in (suc most) n = cond (ltb n 10) ((48 + n) ∷ []) (decimal_in most (n / 10) ++ ((48 + n % 10) ∷ []))

-- Twenty digits are enough for a number of 64 bits.
unfoldable pub decimal : ℕ → List ℕ
decimal n = decimal_in 20 n

-- A space and a number.
unfoldable pub field : ℕ → List ℕ
field n = ascii " " ++ decimal n

-- A word, then a space and a number.
unfoldable pub labelled : List ℕ → ℕ → List ℕ
labelled word n = word ++ field n

-- A newline.
abbrev pub newline : List ℕ
newline = 10 ∷ []

-- Document 01, "The group", the table's columns "kind" and "name", after kind 0, which is none.
abbrev pub kind_names : List (List ℕ)
kind_names =
    []
    ∷ ascii "total"
    ∷ ascii "separator"
    ∷ ascii "middle"
    ∷ ascii "start"
    ∷ ascii "last"
    ∷ ascii "entire"
    ∷ ascii "skip"
    ∷ []

unfoldable pub kind_name : ℕ → List ℕ
kind_name kind = get_or kind_names kind []
