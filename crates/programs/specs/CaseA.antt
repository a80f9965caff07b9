-- Document 01, "Case A": its input, and its output, whole.
-- Assumes nothing.
use Rattle.std.specs.Prelude.{ℕ, List, ◌∷◌, ◌++◌, replicate}
use Rattle.words.specs.Words.{ascii, newline}

-- "20 bytes 41; then 80 00 00 2C, 07 00 00 00, 63 00 00 14; then 32 zero bytes"
abbrev pub image : List ℕ
image = replicate 20 0x41 ++ (0x80 ∷ 0 ∷ 0 ∷ 0x2C ∷ 0x07 ∷ 0 ∷ 0 ∷ 0 ∷ 0x63 ∷ 0 ∷ 0 ∷ 0x14 ∷ replicate 32 0)

-- "Its input is 00 00 00 01, 00 00 00 40, 00 00 00 01, 00 01 00 03, 00 00 00 40 and that image."
abbrev pub input : List ℕ
input = 0 ∷ 0 ∷ 0 ∷ 1 ∷ 0 ∷ 0 ∷ 0 ∷ 0x40 ∷ 0 ∷ 0 ∷ 0 ∷ 1 ∷ 0 ∷ 1 ∷ 0 ∷ 3 ∷ 0 ∷ 0 ∷ 0 ∷ 0x40 ∷ image

-- "Output, whole"
abbrev pub output : List ℕ
output =
    ascii "group 1 entries 3" ++ newline
    ++ ascii "entire 0 20" ++ newline
    ++ ascii "separator 20 0" ++ newline
    ++ ascii "skip 20 44" ++ newline
    ++ ascii "end free 0" ++ newline
