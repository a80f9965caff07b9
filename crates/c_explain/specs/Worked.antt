-- Change request 2026-07: explanations from C, with every byte worked out by hand from the words of the request.
-- Assumes nothing.
use Rattle.std.specs.Prelude.{ℕ, List, [], ◌∷◌, ◌++◌, replicate}
use Rattle.slices.specs.Call.{Left}
use Rattle.c_explain.specs.Calls.{explains, dds_explain}

-- The state slice of a reader with L = 64 that is free, b4 clear, with the lower three bytes of its next number and its last byte,
-- accepted.
abbrev pub state_with : (a b c accepted : ℕ) → List ℕ
state_with a b c accepted = 0 ∷ 0 ∷ 0 ∷ 0x40 ∷ 0 ∷ a ∷ b ∷ c ∷ replicate 15 0 ++ (accepted ∷ [])

-- A group of 64 bytes with these three entries, the third first: 20 bytes of data, and the information table.
abbrev pub group_of : List ℕ → List ℕ
group_of table = replicate 20 0x41 ++ (table ++ replicate 32 0)

-- Case A, whose second entry is a separator of 0; and it with a separator of 2, with a skip in the second place, with its skip one too
-- many.
abbrev pub case_a : List ℕ
case_a = group_of (0x80 ∷ 0 ∷ 0 ∷ 0x2C ∷ 0x07 ∷ 0 ∷ 0 ∷ 0 ∷ 0x63 ∷ 0 ∷ 0 ∷ 0x14 ∷ [])

abbrev pub separator_of_two : List ℕ
separator_of_two = group_of (0x80 ∷ 0 ∷ 0 ∷ 0x2C ∷ 0x07 ∷ 0 ∷ 0 ∷ 2 ∷ 0x63 ∷ 0 ∷ 0 ∷ 0x14 ∷ [])

abbrev pub skip_in_the_middle : List ℕ
skip_in_the_middle = group_of (0x80 ∷ 0 ∷ 0 ∷ 0x2C ∷ 0x80 ∷ 0 ∷ 0 ∷ 0x2C ∷ 0x63 ∷ 0 ∷ 0 ∷ 0x14 ∷ [])

abbrev pub skip_of_45 : List ℕ
skip_of_45 = group_of (0x80 ∷ 0 ∷ 0 ∷ 0x2D ∷ 0x07 ∷ 0 ∷ 0 ∷ 0 ∷ 0x63 ∷ 0 ∷ 0 ∷ 0x14 ∷ [])

-- A number below 256 as eight bytes.
abbrev pub small : ℕ → List ℕ
small n = replicate 7 0 ++ (n ∷ [])

-- Seven numbers below 256.
abbrev pub smalls : (refusal place offset found least greatest kinds : ℕ) → List ℕ
smalls refusal place offset found least greatest kinds =
    small refusal ++ small place ++ small offset ++ small found ++ small least ++ small greatest ++ small kinds

-- A group of three entries explained in a state whose next number is 1, with this number and so many bytes of rows, into 56 bytes of EE.
abbrev pub shown : (group : List ℕ) (number rows : ℕ) → Left
shown group number rows = dds_explain (state_with 0 0 1 0) group number 3 (replicate rows 0) (replicate 56 0xEE)

-- Accepted; 20, 10 and 13 at their entries; 7; 5; a group of 65 bytes; a repeat; 5 where 65,536 is the next; a state slice of 23 bytes; an
-- explanation of 55 bytes.
abbrev pub explanations_shown : List Left
explanations_shown =
    shown case_a 1 36
    ∷ shown separator_of_two 1 36
    ∷ shown skip_in_the_middle 1 36
    ∷ shown skip_of_45 1 36
    ∷ shown case_a 1 35
    ∷ shown case_a 2 36
    ∷ shown (case_a ++ (0 ∷ [])) 1 36
    ∷ dds_explain (state_with 0 0 2 1) case_a 1 3 [] (replicate 56 0xEE)
    ∷ dds_explain (state_with 1 0 0 0) case_a 7 3 [] (replicate 56 0xEE)
    ∷ dds_explain (replicate 23 0) case_a 1 3 [] (replicate 56 0xEE)
    ∷ dds_explain (replicate 23 0) case_a 1 3 [] (replicate 55 0xEE)
    ∷ []

-- Entry 2 stands at byte 24, entry 3 at byte 20. After a record start, separator and entire are permitted: 8 + 2 + 32. 64 bytes less 20
-- are 44. Three rows are 36 bytes.
abbrev pub explanations_expected : List Left
explanations_expected =
    explains 0 (smalls 0 0 0 0 0 0 0)
    ∷ explains 20 (smalls 20 2 24 2 0 1 0)
    ∷ explains 10 (smalls 10 2 24 7 0 0 42)
    ∷ explains 13 (smalls 13 3 20 45 44 44 0)
    ∷ explains 7 (small 7 ++ small 0 ++ small 0 ++ small 35 ++ small 36 ++ replicate 8 0xFF ++ small 0)
    ∷ explains 5 (smalls 5 0 0 2 1 1 0)
    ∷ explains 4 (smalls 4 0 0 65 64 64 0)
    ∷ explains 0 (smalls 0 0 0 0 0 0 0)
    ∷ explains 5 (smalls 5 0 0 7 1 0 0)
    ∷ explains 1 (smalls 1 0 0 0 0 0 0)
    ∷ explains 24 (replicate 55 0xEE)
    ∷ []
