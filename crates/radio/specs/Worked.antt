-- Worked examples of change request 2026-11, each with what is expected written out whole: messages of figures 51 and 52.
-- Assumes nothing.
use Rattle.std.specs.Prelude.{ℕ, List, [], ◌∷◌, ◌++◌, replicate}
use Rattle.answer.specs.Answer.{numbers_told}
use Rattle.radio.specs.Search.{find_call, told}

-- Figure 51's start with the length byte 04; a longer preamble; one zero byte before the pattern; the pattern at the end; two
-- messages, the first cut off; nothing.
abbrev pub messages : List (List ℕ)
messages =
    numbers_told (told (find_call (0x00 ∷ 0x00 ∷ 0x00 ∷ 0xB2 ∷ 0x4D ∷ 0x04 ∷ [])))
    ∷ numbers_told (told (find_call (0xFF ∷ replicate 5 0x00 ++ (0xB2 ∷ 0x4D ∷ 0x14 ∷ 0x00 ∷ []))))
    ∷ numbers_told (told (find_call (0x00 ∷ 0x00 ∷ 0xB2 ∷ 0x4D ∷ 0x04 ∷ [])))
    ∷ numbers_told (told (find_call (0x00 ∷ 0x00 ∷ 0x00 ∷ 0xB2 ∷ 0x4D ∷ [])))
    ∷ numbers_told (told (find_call (0x00 ∷ 0x00 ∷ 0x00 ∷ 0xB2 ∷ 0x00 ∷ 0x00 ∷ 0x00 ∷ 0xB2 ∷ 0x4D ∷ 0x04 ∷ [])))
    ∷ numbers_told (told (find_call []))
    ∷ []

abbrev pub messages_expected : List (List ℕ)
messages_expected =
    (0 ∷ 0 ∷ 1 ∷ 2 ∷ 5 ∷ 0 ∷ [])
    ∷ (0 ∷ 0 ∷ 1 ∷ 5 ∷ 8 ∷ 0 ∷ [])
    ∷ (0 ∷ 0 ∷ 0 ∷ 0 ∷ 0 ∷ 0 ∷ [])
    ∷ (0 ∷ 0 ∷ 0 ∷ 0 ∷ 0 ∷ 0 ∷ [])
    ∷ (0 ∷ 0 ∷ 1 ∷ 6 ∷ 9 ∷ 0 ∷ [])
    ∷ (0 ∷ 0 ∷ 0 ∷ 0 ∷ 0 ∷ 0 ∷ [])
    ∷ []
