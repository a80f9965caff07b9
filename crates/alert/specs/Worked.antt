-- Worked examples of change request 2026-11, each with what is expected written out whole: flags of 18.3.10.
-- Assumes nothing.
use Rattle.std.specs.Prelude.{ℕ, List, [], ◌∷◌, ◌++◌, replicate}
use Rattle.answer.specs.Answer.{numbers_told}
use Rattle.alert.specs.Flags.{alert_of, make_call, read_call, told}

-- No flag, flag 1, flag 64, flags 12 and 56, all flags; seven bytes.
abbrev pub alerts : List (List ℕ)
alerts =
    numbers_told (told (read_call (replicate 8 0)))
    ∷ numbers_told (told (read_call (0x80 ∷ replicate 7 0)))
    ∷ numbers_told (told (read_call (replicate 7 0 ++ (0x01 ∷ []))))
    ∷ numbers_told (told (read_call (0x00 ∷ 0x10 ∷ 0x00 ∷ 0x00 ∷ 0x00 ∷ 0x00 ∷ 0x01 ∷ 0x00 ∷ [])))
    ∷ numbers_told (told (make_call 0xFFFFFFFF 0xFFFFFFFF 8))
    ∷ numbers_told (told (read_call (replicate 7 0)))
    ∷ alert_of 0x00100000 0x00000100
    ∷ []

abbrev pub alerts_expected : List (List ℕ)
alerts_expected =
    (0 ∷ 0 ∷ 0 ∷ 0 ∷ 0 ∷ 0 ∷ [])
    ∷ (0 ∷ 0 ∷ 1 ∷ 1 ∷ 0x80000000 ∷ 0 ∷ [])
    ∷ (0 ∷ 0 ∷ 1 ∷ 64 ∷ 0 ∷ 1 ∷ [])
    ∷ (0 ∷ 0 ∷ 2 ∷ 12 ∷ 0x00100000 ∷ 0x00000100 ∷ [])
    ∷ (0 ∷ 0 ∷ 64 ∷ 1 ∷ 0xFFFFFFFF ∷ 0xFFFFFFFF ∷ [])
    ∷ (60 ∷ 0 ∷ 0 ∷ 0 ∷ 0 ∷ 0 ∷ [])
    ∷ (0x00 ∷ 0x10 ∷ 0x00 ∷ 0x00 ∷ 0x00 ∷ 0x00 ∷ 0x01 ∷ 0x00 ∷ [])
    ∷ []
