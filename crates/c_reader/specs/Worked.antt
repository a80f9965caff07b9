-- Document 01, "What the box holds": a reader's state slice after a start, what a refused start leaves, and the repeats of change
-- request 2026-05, with every byte worked out by hand. 126,632 is 01 EE A8, 513 is 02 01.
-- Assumes nothing.
use Rattle.std.specs.Prelude.{ℕ, List, [], ◌∷◌, ◌++◌, replicate}
use Rattle.slices.specs.Call.{Left, left}
use Rattle.c_reader.specs.Calls.{dds_reader_start, dds_read}

-- Slices of EE: a start with L and first number 513; one with first number 0, which is 3; one whose state slice has the
-- 20 bytes of before change request 2026-05.
abbrev pub starts_shown : List Left
starts_shown =
    dds_reader_start 126632 513 (replicate 24 0xEE) (replicate 24 0xEE)
    ∷ dds_reader_start 64 0 (replicate 24 0xEE) (replicate 24 0xEE)
    ∷ dds_reader_start 64 1 (replicate 20 0xEE) (replicate 24 0xEE)
    ∷ []

-- L, the next number, free, a sum of 0, b4 clear and no group accepted; the answer of zeros. Refused, the state stays; by length,
-- all stays.
abbrev pub starts_expected : List Left
starts_expected =
    left 0 ((0x00 ∷ 0x01 ∷ 0xEE ∷ 0xA8 ∷ 0x00 ∷ 0x00 ∷ 0x02 ∷ 0x01 ∷ replicate 16 0) ∷ []) (replicate 24 0)
    ∷ left 3 (replicate 24 0xEE ∷ []) (0 ∷ 0 ∷ 0 ∷ 3 ∷ replicate 20 0)
    ∷ left 1 (replicate 20 0xEE ∷ []) (replicate 24 0xEE)
    ∷ []

-- The state slice of a reader with L = 64 that is free, b4 clear, with the lower three bytes of its next number and its last byte,
-- accepted.
abbrev pub state_with : (a b c accepted : ℕ) → List ℕ
state_with a b c accepted = 0 ∷ 0 ∷ 0 ∷ 0x40 ∷ 0 ∷ a ∷ b ∷ c ∷ replicate 15 0 ++ (accepted ∷ [])

-- A read of so many bytes of EE with a number, no entries and no rows.
abbrev pub read_of : (state : List ℕ) (long number : ℕ) → Left
read_of state long number = dds_read state (replicate long 0xEE) number 0 [] (replicate 24 0xEE)

-- What it leaves where it is a repeat: outcome 2. And where it is refused: the number.
abbrev pub repeat_of : List ℕ → Left
repeat_of state = left 0 (state ∷ [] ∷ []) (replicate 11 0 ++ (2 ∷ replicate 12 0))

abbrev pub refused_with : ℕ → List ℕ → Left
refused_with refusal state = left refusal (state ∷ [] ∷ []) (0 ∷ 0 ∷ 0 ∷ refusal ∷ replicate 20 0)

-- Number 1 where 2 is the next and a group was accepted; 65,535 where 65,536 is the next. The first in 63 bytes, which is 4. Both where
-- no group was accepted, which is 5; accepted above 1, and accepted at next number 1, which are 1.
abbrev pub repeats_shown : List Left
repeats_shown =
    read_of (state_with 0 0 2 1) 64 1
    ∷ read_of (state_with 1 0 0 1) 64 65535
    ∷ read_of (state_with 0 0 2 1) 63 1
    ∷ read_of (state_with 0 0 2 0) 64 1
    ∷ read_of (state_with 1 0 0 0) 64 65535
    ∷ read_of (state_with 0 0 2 2) 64 1
    ∷ read_of (state_with 0 0 1 1) 64 0
    ∷ []

abbrev pub repeats_expected : List Left
repeats_expected =
    repeat_of (state_with 0 0 2 1)
    ∷ repeat_of (state_with 1 0 0 1)
    ∷ refused_with 4 (state_with 0 0 2 1)
    ∷ refused_with 5 (state_with 0 0 2 0)
    ∷ refused_with 5 (state_with 1 0 0 0)
    ∷ refused_with 1 (state_with 0 0 2 2)
    ∷ refused_with 1 (state_with 0 0 1 1)
    ∷ []
