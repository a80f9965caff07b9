-- Worked examples of change request 2026-11, each with what is expected written out whole: volumes of figure 46.
-- Assumes nothing.
use Rattle.std.specs.Prelude.{ℕ, List, [], ◌∷◌, ◌++◌, replicate}
use Rattle.answer.specs.Answer.{numbers_told}
use Rattle.volume.specs.Information.{volume_of, fields_of, make_refusal, read_refusal, answer_of, told}

-- What a call leaves and what it tells.
pub record Shown : Type 0 where
  pub bytes : List ℕ
  pub told : List ℕ

abbrev pub shown : (bytes told : List ℕ) → Shown
shown bytes told = record { bytes = bytes; told = told }

-- The six numbers of an answer: accepted, with an outcome; refused.
abbrev pub accepted : ℕ → List ℕ
accepted outcome = 0 ∷ 0 ∷ outcome ∷ 0 ∷ 0 ∷ 0 ∷ []

abbrev pub refused : ℕ → List ℕ
refused refusal = refusal ∷ 0 ∷ 0 ∷ 0 ∷ 0 ∷ 0 ∷ []

-- Fields: partitions 1, 2 and 3, a map of 32 bytes.
abbrev pub fields : (thickness flags : ℕ) → List ℕ
fields thickness flags = 1 ∷ 2 ∷ thickness ∷ flags ∷ 3 ∷ replicate 32 0xA5

-- Volumes of them: 72 bytes, the first and the last as said.
abbrev pub volume : (first thickness flags last : ℕ) → List ℕ
volume first thickness flags last =
    (first ∷ 0 ∷ 0 ∷ 1 ∷ 2 ∷ thickness ∷ flags ∷ 3 ∷ replicate 32 0xA5) ++ replicate 31 0 ++ (last ∷ [])

unfoldable pub makes : List ℕ → Shown
makes lent = shown (volume_of lent) (numbers_told (told (answer_of (make_refusal lent 72) lent)))

unfoldable pub reads : List ℕ → Shown
reads lent = shown (fields_of lent) (numbers_told (told (answer_of (read_refusal lent 37) (fields_of lent))))

-- Both types, bits 1 to 4 of the flags all clear, bit 4 set, and all set.
abbrev pub volumes : List Shown
volumes =
    makes (fields 0x2E 0x10) ∷ reads (volume 0 0x2E 0x10 0)
    ∷ makes (fields 0x41 0x18) ∷ reads (volume 0 0x41 0x18 0)
    ∷ makes (fields 0x7F 0x1F) ∷ reads (volume 0 0x7F 0x1F 0)
    ∷ []

abbrev pub volumes_expected : List Shown
volumes_expected =
    shown (volume 0 0x2E 0x10 0) (accepted 0) ∷ shown (fields 0x2E 0x10) (accepted 0)
    ∷ shown (volume 0 0x41 0x18 0) (accepted 1) ∷ shown (fields 0x41 0x18) (accepted 1)
    ∷ shown (volume 0 0x7F 0x1F 0) (accepted 1) ∷ shown (fields 0x7F 0x1F) (accepted 1)
    ∷ []

-- What is refused: lengths; reserved bytes; thickness 10 and 11; flags with bit 5 clear, with bits 6, 7 and 8 set; of several the first.
abbrev pub refusals : List (List ℕ)
refusals =
    (makes (1 ∷ fields 0x2E 0x10)).told ∷ (reads (1 ∷ volume 0 0x2E 0x10 0)).told
    ∷ (reads (volume 1 0x2E 0x10 0)).told ∷ (reads (volume 0 0x2E 0x10 1)).told
    ∷ (makes (fields 0x80 0x10)).told ∷ (reads (volume 0 0xC0 0x10 0)).told
    ∷ (makes (fields 0x2E 0x0F)).told ∷ (reads (volume 0 0x2E 0x30 0)).told
    ∷ (reads (volume 0 0x2E 0x50 0)).told ∷ (makes (fields 0x2E 0x90)).told
    ∷ (reads (volume 1 0x80 0x00 0)).told ∷ (reads (volume 0 0x80 0x00 0)).told
    ∷ []

abbrev pub refusals_expected : List (List ℕ)
refusals_expected =
    refused 60 ∷ refused 60
    ∷ refused 61 ∷ refused 61
    ∷ refused 62 ∷ refused 62
    ∷ refused 63 ∷ refused 63
    ∷ refused 63 ∷ refused 63
    ∷ refused 61 ∷ refused 62
    ∷ []
