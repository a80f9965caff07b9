-- Document 01, "What the box holds" and "Writing": a writer's state slice after a start, after a record that is laid and after one that
-- closes its group, with every byte worked out by hand.
-- Assumes nothing.
use Rattle.std.specs.Prelude.{ℕ, List, [], ◌∷◌, ◌++◌, replicate}
use Rattle.slices.specs.Call.{Left, left}
use Rattle.c_writer.specs.Calls.{dds_writer_start, dds_record}

-- A number below 256 in four bytes.
abbrev small : ℕ → List ℕ
small n = 0 ∷ 0 ∷ 0 ∷ n ∷ []

-- L = 64, next number 7, free, sum 0, 5 data bytes, one entry, b4 set, no rest; and its group, of EE where nothing is said.
abbrev lent : List ℕ
lent = small 64 ++ (small 7 ++ (small 0 ++ (small 0 ++ (small 5 ++ (small 1 ++ (small 1 ++ small 0))))))

abbrev group : List ℕ
group = replicate 28 0xEE ++ ((0x6B ∷ 0 ∷ 0 ∷ 5 ∷ []) ++ replicate 32 0xEE)

-- A start with L and first number 513; a record of 3 bytes; one of 30 bytes, which meets a room of 64 - 32 - 4 * 3 - 5 = 15.
abbrev pub calls_shown : List Left
calls_shown =
    dds_writer_start 126632 513 (replicate 32 0xEE) (replicate 24 0xEE)
    ∷ dds_record lent group (replicate 3 0x41) 0 (replicate 24 0xEE)
    ∷ dds_record lent group (replicate 30 0x41) 0 (replicate 24 0xEE)
    ∷ []

-- L, the next number and zeros. Laid: 8 data bytes, two entries, b4 as it was; the bytes behind the data, the entry below the other.
-- Closed: the next number is 8, inside, sum 15, nothing laid, b4 still set, rest 15; a start and a skip of 64 - 20 = 44, both with
-- b4; the answer says outcome 1, number 7, three entries, 15 taken.
abbrev pub calls_expected : List Left
calls_expected =
    left 0 ((0x00 ∷ 0x01 ∷ 0xEE ∷ 0xA8 ∷ 0x00 ∷ 0x00 ∷ 0x02 ∷ 0x01 ∷ replicate 24 0) ∷ []) (replicate 24 0)
    ∷ left 0
    ((small 64 ++ (small 7 ++ (small 0 ++ (small 0 ++ (small 8 ++ (small 2 ++ (small 1 ++ small 0)))))))
    ∷ (replicate 5 0xEE ++ (replicate 3 0x41 ++ (replicate 16 0xEE ++ ((0x6B ∷ 0 ∷ 0 ∷ 3 ∷ 0x6B ∷ 0 ∷ 0 ∷ 5 ∷ []) ++ replicate 32 0xEE))))
    ∷ []) (replicate 24 0)
    ∷ left 0
    ((small 64 ++ (small 8 ++ (small 1 ++ (small 15 ++ (small 0 ++ (small 0 ++ (small 1 ++ small 15)))))))
    ∷ (replicate 5 0xEE ++ (replicate 15 0x41 ++ ((0x88 ∷ 0 ∷ 0 ∷ 44 ∷ 0x4A ∷ 0 ∷ 0 ∷ 15 ∷ 0x6B ∷ 0 ∷ 0 ∷ 5 ∷ []) ++ replicate 32 0xEE)))
    ∷ []) (small 0 ++ (small 0 ++ (small 1 ++ (small 7 ++ (small 3 ++ small 15)))))
    ∷ []
