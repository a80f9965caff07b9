-- The law of SW2: its fields, put together by shifts and ors, are those of its definition.
-- Assumes nothing.
use mathlib.Core.Path.{◌≡◌, ap, ◌∙◌}
use Prim.Native.Nat.{ℕ, ◌+◌, ◌*◌, ◌%◌, ◌<◌}
use native.Mathlib.Omega.{arith}
use lib.Bits.{bit_or, or_shifted, or_shifted_r}

-- SW2: b8 and the Pack ID over the block number.
pub sw2_made : (pack block : ℕ) → pack < 8 → block < 16 → bit_or (bit_or (pack * 16 % 256) 128) block ≡ 128 + 16 * pack + block
sw2_made pack block p b =
    let small : pack * 16 % 256 ≡ pack * 16 = omega arith in
    let high : bit_or (pack * 16) 128 ≡ (8 + pack) * 16 = or_shifted_r 1 7 (pack * 16) (omega arith) ∙ omega arith in
    ap (λ (n : ℕ). bit_or n block) (ap (λ (n : ℕ). bit_or n 128) small ∙ high) ∙ or_shifted (8 + pack) 4 block b ∙ omega arith
