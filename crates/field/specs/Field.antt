-- Change request 2026-08: "The field is bytes modulo x^8 + x^4 + x^3 + x^2 + 1 with α = 2." Bit k of a byte is the coefficient
-- of x^k (source document 003, 14.5.3, has the same field).
-- Assumes nothing.
use Rattle.std.specs.Prelude.{ℕ, zero, suc, ◌*◌, ◌/◌, ◌%◌}
use Rattle.std.specs.Int.Bits.{bit_xor}

infixl 60 ◌⊕◌
-- The sum of two bytes: coefficients add modulo 2.
unfoldable pub ◌⊕◌ : ℕ → ℕ → ℕ
a ⊕ b = bit_xor a b

-- x^8 + x^4 + x^3 + x^2 + 1
unfoldable pub polynomial : ℕ
polynomial = 0x11D

-- α times a byte: every coefficient one higher, and the polynomial taken away where x^8 appears.
unfoldable pub times_alpha : ℕ → ℕ
times_alpha byte = (byte * 2) ⊕ (byte / 128 % 2 * polynomial)

-- α^k times a byte
unfoldable pub times : ℕ → ℕ → ℕ
times zero byte = byte
times (suc k) byte = times_alpha (times k byte)

-- α^k
unfoldable pub power : ℕ → ℕ
power k = times k 1

-- The plain product modulo the polynomial, over the k low bits of the first: a bit times the second, and α times the rest.
unfoldable pub product_over : (k a b : ℕ) → ℕ
product_over zero a b = 0
product_over (suc k) a b = (a % 2 * b) ⊕ times_alpha (product_over k (a / 2) b)

unfoldable pub product : ℕ → ℕ → ℕ
product a b = product_over 8 a b
