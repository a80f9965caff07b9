-- Numbers: ranges, a list made by a rule, and numbers as bytes, "most significant byte first", over how many bytes each has.
-- Assumes nothing.
use Rattle.std.specs.Prelude.{ℕ, zero, suc, ◌+◌, ◌*◌, ◌/◌, ◌%◌, ◌^◌, ◌<◌, Bool, ◌&&◌, List, [], ◌∷◌, ◌++◌, leb, get_or}

-- A number from low to high, both with it.
abbrev pub between : (low n high : ℕ) → Bool
between low n high = leb low n && leb n high

-- f at each of n numbers from i.
abbrev pub listed : {A : Type 0} → (f : ℕ → A) → (i n : ℕ) → List A
listed f i zero = []
listed f i (suc n) = f i ∷ listed f (suc i) n

-- The number of so many bytes that stands at `at`.
unfoldable pub number_at : ℕ → List ℕ → ℕ → ℕ
number_at zero bytes at = 0
number_at (suc more) bytes at = get_or bytes at 0 * 256 ^ more + number_at more bytes (at + 1)

-- A number's so many bytes.
unfoldable pub bytes_of : ℕ → ℕ → List ℕ
bytes_of zero n = []
bytes_of (suc more) n = n / 256 ^ more % 256 ∷ bytes_of more n

-- "each number four bytes, most significant first"
unfoldable pub in_bytes : List ℕ → List ℕ
in_bytes [] = []
in_bytes (n ∷ ns) = bytes_of 4 n ++ in_bytes ns

-- Change request 2026-07: "8-byte numbers, most significant byte first".
unfoldable pub in_eights : List ℕ → List ℕ
in_eights [] = []
in_eights (n ∷ ns) = bytes_of 8 n ++ in_eights ns

-- The numbers that stand in bytes, four each.
unfoldable pub numbers_in : List ℕ → List ℕ
numbers_in [] = []
numbers_in (a ∷ []) = []
numbers_in (a ∷ b ∷ []) = []
numbers_in (a ∷ b ∷ c ∷ []) = []
numbers_in (a ∷ b ∷ c ∷ d ∷ more) = number_at 4 (a ∷ b ∷ c ∷ d ∷ []) 0 ∷ numbers_in more

-- The k-th number that stands in bytes, k from 0.
abbrev pub field : (bytes : List ℕ) (k : ℕ) → ℕ
field bytes k = number_at 4 bytes (4 * k)

-- A list of bytes, as every byte slice is one: each number in it is below 256.
abbrev pub Bytes : List ℕ → Type 0
Bytes s = (i : ℕ) → get_or s i 0 < 256
