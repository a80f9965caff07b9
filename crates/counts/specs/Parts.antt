-- Serves contracts and proofs only: what a part's count alone breaks.
-- Assumes nothing.
use Rattle.std.specs.Prelude.{ℕ, cond, not, leb}

-- 19 and 21 of a part with this count, up to which the parts add to so much, where `most` is allowed.
abbrev pub part_fault : (count parts most : ℕ) → ℕ
part_fault count parts most = cond (not (leb 1 count)) 19 (cond (not (leb parts most)) 21 0)
