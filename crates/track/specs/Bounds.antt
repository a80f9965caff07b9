-- Serves contracts and proofs only: how large numbers are where the code puts them together.
-- Assumes nothing.
use Rattle.std.specs.Prelude.{ℕ, ◌<◌, List}
use Rattle.track.specs.Blocks.{pack_in}

-- Each block's Pack ID has room in three bits.
abbrev pub PacksKept : List ℕ → Type 0
PacksKept packs = (block : ℕ) → block < 16 → pack_in packs block < 8
