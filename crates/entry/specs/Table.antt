-- Document 01: "We neither read nor write those 32 bytes." What a read looks at: the table of n entries, and nothing else of the
-- group.
-- Assumes nothing.
use Rattle.std.specs.Prelude.{ℕ, ◌-◌, ◌≤◌, ◌<◌, List, ◌≡◌, length, get_or}
use Rattle.group.specs.Sizes.{information_length, entry_offset}

-- Two groups of one length whose tables are alike, byte for byte, from where entry n stands up to the last 32 bytes. Their data,
-- their gaps and their last 32 bytes may be any.
pub record SameTable (size n : ℕ) (g h : List ℕ) : Type 0 where
  pub long : length g ≡ length h
  pub table : (i : ℕ) → entry_offset size n ≤ i → i < size - information_length → get_or g i 0 ≡ get_or h i 0
