-- Change request 2026-01: what the two calls on a track return and what they leave in every slice that they may write, for every
-- input. Each is the crate track's own call.
-- Assumes nothing.
use Rattle.std.specs.Prelude.{ℕ, List, [], ◌∷◌, length}
use Rattle.track.specs.Blocks.{track_of, packs_of, items_of}
use Rattle.items.specs.Items.{numbers_of}
use Rattle.track.specs.Answer.{make_call, read_call, told}
use Rattle.slices.specs.Call.{Left, slice, answer_kept, called}

-- Making may write the track and the numbers.
unfoldable pub dds_subdata_make : (area frame : ℕ) (packs items track numbers answer : List ℕ) → Left
dds_subdata_make area frame packs items track numbers answer =
    called (answer_kept answer) (told (make_call area packs (length items) (length track) (length numbers)))
    (track_of area packs items ∷ numbers_of area frame ∷ []) (track ∷ numbers ∷ []) answer

abbrev pub track_made : Left → List ℕ
track_made m = slice m 0

abbrev pub numbers_made : Left → List ℕ
numbers_made m = slice m 1

-- Reading may write the Pack IDs, the items and the numbers.
unfoldable pub dds_subdata_read : (area frame : ℕ) (track packs items numbers answer : List ℕ) → Left
dds_subdata_read area frame track packs items numbers answer =
    called (answer_kept answer) (told (read_call area track (length packs) (length items) (length numbers)))
    (packs_of track ∷ items_of track ∷ numbers_of area frame ∷ []) (packs ∷ items ∷ numbers ∷ []) answer

abbrev pub packs_read : Left → List ℕ
packs_read r = slice r 0

abbrev pub items_read : Left → List ℕ
items_read r = slice r 1

abbrev pub numbers_read : Left → List ℕ
numbers_read r = slice r 2
