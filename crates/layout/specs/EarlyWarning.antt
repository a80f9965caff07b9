-- Change request 2026-03: where b4 begins in a run, by the bytes of its tables.
-- Assumes nothing.
use Rattle.std.specs.Prelude.{ℕ, ◌-◌, List, [], ◌∷◌, ◌++◌, map, Bool, true, false, ◌≡◌, replicate}
use Rattle.group.specs.declared.Entry.{Entry}
use Rattle.group.specs.Sizes.{information_length}
use Rattle.group.specs.Flags.{b4_of}
use Rattle.group.specs.Entries.{entries_below}
use Rattle.layout.specs.Layout.{Image}

-- The entries of a run of groups of this size, group after group.
unfoldable pub entries_of_run : ℕ → List Image → List Entry
entries_of_run size [] = []
entries_of_run size (g ∷ gs) = entries_below g.bytes (size - information_length) g.entries ++ entries_of_run size gs

-- Clear in some, and set in all that follow them.
pub record SetOnce (b4s : List Bool) : Type 0 where
  pub clear : ℕ
  pub set : ℕ
  pub all : b4s ≡ replicate clear false ++ replicate set true

-- "one entry of the whole run, or none, where b4 begins"
abbrev pub BeginsOnce : ℕ → List Image → Type 0
BeginsOnce size run = SetOnce (map (λ (e : Entry). b4_of e.flag) (entries_of_run size run))
