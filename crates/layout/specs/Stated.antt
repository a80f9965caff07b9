-- What the theorems of a reader state where it is more than one fact: the state at an end, an acceptance with given row
-- buffers, a run at a group's end, both also among repeats, and a run out of order.
-- Assumes nothing.
use Rattle.std.specs.Prelude.{ℕ, ◌+◌, List, [], ◌∷◌, ◌++◌, Bool, false, ◌≡◌, ◌↔◌, leb, length}
use Rattle.group.specs.declared.Phase.TheVariants as phase
use Rattle.group.specs.Sizes.{entry_offset}
use Rattle.group.specs.Flags.{b4_of}
use Rattle.group.specs.Entries.{entry_at}
use Rattle.reader.specs.declared.Reader.{Reader}
use Rattle.reader.specs.ReadAnswer as answer
use Rattle.reader.specs.Answer.{read_call}
use Rattle.layout.specs.Items.{Item}
use Rattle.layout.specs.Layout.{Image, Lays}
use Rattle.layout.specs.Repeats.{without_repeats}
use Rattle.layout.specs.Accepting.{Accepts, ToEnd, lent_to}
use Rattle.layout.specs.Reading.{items_read, begun_read, phase_read}

-- b4 as a run of groups of this size leaves it: that of the last group's last entry, its skip; as it was where there is no group.
unfoldable pub b4_left : (size : ℕ) (before : Bool) → List Image → Bool
b4_left size before [] = before
b4_left size before (g ∷ gs) = b4_left size (b4_of (entry_at g.bytes (entry_offset size g.entries)).flag) gs

-- "Its state is L, the next number, free / inside / owed, and the sum of parts so far", and b4, which "a fresh start" clears, and
-- whether a group was accepted: after a run of groups of this size from this first number, where its rows leave these bytes of a
-- record. The pieces that the rows give tell inside from owed.
pub record EndsWith (size first : ℕ) (run : List Image) (rows : List (List ℕ)) (begun : List ℕ) (final : Reader) : Type 0 where
  pub sized : final.size ≡ size
  pub next : final.next ≡ first + length run
  pub stands : final.phase ≡ phase_read run rows
  pub free : (final.phase ≡ phase.Free) ↔ (begun ≡ [])
  pub sum : final.sum ≡ length begun
  pub b4 : final.warned ≡ b4_left size false run
  pub accepted : final.accepted ≡ leb 1 (length run)

-- A run that is accepted by reads which are lent just these row buffers: the rows that they are left with, and the state.
pub record AcceptedWith (s : Reader) (run : List Image) (lent : List (List ℕ)) (begun : List ℕ) : Type 0 where
  pub rows : List (List ℕ)
  pub final : Reader
  pub accepts : Accepts s run rows final
  pub buffers : lent_to accepts ≡ lent
  pub ends : EndsWith s.size s.next run rows begun final

-- A run that is accepted to its end by reads which are lent just these row buffers: the rows that are left of its groups, and the
-- state.
pub record ThroughWith (s : Reader) (run : List Image) (lent : List (List ℕ)) (begun : List ℕ) : Type 0 where
  pub rows : List (List ℕ)
  pub final : Reader
  pub reads : ToEnd s run lent rows final
  pub ends : EndsWith s.size s.next (without_repeats run) rows begun final

-- An accepted run at the end of one of its groups: the beginning is accepted, and the rest from there on; what the rows of the
-- beginning give is a lawful layout of it, and the only one.
pub record AtEnd (size first : ℕ) (s : Reader) (beginning rest : List Image) (rows : List (List ℕ)) (final : Reader) : Type 0 where
  pub state : Reader
  pub before : List (List ℕ)
  pub behind : List (List ℕ)
  pub parts : before ++ behind ≡ rows
  pub accepts : Accepts s beginning before state
  pub goes_on : Accepts state rest behind final
  pub lays : Lays size first (items_read beginning before) (begun_read beginning before) beginning
  pub only : (i : List Item) (b : List ℕ) → Lays size first i b beginning → (i ≡ items_read beginning before) × (b ≡ begun_read beginning before)
  pub ends : EndsWith size first beginning before (begun_read beginning before) state

-- The same of a run that is accepted to its end, at the end of one of its groups or of a repeat: what the rows of the beginning give is
-- a lawful layout of it, its repeats taken out, and the only one.
pub record AtEndAmong (size first : ℕ) (s : Reader) (beginning rest : List Image) (lent rows : List (List ℕ)) (final : Reader) : Type 0 where
  pub state : Reader
  pub lent_before : List (List ℕ)
  pub lent_behind : List (List ℕ)
  pub before : List (List ℕ)
  pub behind : List (List ℕ)
  pub lent_parts : lent_before ++ lent_behind ≡ lent
  pub parts : before ++ behind ≡ rows
  pub reads : ToEnd s beginning lent_before before state
  pub goes_on : ToEnd state rest lent_behind behind final
  pub lays : Lays size first (items_read (without_repeats beginning) before) (begun_read (without_repeats beginning) before) (without_repeats beginning)
  pub only : (i : List Item) (b : List ℕ) → Lays size first i b (without_repeats beginning) →
      (i ≡ items_read (without_repeats beginning) before) × (b ≡ begun_read (without_repeats beginning) before)
  pub ends : EndsWith size first (without_repeats beginning) before (begun_read (without_repeats beginning) before) state

-- A run that is refused with 5 at its group h: the groups before it are accepted; after them, whatever rows were and are lent,
-- the read of h answers 5, place 0 and the state as given; and the run as a whole is never accepted.
pub record OutOfOrder (s : Reader) (beginning : List Image) (h : Image) (rest : List Image) : Type 0 where
  pub accepted : (rows : List (List ℕ)) × ((state : Reader) × Accepts s beginning rows state)
  pub refused : (rows : List (List ℕ)) (state : Reader) → Accepts s beginning rows state → (old : List ℕ) →
      read_call state h.bytes h.number h.entries (length old) ≡ answer.Refused state 5 0
  pub never : (rows : List (List ℕ)) (final : Reader) → Accepts s (beginning ++ (h ∷ rest)) rows final → ⊥
