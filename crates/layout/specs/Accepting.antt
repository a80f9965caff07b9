-- A run that a reader accepts, group by group, and one that it accepts among repeats: by the answers of the read call and the rows
-- that it leaves.
-- Assumes nothing.
use Rattle.std.specs.Prelude.{ℕ, ◌*◌, ◌≤◌, List, [], ◌∷◌, ◌≡◌, ◌⊎◌, length}
use Rattle.reader.specs.declared.Reader.{Reader}
use Rattle.reader.specs.ReadAnswer as answer
use Rattle.reader.specs.Answer.{read_call, group_rows, rows_left}
use Rattle.layout.specs.Layout.{Image}

-- From a state over a run to a state, each group accepted. Each read is lent rows of any length, `old`, and leaves the rows that
-- are listed.
pub data Accepts : Reader → List Image → List (List ℕ) → Reader → Type 0 where
  accepts_none : {s : Reader} → Accepts s [] [] s
  accepts_more : {s t u : Reader} {g : Image} {gs : List Image} {rows : List (List ℕ)} (old : List ℕ) →
      read_call s g.bytes g.number g.entries (length old) ≡ answer.Accepted t → Accepts t gs rows u →
      Accepts s (g ∷ gs) (rows_left (read_call s g.bytes g.number g.entries (length old)) (group_rows s g.bytes g.entries) old ∷ rows) u

-- A run that is accepted to its end: each read accepts its group, or answers that it is a repeat. Each read is lent rows of any
-- length. Listed are the rows lent, and those left of the groups that were accepted: a repeat leaves them as lent.
pub data ToEnd : Reader → List Image → List (List ℕ) → List (List ℕ) → Reader → Type 0 where
  end_none : {s : Reader} → ToEnd s [] [] [] s
  end_more : {s t u : Reader} {g : Image} {gs : List Image} {lent rows : List (List ℕ)} (old : List ℕ) →
      read_call s g.bytes g.number g.entries (length old) ≡ answer.Accepted t → ToEnd t gs lent rows u →
      ToEnd s (g ∷ gs) (old ∷ lent) (rows_left (read_call s g.bytes g.number g.entries (length old)) (group_rows s g.bytes g.entries) old ∷ rows) u
  end_repeat : {s u : Reader} {g : Image} {gs : List Image} {lent rows : List (List ℕ)} (old : List ℕ) →
      read_call s g.bytes g.number g.entries (length old) ≡ answer.Repeated s → ToEnd s gs lent rows u →
      ToEnd s (g ∷ gs) (old ∷ lent) rows u

-- Row buffers for a run, any that are long enough: one for each group, with room for three numbers per entry.
pub data Lent : List Image → List (List ℕ) → Type 0 where
  lent_none : Lent [] []
  lent_more : {g : Image} {gs : List Image} {old : List ℕ} {more : List (List ℕ)} → 3 * g.entries ≤ length old → Lent gs more → Lent (g ∷ gs) (old ∷ more)

-- Row buffers for a run with repeats: the same, but a repeat's may be any. Behind a group of this number one that bears it is a repeat.
pub data LentBehind : ℕ → List Image → List (List ℕ) → Type 0 where
  behind_none : {last : ℕ} → LentBehind last [] []
  behind_more : {last : ℕ} {g : Image} {gs : List Image} {old : List ℕ} {more : List (List ℕ)} → (g.number ≡ last) ⊎ (3 * g.entries ≤ length old) →
      LentBehind g.number gs more → LentBehind last (g ∷ gs) (old ∷ more)

pub data LentAmong : List Image → List (List ℕ) → Type 0 where
  among_none : LentAmong [] []
  among_more : {g : Image} {gs : List Image} {old : List ℕ} {more : List (List ℕ)} → 3 * g.entries ≤ length old → LentBehind g.number gs more →
      LentAmong (g ∷ gs) (old ∷ more)

-- The row buffers that the reads of an accepted run were lent.
unfoldable pub lent_to : {s t : Reader} {run : List Image} {rows : List (List ℕ)} → Accepts s run rows t → List (List ℕ)
lent_to accepts_none = []
lent_to (accepts_more old e a) = old ∷ lent_to a
