-- Serves contracts of helpers and proofs, and says nothing of the format: the bounds that the steps of an accepted call need.
-- Assumes nothing.
use Rattle.std.specs.Prelude.{ℕ, ◌+◌, ◌*◌, ◌≤◌, ◌<◌, ◌≡◌, List, length}
use Rattle.group.specs.declared.Phase.TheVariants.{Owed}
use Rattle.group.specs.Sizes.{least_size, standard_size, information_length, entry_length, longest_record, last_number}
use Rattle.laying.specs.declared.Writer.{Writer}
use Rattle.laying.specs.declared.Fit.{Fit}
use Rattle.laying.specs.declared.Fit.TheVariants as fit

-- What d data bytes, e entries and the information table take of a group.
abbrev pub span : (d e : ℕ) → ℕ
span d e = d + information_length + entry_length * e

-- One entry more has its place in a group of the state's own length.
pub record Roomy (s : Writer) (g : List ℕ) : Type 0 where
  pub high : s.size ≤ standard_size
  pub long : length g ≡ s.size
  pub fits : span s.filled (s.entries + 1) ≤ s.size

-- r has the numbers of w, with d bytes and e entries more.
pub record Grown (r w : Writer) (d e : ℕ) : Type 0 where
  pub size : r.size ≡ w.size
  pub next : r.next ≡ w.next
  pub filled : r.filled ≡ w.filled + d
  pub entries : r.entries ≡ w.entries + e

-- What an accepted call asks of the state as it came.
pub record Ready (s : Writer) (g : List ℕ) : Type 0 where
  pub roomy : Roomy s g
  pub low : least_size ≤ s.size
  pub next : s.next ≤ last_number
  pub owing : s.phase ≡ Owed → (s.filled ≡ 0) × (s.entries ≡ 0)

-- What n more bytes of an open record ask.
pub record Opened (s : Writer) (n : ℕ) : Type 0 where
  pub low : least_size ≤ s.size
  pub next : s.next ≤ last_number
  pub filled : s.filled ≡ 0
  pub entries : s.entries ≡ 0
  pub whole : s.sum + n ≤ longest_record

-- What a fit says of the state's numbers.
abbrev pub Fitted : Fit → ℕ → Writer → Type 0
Fitted fit.Entire n s = span (s.filled + n) (s.entries + 2) ≤ s.size
Fitted (fit.Start r) n s = (1 ≤ r) × ((r < n) × (span (s.filled + r) (s.entries + 2) ≡ s.size))
Fitted fit.Close n s = s.size ≤ span s.filled (s.entries + 2)
