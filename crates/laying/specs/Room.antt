-- Document 01, "Writing": the room as a signed number, and what it chooses.
-- Assumes nothing.
use Rattle.std.specs.Prelude.{ℕ, ◌+◌, ◌*◌, Bool, cond, ℤ, pos, nat_abs}
use Rattle.std.proofs.Math.IntN.{sub_ℕ}
use Rattle.std.specs.Int.Signed.{le_z}
use Rattle.group.specs.Sizes.{information_length, entry_length, entry_offset}
use Rattle.laying.specs.declared.Writer.{Writer}
use Rattle.laying.specs.declared.Fit.{Fit}
use Rattle.laying.specs.declared.Fit.TheVariants as fit

-- "The room is a signed number: r = L − 32 − 4(e + 2) − d."
unfoldable pub room : Writer → ℤ
room s = sub_ℕ s.size (information_length + entry_length * (s.entries + 2) + s.filled)

-- "n ≤ r: entire. Otherwise with r ≥ 1: start of r bytes, skip, close. With r ≤ 0: skip, close, nothing taken."
unfoldable pub fit_of : ℕ → ℤ → Fit
fit_of n r = cond (le_z (pos n) r) fit.Entire (cond (le_z (pos 1) r) (fit.Start (nat_abs r)) fit.Close)

-- "Separator: laid if r ≥ 0."
abbrev pub separator_fits : ℤ → Bool
separator_fits r = le_z (pos 0) r

-- "middle of L − 40": the most data that a group has beside two entries, its own and the skip.
abbrev pub middle_length : Writer → ℕ
middle_length s = entry_offset s.size 2

-- "n ≤ L − 44: last, total": the most data that a group has beside three entries.
abbrev pub last_with_total : Writer → ℕ
last_with_total s = entry_offset s.size 3
