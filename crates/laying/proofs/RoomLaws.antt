-- Laws of the room: how far below zero it goes, what a fit says of the state's numbers, and what fills a group inside a record.
-- Assumes nothing.
use mathlib.Core.Path.{◌≡◌, refl, sym, subst}
use mathlib.Core.Bool.{Bool, true, false, cond}
use Prim.Native.Nat.{ℕ, ◌+◌, ◌*◌, ◌-◌, ◌≤◌, ◌<◌}
use native.Mathlib.Omega.{arith}
use mathlib.Core.List.{List}
use lib.IntN.{pos, negsuc, nat_abs}
use lib.ListN.{length, take}
use lib.Seq.{length-take-le}
use lib.Signed.{le_z}
use Rattle.group.specs.Sizes.{least_size, information_length, entry_length}
use Rattle.laying.specs.declared.Writer.{Writer}
use Rattle.laying.specs.declared.Fit.{Fit}
use Rattle.laying.specs.declared.Fit.TheVariants as fit
use Rattle.laying.specs.Room.{room, fit_of, separator_fits, middle_length, last_with_total}
use Rattle.laying.specs.Bounds.{Fitted, span}
use Rattle.laying.proofs.SignedLaws.{le_sub, lt_sub, from_minus, natural}

-- All that the room is less than the size.
abbrev pub beside : Writer → ℕ
beside s = information_length + entry_length * (s.entries + 2) + s.filled

-- Where one entry more has its place, the room is −4 or more.
pub room_least : (s : Writer) → span s.filled (s.entries + 1) ≤ s.size → le_z (negsuc 3) (room s) ≡ true
unfolding room
room_least s h = from_minus 3 s.size (beside s) (omega arith)

-- A room of 1 or more as a natural number.
pub room_natural : (s : Writer) → le_z (pos 1) (room s) ≡ true → room s ≡ pos (s.size - beside s)
unfolding room
room_natural s h = natural s.size (beside s) (omega (arith, le_sub 1 s.size (beside s) h))

-- What a fit says. The least room of a start is 1: with more a group would be closed with room for a byte.
pub fitted : (n : ℕ) (s : Writer) → Fitted (fit_of n (room s)) n s
unfolding fit_of room
fitted n s = by _ _ refl _ refl (omega arith) (omega arith)
  where
    by : (least : ℕ) (p : Bool) → le_z (pos n) (room s) ≡ p → (q : Bool) → le_z (pos least) (room s) ≡ q → 1 ≤ least → least ≤ 1
        → Fitted (cond p fit.Entire (cond q (fit.Start (nat_abs (room s))) fit.Close)) n s
    by least true x q y low high = omega (arith, le_sub n s.size (beside s) x)
    by least false x true y low high =
        let some = le_sub least s.size (beside s) y in
        rw (natural s.size (beside s) (omega arith)) (omega (arith, lt_sub n s.size (beside s) x))
    by least false x false y low high = omega (arith, lt_sub least s.size (beside s) y)

-- .. by the ways that it goes in.
pub fitted_entire : (n : ℕ) (s : Writer) → fit.Entire ≡ fit_of n (room s) → span (s.filled + n) (s.entries + 2) ≤ s.size
fitted_entire n s e = subst (λ (f : Fit). Fitted f n s) (sym e) (fitted n s)

pub fitted_start : (n r : ℕ) (s : Writer) → fit.Start r ≡ fit_of n (room s) → (1 ≤ r) × ((r < n) × (span (s.filled + r) (s.entries + 2) ≡ s.size))
fitted_start n r s e = subst (λ (f : Fit). Fitted f n s) (sym e) (fitted n s)

-- A start has as many bytes as the fit says.
pub start_long : (r : ℕ) (bytes : List ℕ) (s : Writer) → fit.Start r ≡ fit_of (length bytes) (room s) → length (take r bytes) ≡ r
start_long r bytes s e = length-take-le r bytes (omega (arith, fitted_start (length bytes) r s e))

-- A separator that fits leaves room for a skip.
pub separator_fits_lem : (s : Writer) → separator_fits (room s) ≡ true → span s.filled (s.entries + 2) ≤ s.size
unfolding room
separator_fits_lem s h = omega (arith, le_sub 0 s.size (beside s) h)

-- .. and where it does not fit, one entry more and a skip are too much.
pub separator_lacks : (s : Writer) → separator_fits (room s) ≡ false → s.size < span s.filled (s.entries + 2)
unfolding room
separator_lacks s h = omega (arith, lt_sub 0 s.size (beside s) h)

-- "middle of L − 40": with its entry and the skip it fills its group.
pub middle_fills : (s : Writer) → least_size ≤ s.size → span (middle_length s) 2 ≡ s.size
middle_fills s h = omega arith

-- "n ≤ L − 44: last, total": the longest such last fills its group with three entries, so that no total which fits is owed.
pub total_fills : (s : Writer) → least_size ≤ s.size → span (last_with_total s) 3 ≡ s.size
total_fills s h = omega arith
