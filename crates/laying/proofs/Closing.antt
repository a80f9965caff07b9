-- "skip, close": the bytes of a group that is closed, said without the steps that lay them.
-- Assumes nothing.
use Prim.Native.Nat.{ℕ, ◌+◌, ◌-◌, ◌≤◌}
use native.Mathlib.Omega.{arith}
use mathlib.Core.List.{List, ◌++◌, append_assoc}
use mathlib.Core.Path.{◌≡◌, sym, ap, ◌∙◌}
use lib.ListN.{length, take, drop, replicate, length-replicate, length-append}
use Rattle.group.specs.declared.Kind.TheVariants.{Skip}
use Rattle.group.specs.Sizes.{entry_offset}
use Rattle.group.specs.Flags.{flag_of}
use Rattle.group.specs.Entries.{entry, entry_bytes}
use Rattle.numbers.specs.Store.{put}
use Rattle.numbers.proofs.Stores.{put_split, put_before}
use Rattle.group.proofs.EntryLaws.{length_entry}
use Rattle.laying.specs.Laying.{Desk, lay_entry, lay_skip, zero_gap, shut}
use Rattle.laying.specs.Bounds.{span}

-- A store, and zeros from f up to it.
zeros_to : (h : List ℕ) (f at : ℕ) (x : List ℕ) → f ≤ at → at + length x ≤ length h →
    put (put h at x) f (replicate (at - f) 0) ≡ take f h ++ (replicate (at - f) 0 ++ (x ++ drop (at + length x) h))
zeros_to h f at x low fit = by (replicate (at - f) 0) (length-replicate (at - f) 0)
  where
    by : (z : List ℕ) → length z ≡ at - f → put (put h at x) f z ≡ take f h ++ (z ++ (x ++ drop (at + length x) h))
    by z e =
        let place : f + length z ≡ at = omega arith in
        let both : length (z ++ x) ≡ length z + length x = length-append z x in
        let end : f + length (z ++ x) ≡ at + length x = omega arith in
        ap (λ (k : ℕ). put (put h k x) f z) (sym place) ∙ put_before h f z x (omega arith)
        ∙ put_split h f (z ++ x) (omega arith)
        ∙ ap (λ (k : ℕ). take f h ++ (z ++ x) ++ drop k h) end
        ∙ append_assoc (take f h) (z ++ x) (drop (at + length x) h)
        ∙ ap (λ (l : List ℕ). take f h ++ l) (append_assoc z x (drop (at + length x) h))

-- The skip of a writer that has b4 as the state says, its count L less the data.
abbrev pub skip_of : Desk → List ℕ
skip_of w = entry_bytes (entry (flag_of Skip w.state.warned) (w.state.size - w.state.filled))

-- A closed group: the data that stands, zeros in all of the gap, the skip, and what stands behind it.
pub shut_stands : (w : Desk) → length w.group ≡ w.state.size → span w.state.filled (w.state.entries + 1) ≤ w.state.size →
    (shut w).group
    ≡ take w.state.filled w.group
    ++ (replicate (w.state.size - span w.state.filled (w.state.entries + 1)) 0
    ++ (skip_of w ++ drop (entry_offset w.state.size w.state.entries) w.group))
unfolding shut zero_gap lay_skip lay_entry
shut_stands w long fits =
    let s = w.state in
    let at = entry_offset s.size (s.entries + 1) in
    let four : length (skip_of w) ≡ 4 = length_entry (entry (flag_of Skip s.warned) (s.size - s.filled)) in
    let gap : at - s.filled ≡ s.size - span s.filled (s.entries + 1) = omega arith in
    let end : at + length (skip_of w) ≡ entry_offset s.size s.entries = omega arith in
    zeros_to w.group s.filled at (skip_of w) (omega arith) (omega arith)
    ∙ ap (λ (n : ℕ). take s.filled w.group ++ (replicate n 0 ++ (skip_of w ++ drop (at + length (skip_of w)) w.group))) gap
    ∙ ap (λ (n : ℕ). take s.filled w.group ++ (replicate (s.size - span s.filled (s.entries + 1)) 0 ++ (skip_of w ++ drop n w.group))) end
