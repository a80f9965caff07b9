-- `put_numbers` meets its contract: a place's number a turn. Assumes nothing.
use mathlib.Core.List.{List}
use Prim.Native.Nat.{ℕ}
use Rattle.numbers.specs.Numbers.{bytes_of}
use Rattle.items.specs.Items.{item_number}
use Rattle.items.proofs.Turns.{Filled}
use Rattle.items.proofs.put_numbers.Given as goal

-- The four bytes of each place's number.
abbrev pub told : (area frame place : ℕ) → List ℕ
told area frame place = bytes_of 4 (item_number area frame place)

abbrev pub invariant-loop-place : goal.invariant-loop-place
invariant-loop-place l = Filled (told l.area l.frame) 4 64 l.initial.numbers l.numbers l.place
