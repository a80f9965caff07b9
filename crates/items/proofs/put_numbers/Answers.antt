-- `put_numbers` meets its contract: a place's number a turn. Assumes nothing.
use Prim.Native.Nat.{ℕ}
use native.Mathlib.Omega.{arith}
use borrow.Author.Rules.{rules}
use Rattle.numbers.proofs.NumberLaws.{length_bytes}
use Rattle.items.specs.Items.{contents, item_number, numbers_of}
use Rattle.items.proofs.Turns.{Wide, filled_turn, filled_done}
use Rattle.items.proofs.put_numbers.Invariants.{told}
use Rattle.items.proofs.put_numbers.Goals as goal

wide : (area frame : ℕ) → Wide (told area frame) 4 64
wide area frame place less = length_bytes 4 (item_number area frame place)

pub loop-place-preserved : goal.loop-place-preserved
unfolding item_number contents
loop-place-preserved c =
    let place = c.loop-place.place in
    let stored = rw c.row_of-row.ensures.row at c.put_number.ensures in
    filled_turn _ 4 64 _ _ _ place c.loop-place-test.true (wide _ _ place c.loop-place-test.true) c.put_number.auto.bytes stored c.loop-place.invariant

pub returns : goal.returns
unfolding numbers_of
returns c = filled_done _ 4 64 (wide _ _) _ _ c.loop-place.place (omega arith) (search rules) c.loop-place.invariant
