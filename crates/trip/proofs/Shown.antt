-- Writings from C by computation, so that the theorems do not speak of nothing: a record that spans two groups, with its total
-- laid in a third; refused calls and slices of other lengths in between; and loans with which the run is read. And a run that is not
-- our writer's, read from C, alone and with repeats.
-- Assumes nothing.
use Prim.Native.Nat.{ℕ}
use native.Mathlib.Omega.{arith}
use mathlib.Core.List.{List, [], ◌∷◌}
use mathlib.Core.Bool.{true, false}
use mathlib.Core.Path.{◌≡◌, refl}
use mathlib.Core.Logic.{inl, inr}
use borrow.Author.Tests.{leb-true}
use lib.ListN.{length, replicate}
use Rattle.numbers.specs.Numbers.{in_bytes}
use Rattle.writer.specs.Calls.{state_of}
use Rattle.writer.specs.Calls.Call.{a_record, a_separator, an_end}
use Rattle.layout.specs.Items.Item.{record_item, separator_item}
use Rattle.layout.specs.Items.Piece.{a_total, a_middle, a_start, a_last}
use Rattle.layout.specs.Layout.{Image}
use Rattle.layout.specs.Items.Each.{each_none, each_more}
use Rattle.layout.specs.Repeats.{behind, without_repeats}
use Rattle.layout.specs.Writing.{Account, blank, total_laid, in_hand, after_record, after_separator, noted, image_of}
use Rattle.layout.specs.BenchTable.{from}
use Rattle.layout.proofs.Bench.{opens}
use Rattle.layout.proofs.Shown.{opens as layout_opens, group_of, run_of, equal_middles, middles_shown}
use Rattle.slices.specs.Call.{lengths_kept, called}
use Rattle.states.specs.States.{writer_of, writer_meant}
use Rattle.c_writer.specs.Calls.{dds_writer_start, written, dds_record, dds_separator, dds_end}
use Rattle.trip.specs.ThroughC.{call_c, record_c, end_c, asked_c, Loan, LentC, LentBehindC, LentAmongC, WroteC}
use Rattle.trip.specs.ThroughC.WroteC.{begins, goes_on, closes, refused}
use Rattle.trip.specs.Stated.{GivesBackC, AcceptedC, ReadToEndC, OutOfOrderC}
use Rattle.trip.proofs.Once as once
use Rattle.trip.proofs.Theorems.{c_returned, c_complete, c_exchanged}

-- A writing from C of so many groups, and loans for reading them.
pub record Shows (groups : ℕ) (closed now : Account) : Type 0 where
  pub state : List ℕ
  pub group : List ℕ
  pub run : List Image
  pub wrote : WroteC 64 1 state group run closed now
  pub many : length run ≡ groups
  pub loans : List Loan
  pub lent : LentC run loans

-- Slices for a read: so many bytes of rows, and an answer.
abbrev loan : ℕ → Loan
loan long = record { rows = replicate long 0xAA; answer = replicate 24 0xBB }

-- 45 bytes: 24 of them in the first group, the other 21 in the second, the total and a separator in the third. The state slice
-- and the answer slices hold anything; one answer slice is a byte short, and one record empty.
pub spanned : Shows 3 (record { finished = record_item (from 1 45) ∷ separator_item 1 ∷ []; begun = []; asked = [] })
    (record { finished = record_item (from 1 45) ∷ separator_item 1 ∷ []; begun = []; asked = [] })
unfolding opens blank total_laid in_hand after_record after_separator noted image_of from in_bytes state_of lengths_kept writer_of writer_meant called dds_writer_start written dds_record dds_separator dds_end call_c asked_c
spanned =
    record {
      state = _;
      group = _;
      run = _;
      wrote =
          closes (an_end false) (replicate 24 6) (replicate 32 9) (replicate 64 2)
          (goes_on (a_separator 1 true) (replicate 24 7)
          (closes (a_record (from 25 21) false) (replicate 24 0) (replicate 32 7) (replicate 64 8)
          (refused (end_c 1) (replicate 63 4) (replicate 23 5)
          (refused (record_c [] 2) (replicate 64 3) (replicate 24 5)
          (closes (a_record (from 1 45) true) (replicate 24 0xFF) (replicate 32 5) (replicate 64 1)
          (begins (replicate 32 0xEE) (replicate 24 0xDD) (replicate 64 0xEE) refl refl refl)
          tt refl refl refl refl refl)
          refl (λ e. omega arith))
          refl (λ e. omega arith))
          refl refl refl refl refl refl)
          tt refl refl refl)
          tt refl refl refl refl refl;
      many = refl;
      loans = loan 24 ∷ loan 31 ∷ loan 100 ∷ [];
      lent =
          LentC.lent_more (leb-true _ _ refl) refl
          (LentC.lent_more (leb-true _ _ refl) refl
          (LentC.lent_more (leb-true _ _ refl) refl LentC.lent_none));
    }

-- .. and the reading of it.
pub given_back : GivesBackC 64 1 (replicate 24 0xEE) (replicate 24 0xEE) spanned.run spanned.loans
    (record { finished = record_item (from 1 45) ∷ separator_item 1 ∷ []; begun = []; asked = [] })
given_back = c_returned 64 1 spanned.state spanned.group spanned.run _ _ spanned.wrote (replicate 24 0xEE) (replicate 24 0xEE) spanned.loans refl refl spanned.lent

-- A run that our writer never lays: a record broken where there is room left, into two middles of one length, whatever their bytes;
-- gap bytes of 7. It is read from C to its end ..
pub foreign : (x y z w : ℕ) → AcceptedC 64 1 (replicate 24 0xEE) (replicate 24 0xEE) (run_of 1 99 (equal_middles x y z w)) (loan 24 ∷ loan 24 ∷ loan 25 ∷ loan 36 ∷ [])
unfolding group_of run_of
foreign x y z w =
    once.c_complete 64 1 (replicate 24 0xEE) (replicate 24 0xEE) _ _ _ (loan 24 ∷ loan 24 ∷ loan 25 ∷ loan 36 ∷ []) (middles_shown x y z w).lays refl refl
    (LentC.lent_more (leb-true _ _ refl) refl
    (LentC.lent_more (leb-true _ _ refl) refl
    (LentC.lent_more (leb-true _ _ refl) refl
    (LentC.lent_more (leb-true _ _ refl) refl LentC.lent_none))))

-- .. and with the two exchanged it is refused with 5, although its total matches.
pub foreign_exchanged : (x y z w : ℕ) → OutOfOrderC 64 1 (replicate 24 0xEE) (replicate 24 0xEE) (group_of 1 99 (a_start (1 ∷ []) ∷ []) ∷ []) (group_of 3 95 (a_middle (z ∷ w ∷ []) ∷ []))
    (group_of 2 97 (a_middle (x ∷ y ∷ []) ∷ []) ∷ group_of 4 93 (a_last (4 ∷ []) ∷ a_total 6 ∷ []) ∷ [])
unfolding run_of
foreign_exchanged x y z w =
    c_exchanged 64 1 (replicate 24 0xEE) (replicate 24 0xEE) (group_of 1 99 (a_start (1 ∷ []) ∷ []) ∷ []) [] (group_of 4 93 (a_last (4 ∷ []) ∷ a_total 6 ∷ []) ∷ [])
    (group_of 2 97 (a_middle (x ∷ y ∷ []) ∷ [])) (group_of 3 95 (a_middle (z ∷ w ∷ []) ∷ [])) _ (foreign x y z w)

-- The same run with its second group handed in three times: what comes again holds other bytes, says 9 entries and is lent no rows.
abbrev again : Image
again = record { number = 2; entries = 9; bytes = replicate 64 0xEE }

abbrev handed_in : (x y z w : ℕ) → List Image
handed_in x y z w =
    group_of 1 99 (a_start (1 ∷ []) ∷ []) ∷ group_of 2 97 (a_middle (x ∷ y ∷ []) ∷ []) ∷ again ∷ again ∷ group_of 3 95 (a_middle (z ∷ w ∷ []) ∷ [])
    ∷ group_of 4 93 (a_last (4 ∷ []) ∷ a_total 6 ∷ []) ∷ []

pub foreign_among : (x y z w : ℕ) → ReadToEndC 64 1 (replicate 24 0xEE) (replicate 24 0xEE) (handed_in x y z w) (loan 24 ∷ loan 24 ∷ loan 0 ∷ loan 0 ∷ loan 25 ∷ loan 36 ∷ [])
unfolding layout_opens group_of run_of without_repeats behind
foreign_among x y z w =
    c_complete 64 1 (replicate 24 0xEE) (replicate 24 0xEE) _ _ (handed_in x y z w) (loan 24 ∷ loan 24 ∷ loan 0 ∷ loan 0 ∷ loan 25 ∷ loan 36 ∷ []) (middles_shown x y z w).lays
    (each_more refl (each_more refl (each_more refl (each_more refl (each_more refl (each_more refl each_none)))))) refl refl
    (LentAmongC.among_more (leb-true _ _ refl) refl
    (LentBehindC.behind_more (inr (leb-true _ _ refl)) refl
    (LentBehindC.behind_more (inl refl) refl
    (LentBehindC.behind_more (inl refl) refl
    (LentBehindC.behind_more (inr (leb-true _ _ refl)) refl
    (LentBehindC.behind_more (inr (leb-true _ _ refl)) refl LentBehindC.behind_none))))))
