-- Writings by computation, so that `returned`, `ended` and `total_kept` do not speak of nothing: a total owed at the run's end,
-- one laid since the last close, a record broken off inside, and a run that was ended; with b4, refused calls and other buffers
-- in between.
-- Assumes nothing.
use Prim.Native.Nat.{ℕ}
use mathlib.Core.List.{List, [], ◌∷◌}
use mathlib.Core.Bool.{true, false}
use mathlib.Core.Path.{◌≡◌, refl}
use lib.ListN.{length, replicate}
use Rattle.laying.specs.Laying.{Desk}
use Rattle.writer.specs.Calls.Call.{a_record, a_separator, an_end}
use Rattle.layout.specs.Items.Item.{record_item, separator_item}
use Rattle.layout.specs.Layout.{Image}
use Rattle.layout.specs.Writing.{Account, blank, total_laid, in_hand, after_record, after_separator, noted, image_of, Wrote, WasEnded}
use Rattle.layout.specs.Writing.Wrote.{begins, goes_on, closes, refused}
use Rattle.layout.specs.BenchTable.{from}
use Rattle.layout.proofs.Bench.{opens}

-- A writing, and what a caller sees of it.
pub record Shows (groups : ℕ) (closed now : Account) : Type 0 where
  pub desk : Desk
  pub run : List Image
  pub wrote : Wrote 64 1 desk run closed now
  pub many : length run ≡ groups

-- The total of 45 bytes is owed after two groups: begun with nothing asked, and not finished.
pub owed_at_end : Shows 2 (record { finished = []; begun = from 1 45; asked = [] }) (record { finished = []; begun = from 1 45; asked = [] })
unfolding opens blank total_laid in_hand after_record after_separator noted image_of from
owed_at_end =
    record {
      desk = _;
      run = _;
      wrote =
          refused (a_record [] false) (replicate 64 8)
          (closes (a_record (from 25 21) false) (replicate 32 7) (replicate 64 8)
          (refused (an_end true) (replicate 63 4)
          (closes (a_record (from 1 45) true) (replicate 32 5) (replicate 64 1) (begins {g = replicate 64 0xEE} refl refl) tt refl refl refl)
          refl) refl refl refl refl) refl;
      many = refl;
    }

-- Then a separator with b4: the total and the separator are laid, and the account at the last close is still the one before.
pub owed_then_laid : Shows 2 (record { finished = []; begun = from 1 45; asked = [] })
    (record { finished = record_item (from 1 45) ∷ separator_item 1 ∷ []; begun = []; asked = [] })
unfolding opens blank total_laid in_hand after_record after_separator noted image_of from
owed_then_laid =
    record {
      desk = _;
      run = _;
      wrote =
          goes_on (a_separator 1 true)
          (closes (a_record (from 25 21) false) (replicate 32 7) (replicate 64 8)
          (closes (a_record (from 1 45) true) (replicate 32 5) (replicate 64 1) (begins {g = replicate 64 0xEE} refl refl) tt refl refl refl)
          refl refl refl refl) tt refl;
      many = refl;
    }

-- A record of 21 bytes, a separator for which there is no room, which closes and is not laid, and a record of 70 bytes: 48 of
-- them are taken and the other 22 asked for.
pub broken_inside_lem : Shows 3 (record { finished = record_item (from 1 21) ∷ []; begun = from 1 48; asked = from 49 22 })
    (record { finished = record_item (from 1 21) ∷ []; begun = from 1 48; asked = from 49 22 })
unfolding opens blank total_laid in_hand after_record after_separator noted image_of from
broken_inside_lem =
    record {
      desk = _;
      run = _;
      wrote =
          closes (a_record (from 25 46) false) (replicate 32 4) (replicate 64 3)
          (closes (a_record (from 1 70) false) (replicate 32 2) (replicate 64 1)
          (closes (a_separator 0 false) (replicate 32 7) (replicate 64 8)
          (goes_on (a_record (from 1 21) false) (begins {g = replicate 64 0xEE} refl refl) tt refl)
          tt refl refl refl) tt refl refl refl) refl refl refl refl;
      many = refl;
    }

-- A record and a separator, and an end, which closes their group; a second end closes nothing. All is in the run.
pub ended_whole : Shows 1 (record { finished = record_item (from 1 9) ∷ separator_item 1 ∷ []; begun = []; asked = [] })
    (record { finished = record_item (from 1 9) ∷ separator_item 1 ∷ []; begun = []; asked = [] })
unfolding opens blank total_laid in_hand after_record after_separator noted image_of from
ended_whole =
    record {
      desk = _;
      run = _;
      wrote =
          goes_on (an_end false)
          (closes (an_end true) (replicate 32 2) (replicate 64 1)
          (goes_on (a_separator 1 false) (goes_on (a_record (from 1 9) false) (begins {g = replicate 64 0xEE} refl refl) tt refl) tt refl)
          tt refl refl refl) tt refl;
      many = refl;
    }

pub was_ended : WasEnded ended_whole.wrote
unfolding ended_whole WasEnded
was_ended = tt
