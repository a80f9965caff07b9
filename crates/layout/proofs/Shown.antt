-- Not vacuous: for each shape of layout, a lawful one and its acceptance, by computation. L is 64, the first number 1.
-- Assumes nothing.
use Prim.Native.Nat.{ℕ, suc, ◌+◌, ◌*◌, ◌-◌, ◌≤◌}
use native.Mathlib.Omega.{arith}
use mathlib.Core.List.{List, [], ◌∷◌, ◌++◌}
use mathlib.Core.Bool.{Bool, true, false, ◌&&◌}
use mathlib.Core.Path.{◌≡◌, refl}
use lib.ListN.{length, length-append, replicate, length-replicate}
use lib.Dec.{leb, lit≤}
use borrow.Author.Tests.{leb-true}
use Rattle.group.specs.Sizes.{last_number}
use Rattle.numbers.proofs.Tests.{both}
use Rattle.group.specs.declared.Phase.{Phase}
use Rattle.group.specs.declared.Phase.TheVariants as phase
use Rattle.numbers.specs.Store.{put}
use Rattle.numbers.specs.Numbers.{number_at, bytes_of}
use Rattle.group.specs.Entries.{entry_at, entry_bytes, entries_below, table_bytes}
use Rattle.group.specs.Flags.{meaning_of}
use Rattle.group.specs.State.{run_sound, start_refusal}
use Rattle.group.proofs.EntryLaws.{length_table}
use Rattle.reader.specs.declared.Reader.{Reader}
use Rattle.reader.specs.ReaderStart as start
use Rattle.entry.specs.Rules.{may_follow, entry_fault}
use Rattle.entry.specs.Scan.{scan}
use Rattle.rows.specs.Rows.{rows_from}
use Rattle.reader.specs.Answer.{fresh, reader_start_call, is_repeat, read_refusal, read_call, group_scan, group_rows}
use Rattle.layout.specs.Items.{Laid, Tail, Piece, Each, SoundLaid, SoundTail, items, so_far, tokens, tail_tokens, middles, late_by, grouped, joined, whole_of}
use Rattle.layout.specs.Items.Each.{each_none, each_more}
use Rattle.layout.specs.Items.Laid.{laid_entire, laid_spanned, laid_separator, ended_early}
use Rattle.layout.specs.Items.Tail.{none_open, broken_inside, broken_owed}
use Rattle.layout.specs.Items.Piece.{a_total, a_separator, a_middle, a_start, a_last, an_entire}
use Rattle.layout.specs.Items.SoundLaid.{sound_entire, sound_spanned, sound_separator, sound_early}
use Rattle.layout.specs.Items.SoundTail.{sound_none, sound_inside, sound_owed}
use Rattle.layout.specs.Layout.{Image, Pictures, Run, Lays, kind_of, count_of, data_of, user_data, b4_after, plain_left, entries_of}
use Rattle.layout.specs.Layout.Run.{run_none, run_more}
use Rattle.layout.specs.Reading.{piece_of, pieces_from, pieces_of, items_after, begun_after, items_read, begun_read}
use Rattle.layout.specs.Accepting.{Accepts}
use Rattle.layout.specs.Accepting.Accepts.{accepts_none, accepts_more}
use Rattle.layout.specs.Stated.{OutOfOrder}
use Rattle.layout.proofs.Decode.{length_entries}
use Rattle.layout.proofs.Theorems.{exchanged}

-- All that a layout and a read compute by.
unfoldable pub opens : Unit {0}
unfolding put number_at bytes_of entry_at entry_bytes entries_below table_bytes meaning_of run_sound start_refusal may_follow entry_fault scan rows_from reader_start_call is_repeat read_refusal read_call group_scan group_rows items so_far tokens tail_tokens middles late_by grouped joined whole_of kind_of count_of data_of user_data b4_after plain_left entries_of piece_of pieces_from pieces_of items_after begun_after
opens = tt

-- A group of 64 bytes: gap bytes of 7, information bytes of 9, b4 clear in the first `plain` entries.
unfoldable pub group_of : ℕ → ℕ → List Piece → Image
group_of number plain ps =
    record {
      number = number;
      entries = suc (length ps);
      bytes =
          user_data ps
          ++ (replicate (32 - 4 * suc (length ps) - length (user_data ps)) 7
          ++ (table_bytes (entries_of plain (64 - length (user_data ps)) ps) ++ replicate 32 9));
    }

pictured : (number plain : ℕ) (ps : List Piece) → length (user_data ps) + 4 * suc (length ps) ≤ 32 → Pictures 64 plain ps (group_of number plain ps)
unfolding group_of
pictured number plain ps h =
    record {
      gap = replicate (32 - 4 * suc (length ps) - length (user_data ps)) 7;
      information = replicate 32 9;
      thirty_two = refl;
      counted = refl;
      filled =
          simp (length-append, length-replicate)
          (omega (arith, length_table (entries_of plain (64 - length (user_data ps)) ps), length_entries plain (64 - length (user_data ps)) ps));
      stands = refl;
    }

-- Groups, numbered from `number` on; b4 is clear in the first `plain` entries of them all. No run here has 99, so at 99 it is never
-- set.
unfoldable pub run_of : ℕ → ℕ → List (List Piece) → List Image
run_of number plain [] = []
run_of number plain (g ∷ gs) = group_of number plain g ∷ run_of (suc number) (plain - suc (length g)) gs

-- Each has room in 64 bytes, and there are numbers enough.
unfoldable pub fitting : ℕ → List (List Piece) → Bool
fitting number [] = true
fitting number (g ∷ gs) = leb number last_number && (leb (length (user_data g) + 4 * suc (length g)) 32 && fitting (suc number) gs)

run_of_lem : (number plain : ℕ) (gs : List (List Piece)) → fitting number gs ≡ true → Run 64 plain number gs (run_of number plain gs)
unfolding run_of fitting group_of
run_of_lem number plain [] h = run_none
run_of_lem number plain (g ∷ gs) h =
    let a = both (leb number last_number) (leb (length (user_data g) + 4 * suc (length g)) 32 && fitting (suc number) gs) h in
    let b = both (leb (length (user_data g) + 4 * suc (length g)) 32) (fitting (suc number) gs) a.1 in
    run_more (leb-true number last_number a.0) refl (pictured number plain g (leb-true (length (user_data g) + 4 * suc (length g)) 32 b.0)) (run_of_lem (suc number) (plain - suc (length g)) gs b.1)

-- A lawful layout that takes these freedoms, its acceptance, and what its rows give.
pub record Shown (laid : List Laid) (tail : Tail) (run : List Image) (final : Reader) : Type 0 where
  pub lays : Lays 64 1 (items laid) (so_far tail) run
  pub takes : (lays.laid ≡ laid) × (lays.tail ≡ tail)
  pub rows : List (List ℕ)
  pub accepts : Accepts (fresh 64 1) run rows final
  pub items_read_lem : items_read run rows ≡ items laid
  pub begun_read_lem : begun_read run rows ≡ so_far tail

pub starts : reader_start_call 64 1 ≡ start.Started (fresh 64 1)
unfolding opens
starts = refl

shown : {laid : List Laid} {tail : Tail} {run : List Image} {rows : List (List ℕ)} {final : Reader} (groups : List (List Piece)) → Each (SoundLaid 64) laid → SoundTail 64 tail →
    tokens laid tail ≡ grouped groups → {plain : ℕ} → Run 64 plain 1 groups run → Accepts (fresh 64 1) run rows final → items_read run rows ≡ items laid → begun_read run rows ≡ so_far tail →
    Shown laid tail run final
shown {laid} {tail} {rows} groups sound sound_tail groups_of {plain} images accepts i b =
    record {
      lays = record {
        sized = refl;
        numbered = refl;
        laid = laid;
        tail = tail;
        groups = groups;
        plain = plain;
        sound = sound;
        sound_tail = sound_tail;
        finishes = refl;
        breaks = refl;
        groups_of = groups_of;
        images = images;
      };
      takes = (refl, refl);
      rows = rows;
      accepts = accepts;
      items_read_lem = i;
      begun_read_lem = b;
    }

-- The same of groups made here.
made : {laid : List Laid} {tail : Tail} {rows : List (List ℕ)} {final : Reader} (plain : ℕ) (groups : List (List Piece)) → Each (SoundLaid 64) laid → SoundTail 64 tail →
    tokens laid tail ≡ grouped groups → fitting 1 groups ≡ true → Accepts (fresh 64 1) (run_of 1 plain groups) rows final →
    items_read (run_of 1 plain groups) rows ≡ items laid → begun_read (run_of 1 plain groups) rows ≡ so_far tail → Shown laid tail (run_of 1 plain groups) final
made plain groups sound sound_tail groups_of fits = shown groups sound sound_tail groups_of (run_of_lem 1 plain groups fits)

-- A state between groups, with b4 and without, and rows of other numbers, more than are asked for.
abbrev at_warned : Bool → ℕ → Phase → ℕ → Reader
at_warned warned next p sum = record { size = 64; next = next; phase = p; warned = warned; accepted = true; sum = sum }

abbrev at : ℕ → Phase → ℕ → Reader
at next p sum = at_warned false next p sum

abbrev old : List ℕ
old = replicate 30 5

-- Case A of document 01, byte for byte, with its rows; the tenth number lent is untouched.
abbrev pub case_a : Image
case_a =
    record {
      number = 1;
      entries = 3;
      bytes = replicate 20 0x41 ++ (0x80 ∷ 0 ∷ 0 ∷ 0x2C ∷ 0x07 ∷ 0 ∷ 0 ∷ 0 ∷ 0x63 ∷ 0 ∷ 0 ∷ 0x14 ∷ replicate 32 0);
    }

case_a_pictured : Pictures 64 9 (an_entire (replicate 20 0x41) ∷ a_separator 0 ∷ []) case_a
unfolding opens
case_a_pictured = record { gap = []; information = replicate 32 0; thirty_two = refl; counted = refl; filled = refl; stands = refl }

case_a_accepted : Accepts (fresh 64 1) (case_a ∷ []) ((6 ∷ 0 ∷ 20 ∷ 2 ∷ 20 ∷ 0 ∷ 7 ∷ 20 ∷ 44 ∷ 5 ∷ []) ∷ []) (at 2 phase.Free 0)
unfolding opens
case_a_accepted = accepts_more {t = at 2 phase.Free 0} (replicate 10 5) refl accepts_none

pub case_a_shown : Shown (laid_entire (replicate 20 0x41) ∷ laid_separator 0 ∷ ended_early ∷ []) none_open (case_a ∷ []) (at 2 phase.Free 0)
unfolding opens
case_a_shown =
    shown ((an_entire (replicate 20 0x41) ∷ a_separator 0 ∷ []) ∷ [])
    (each_more (sound_entire (lit≤ tt) (lit≤ tt)) (each_more (sound_separator (lit≤ tt)) (each_more sound_early each_none))) sound_none
    refl (run_more (lit≤ tt) refl case_a_pictured run_none) case_a_accepted refl refl

-- An entire record, and separators of both values.
abbrev mixed : List Piece
mixed = an_entire (1 ∷ 2 ∷ 3 ∷ []) ∷ a_separator 0 ∷ a_separator 1 ∷ []

abbrev mixed_laid : List Laid
mixed_laid = laid_entire (1 ∷ 2 ∷ 3 ∷ []) ∷ laid_separator 0 ∷ laid_separator 1 ∷ ended_early ∷ []

mixed_shown : (plain : ℕ) (warned : Bool) {rows : List (List ℕ)} → Accepts (fresh 64 1) (run_of 1 plain (mixed ∷ [])) rows (at_warned warned 2 phase.Free 0) →
    items_read (run_of 1 plain (mixed ∷ [])) rows ≡ items mixed_laid → begun_read (run_of 1 plain (mixed ∷ [])) rows ≡ [] → Shown mixed_laid none_open (run_of 1 plain (mixed ∷ [])) (at_warned warned 2 phase.Free 0)
unfolding opens fitting
mixed_shown plain warned a i b =
    made plain (mixed ∷ []) (each_more (sound_entire (lit≤ tt) (lit≤ tt)) (each_more (sound_separator (lit≤ tt)) (each_more (sound_separator (lit≤ tt)) (each_more sound_early each_none)))) sound_none
    refl refl a i b

-- Entire, separators of both values, an early end; b4 never set.
pub entire_shown : Shown mixed_laid none_open (run_of 1 9 (mixed ∷ [])) (at 2 phase.Free 0)
unfolding opens group_of run_of
entire_shown = mixed_shown 9 false (accepts_more {t = at 2 phase.Free 0} old refl accepts_none) refl refl

-- b4 beginning at each entry of a group in turn, the last time at its skip.
pub b4_shown : Each (λ (plain : ℕ). Shown mixed_laid none_open (run_of 1 plain (mixed ∷ [])) (at_warned true 2 phase.Free 0)) (0 ∷ 1 ∷ 2 ∷ 3 ∷ [])
unfolding opens group_of run_of
b4_shown =
    each_more (mixed_shown 0 true (accepts_more {t = at_warned true 2 phase.Free 0} old refl accepts_none) refl refl)
    (each_more (mixed_shown 1 true (accepts_more {t = at_warned true 2 phase.Free 0} old refl accepts_none) refl refl)
    (each_more (mixed_shown 2 true (accepts_more {t = at_warned true 2 phase.Free 0} old refl accepts_none) refl refl)
    (each_more (mixed_shown 3 true (accepts_more {t = at_warned true 2 phase.Free 0} old refl accepts_none) refl refl) each_none)))

-- Spanned over three groups, its total in its last part's group; b4 begins at the second group's skip and stays. A record follows.
abbrev three : List (List Piece)
three = (a_start (1 ∷ 2 ∷ []) ∷ []) ∷ (a_middle (3 ∷ []) ∷ []) ∷ (a_last (4 ∷ 5 ∷ []) ∷ a_total 5 ∷ an_entire (6 ∷ []) ∷ []) ∷ []

pub spanned_shown : Shown (laid_spanned (1 ∷ 2 ∷ []) ((3 ∷ []) ∷ []) (4 ∷ 5 ∷ []) false ∷ laid_entire (6 ∷ []) ∷ ended_early ∷ []) none_open (run_of 1 3 three) (at_warned true 4 phase.Free 0)
unfolding opens group_of run_of fitting
spanned_shown =
    made 3 three
    (each_more (sound_spanned (lit≤ tt) (each_more (lit≤ tt) each_none) (lit≤ tt) (lit≤ tt) tt) (each_more (sound_entire (lit≤ tt) (lit≤ tt)) (each_more sound_early each_none))) sound_none
    refl refl
    (accepts_more {t = at 2 phase.Inside 2} old refl (accepts_more {t = at_warned true 3 phase.Inside 3} old refl (accepts_more {t = at_warned true 4 phase.Free 0} old refl accepts_none)))
    refl refl

-- A late total: a skip of 43 after the last part, and the total in the next group.
abbrev late : List (List Piece)
late = (a_start (1 ∷ []) ∷ []) ∷ (a_last (replicate 21 2) ∷ []) ∷ (a_total 22 ∷ []) ∷ []

pub late_shown : Shown (laid_spanned (1 ∷ []) [] (replicate 21 2) true ∷ ended_early ∷ []) none_open (run_of 1 99 late) (at 4 phase.Free 0)
unfolding opens group_of run_of fitting
late_shown =
    made 99 late (each_more (sound_spanned (lit≤ tt) each_none (lit≤ tt) (lit≤ tt) (lit≤ tt)) (each_more sound_early each_none)) sound_none
    refl refl
    (accepts_more {t = at 2 phase.Inside 1} old refl (accepts_more {t = at 3 phase.Owed 22} old refl (accepts_more {t = at 4 phase.Free 0} old refl accepts_none)))
    refl refl

-- Early ends: empty groups, first and last, and one between.
abbrev early : List (List Piece)
early = [] ∷ (an_entire (1 ∷ []) ∷ []) ∷ [] ∷ (a_separator 0 ∷ []) ∷ [] ∷ []

pub early_shown : Shown (ended_early ∷ laid_entire (1 ∷ []) ∷ ended_early ∷ ended_early ∷ laid_separator 0 ∷ ended_early ∷ ended_early ∷ []) none_open (run_of 1 99 early) (at 6 phase.Free 0)
unfolding opens group_of run_of fitting
early_shown =
    made 99 early
    (each_more sound_early (each_more (sound_entire (lit≤ tt) (lit≤ tt)) (each_more sound_early (each_more sound_early (each_more (sound_separator (lit≤ tt)) (each_more sound_early (each_more sound_early each_none))))))) sound_none
    refl refl
    (accepts_more {t = at 2 phase.Free 0} old refl (accepts_more {t = at 3 phase.Free 0} old refl (accepts_more {t = at 4 phase.Free 0} old refl
    (accepts_more {t = at 5 phase.Free 0} old refl (accepts_more {t = at 6 phase.Free 0} old refl accepts_none)))))
    refl refl

-- Broken off inside a record, after a separator.
abbrev inside : List (List Piece)
inside = (a_separator 1 ∷ a_start (1 ∷ []) ∷ []) ∷ (a_middle (2 ∷ 3 ∷ []) ∷ []) ∷ []

pub inside_shown : Shown (laid_separator 1 ∷ []) (broken_inside (1 ∷ []) ((2 ∷ 3 ∷ []) ∷ [])) (run_of 1 99 inside) (at 3 phase.Inside 3)
unfolding opens group_of run_of fitting
inside_shown =
    made 99 inside (each_more (sound_separator (lit≤ tt)) each_none) (sound_inside (lit≤ tt) (each_more (lit≤ tt) each_none) (lit≤ tt))
    refl refl
    (accepts_more {t = at 2 phase.Inside 1} old refl (accepts_more {t = at 3 phase.Inside 3} old refl accepts_none))
    refl refl

-- A total owed at the end, beside a skip of 40.
abbrev owed : List (List Piece)
owed = (a_start (1 ∷ []) ∷ []) ∷ (a_last (replicate 24 2) ∷ []) ∷ []

pub owed_shown : Shown [] (broken_owed (1 ∷ []) [] (replicate 24 2)) (run_of 1 99 owed) (at 3 phase.Owed 25)
unfolding opens group_of run_of fitting
owed_shown =
    made 99 owed each_none (sound_owed (lit≤ tt) each_none (lit≤ tt) (lit≤ tt) (lit≤ tt))
    refl refl
    (accepts_more {t = at 2 phase.Inside 1} old refl (accepts_more {t = at 3 phase.Owed 25} old refl accepts_none))
    refl refl

-- "only the number tells equal middles apart": a record with two middles of one length, whatever their bytes. So where x y and
-- z w change places and their groups are numbered anew, the run is accepted as another record ..
abbrev pub equal_middles : ℕ → ℕ → ℕ → ℕ → List (List Piece)
equal_middles x y z w = (a_start (1 ∷ []) ∷ []) ∷ (a_middle (x ∷ y ∷ []) ∷ []) ∷ (a_middle (z ∷ w ∷ []) ∷ []) ∷ (a_last (4 ∷ []) ∷ a_total 6 ∷ []) ∷ []

pub middles_shown : (x y z w : ℕ) → Shown (laid_spanned (1 ∷ []) ((x ∷ y ∷ []) ∷ (z ∷ w ∷ []) ∷ []) (4 ∷ []) false ∷ ended_early ∷ []) none_open (run_of 1 99 (equal_middles x y z w)) (at 5 phase.Free 0)
unfolding opens group_of run_of fitting
middles_shown x y z w =
    made 99 (equal_middles x y z w)
    (each_more (sound_spanned (lit≤ tt) (each_more (lit≤ tt) (each_more (lit≤ tt) each_none)) (lit≤ tt) (lit≤ tt) tt) (each_more sound_early each_none)) sound_none
    refl refl
    (accepts_more {t = at 2 phase.Inside 1} old refl (accepts_more {t = at 3 phase.Inside 3} old refl
    (accepts_more {t = at 4 phase.Inside 5} old refl (accepts_more {t = at 5 phase.Free 0} old refl accepts_none))))
    refl refl

-- .. and with the numbers that they bore it is refused with 5, although its total matches.
pub exchanged_shown : (x y z w : ℕ) → OutOfOrder (fresh 64 1) (group_of 1 99 (a_start (1 ∷ []) ∷ []) ∷ []) (group_of 3 95 (a_middle (z ∷ w ∷ []) ∷ []))
    (group_of 2 97 (a_middle (x ∷ y ∷ []) ∷ []) ∷ group_of 4 93 (a_last (4 ∷ []) ∷ a_total 6 ∷ []) ∷ [])
unfolding run_of
exchanged_shown x y z w =
    exchanged 64 1 (fresh 64 1) starts (group_of 1 99 (a_start (1 ∷ []) ∷ []) ∷ []) [] (group_of 4 93 (a_last (4 ∷ []) ∷ a_total 6 ∷ []) ∷ [])
    (group_of 2 97 (a_middle (x ∷ y ∷ []) ∷ [])) (group_of 3 95 (a_middle (z ∷ w ∷ []) ∷ [])) (middles_shown x y z w).rows (at 5 phase.Free 0) (middles_shown x y z w).accepts
