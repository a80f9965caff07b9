-- The theorems of a reader over runs in which every group is accepted, each under document 01's words for it. A run with repeats is one
-- of these once they are taken out.
-- Assumes nothing.
use Prim.Native.Nat.{ℕ, ◌+◌, ◌<◌}
use mathlib.Core.List.{List, ◌++◌, map}
use mathlib.Core.Path.{◌≡◌, refl, sym, subst}
use mathlib.Core.Logic.{◌↔◌}
use lib.ListN.{length, get_or}
use Rattle.group.proofs.StateLaws.{started}
use Rattle.reader.specs.declared.Reader.{Reader}
use Rattle.reader.specs.ReaderStart as start
use Rattle.reader.specs.Answer.{fresh, reader_start_call}
use Rattle.reader.proofs.Accepted.{begun_at}
use Rattle.layout.specs.Items.{Item, Each}
use Rattle.layout.specs.Layout.{Image, Lays}
use Rattle.layout.specs.Accepting.{Accepts, Lent}
use Rattle.layout.specs.Counts.{AddsUp}
use Rattle.layout.specs.EarlyWarning.{BeginsOnce}
use Rattle.layout.specs.Reading.{OfBytes, items_read, begun_read}
use Rattle.layout.specs.Stated.{EndsWith, AcceptedWith, AtEnd}
use Rattle.layout.proofs.Grammar.{tail_stand, tail_sum}
use Rattle.layout.proofs.Complete.{AcceptedTo, complete_to}
use Rattle.layout.proofs.OnlyOne.{reading_is, one_reading, enough}
use Rattle.layout.proofs.Sound.{lawful_from}
use Rattle.layout.proofs.Order.{number_of, split, each_before}
use Rattle.layout.proofs.Ending.{ends_with}
use Rattle.layout.proofs.AddUp.{each_adds}
use Rattle.layout.proofs.EarlyWarning as warned

-- "A reader starts with L and the first number": s is the start call's own answer.
module _ (size first : ℕ) (s : Reader) (begins : reader_start_call size first ≡ start.Started s) where
  is_fresh : fresh size first ≡ s
  is_fresh = sym (begun_at size first s begins).1

  from_fresh : {run : List Image} {rows : List (List ℕ)} {final : Reader} → Accepts s run rows final → Accepts (fresh size first) run rows final
  from_fresh {run} {rows} {final} a = subst (λ (x : Reader). Accepts x run rows final) (sym is_fresh) a

  accepted_to : {i : List Item} {b : List ℕ} {run : List Image} {lent : List (List ℕ)} (l : Lays size first i b run) → Lent run lent →
      AcceptedTo s run lent (tail_stand l.tail) (tail_sum l.tail)
  accepted_to {run} {lent} l e = subst (λ (x : Reader). AcceptedTo x run lent (tail_stand l.tail) (tail_sum l.tail)) is_fresh (complete_to l e)

  -- "Freedoms of a lawful layout: where a record is broken, where a group ends early with a skip while free, a skip after a
  -- last", "one entry of the whole run, or none, where b4 begins", "all gap bytes, the last 32 bytes, and the first group number".
  -- Whichever are taken, the run is accepted, with any row buffers that are long enough.
  pub complete : (i : List Item) (b : List ℕ) (run : List Image) (lent : List (List ℕ)) → Lays size first i b run → Lent run lent → AcceptedWith s run lent b
  complete i b run lent l e =
      let a = accepted_to l e in
      record {
        rows = a.rows;
        final = a.final;
        accepts = a.accepts;
        buffers = a.buffers;
        ends = subst (λ (x : Reader). EndsWith x.size x.next run a.rows b a.final) is_fresh (ends_with l (from_fresh a.accepts));
      }

  -- "A layout is defined from its items and these freedoms to the groups, and not by the reader's or the writer's steps." What
  -- is accepted is a lawful layout of what its rows and its bytes give. (That each image is made of bytes is what a byte slice
  -- is.)
  pub lawful : (run : List Image) (rows : List (List ℕ)) (final : Reader) → Each OfBytes run → Accepts s run rows final →
      Lays size first (items_read run rows) (begun_read run rows) run
  lawful run rows final b a =
      let (h, k) = started size first (begun_at size first s begins).0 in
      lawful_from h k b (from_fresh a)

  -- A run is accepted exactly when some list of records and separators lays out to it. (Of byte slices, as above.)
  pub exactly : (run : List Image) → Each OfBytes run →
      ((rows : List (List ℕ)) × ((final : Reader) × Accepts s run rows final)) ↔ ((i : List Item) × ((b : List ℕ) × Lays size first i b run))
  exactly run b = (
    λ x. (items_read run x.0, (begun_read run x.0, lawful run x.0 x.1.0 b x.1.1)),
    λ x. let a = accepted_to x.1.1 (enough run) in (a.rows, (a.final, a.accepts)),
  )

  -- "fills three 32-bit numbers per entry: kind, data offset reached before this entry, count": those numbers and the bytes give
  -- the items of the run's lawful layout, and the bytes so far of the record that it breaks off.
  pub read_back : (i : List Item) (b : List ℕ) (run : List Image) (rows : List (List ℕ)) (final : Reader) → Lays size first i b run → Accepts s run rows final →
      (items_read run rows ≡ i) × (begun_read run rows ≡ b)
  read_back i b run rows final l a = reading_is l (from_fresh a)

  -- "Its state is L, the next number, free / inside / owed, and the sum of parts so far": at the end of a run the number is as
  -- many higher as there are groups, the pieces that the rows give tell free, inside and owed, and the sum is the number of bytes
  -- so far.
  pub state_at_end : (i : List Item) (b : List ℕ) (run : List Image) (rows : List (List ℕ)) (final : Reader) → Lays size first i b run → Accepts s run rows final →
      EndsWith size first run rows b final
  state_at_end i b run rows final l a = ends_with l (from_fresh a)

  -- "A record is finished at its entire entry or at its total, and broken off if the run ends before." At every group's end:
  -- accepted so far, and what the rows give so far is a lawful layout of it and the only one.
  pub at_each_end : (beginning rest : List Image) (rows : List (List ℕ)) (final : Reader) → Each OfBytes (beginning ++ rest) → Accepts s (beginning ++ rest) rows final →
      AtEnd size first s beginning rest rows final
  at_each_end beginning rest rows final b a =
      let p = split beginning rest a in
      let l = lawful beginning p.before p.left (each_before beginning rest b) p.begins in
      record {
        state = p.left;
        before = p.before;
        behind = p.behind;
        parts = p.parts;
        accepts = p.begins;
        goes_on = p.goes_on;
        lays = l;
        only = λ i c m. one_reading m l;
        ends = state_at_end (items_read beginning p.before) (begun_read beginning p.before) beginning p.before p.left l p.begins;
      }

  -- "Counts of kinds 3 to 7 add up to L": in every group of an accepted run.
  pub add_up_lem : (run : List Image) (rows : List (List ℕ)) (final : Reader) → Accepts s run rows final → Each (AddsUp size) run
  add_up_lem run rows final a = each_adds refl (from_fresh a)

  -- "one entry of the whole run, or none, where b4 begins": in the tables of an accepted run, by their bytes.
  pub begins_once : (run : List Image) (rows : List (List ℕ)) (final : Reader) → Accepts s run rows final → BeginsOnce size run
  begins_once run rows final a = warned.begins_once refl (from_fresh a)

  -- "Numbers then rise by one": in an accepted run the k-th group, k from 0, bears the number first + k.
  pub numbered : (run : List Image) (rows : List (List ℕ)) (final : Reader) → Accepts s run rows final → (k : ℕ) → k < length run →
      get_or (map (λ (g : Image). g.number) run) k 0 ≡ first + k
  numbered run rows final a k h = number_of (from_fresh a) k h
