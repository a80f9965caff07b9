-- The theorems as they are cited, each under document 01's words for it. "Demand 3 speaks of the run with its repeats taken out."
-- Assumes nothing.
use Prim.Native.Nat.{ℕ, suc, ◌+◌, ◌<◌}
use native.Mathlib.Omega.{arith}
use mathlib.Core.List.{List, [], ◌∷◌, ◌++◌, map}
use mathlib.Core.Path.{◌≡◌, sym, ap, ◌∙◌, subst}
use mathlib.Core.Logic.{◌↔◌}
use lib.ListN.{length, get_or}
use Rattle.group.specs.declared.Phase.TheVariants as phase
use Rattle.reader.specs.declared.Reader.{Reader}
use Rattle.reader.specs.ReaderStart as start
use Rattle.reader.specs.Answer.{reader_start_call}
use Rattle.laying.specs.Laying.{Desk}
use Rattle.reader.proofs.Accepted.{begun_at}
use Rattle.layout.specs.Items.{Item, Each}
use Rattle.layout.specs.Layout.{Image, Lays}
use Rattle.layout.specs.Repeats.{without_repeats, OfSize}
use Rattle.layout.specs.Accepting.{Accepts, ToEnd, Lent, LentAmong}
use Rattle.layout.specs.Counts.{AddsUp}
use Rattle.layout.specs.EarlyWarning.{BeginsOnce}
use Rattle.layout.specs.Reading.{OfBytes, items_read, begun_read}
use Rattle.layout.specs.Stated.{EndsWith, ThroughWith, AtEndAmong, OutOfOrder}
use Rattle.layout.specs.Writing.{Account, Wrote, WasEnded}
use Rattle.layout.specs.WritingStated.{GivesBack, GivesBackAmong, AllClosed, TotalsKept}
use Rattle.layout.specs.BenchTable.{Case, shown, bench_table}
use Rattle.layout.proofs.OnlyOne.{one_reading, buffers_for, enough}
use Rattle.layout.proofs.Order.{first_of, size_after, next_after, split, each_before, out_of_order}
use Rattle.layout.proofs.Once as once
use Rattle.layout.proofs.Repeats.{repeats_out, repeats_in, lent_among, each_without, split_end, behind_first, no_lower, none_out}
use Rattle.layout.proofs.Returned as written
use Rattle.layout.proofs.Ended as endings
use Rattle.layout.proofs.TotalKept as totals
use Rattle.layout.proofs.Bench as computed

-- "A reader starts with L and the first number": s is the start call's own answer. A run is accepted to its end where each read accepts
-- its group, or answers that it is a repeat.
module _ (size first : ℕ) (s : Reader) (begins : reader_start_call size first ≡ start.Started s) where
  -- No group was accepted before the run: so, its repeats taken out, each of its groups is accepted.
  each_once : {run : List Image} {lent rows : List (List ℕ)} {final : Reader} → ToEnd s run lent rows final → Accepts s (without_repeats run) rows final
  each_once x = repeats_out (ap (λ (r : Reader). r.accepted) (begun_at size first s begins).1) x

  -- "Its state is L, the next number, free / inside / owed, and the sum of parts so far": at the end of a run the number is as
  -- many higher as there are groups, the pieces that the rows give tell free, inside and owed, and the sum is the number of bytes
  -- so far.
  pub state_at_end : (i : List Item) (b : List ℕ) (run : List Image) (lent rows : List (List ℕ)) (final : Reader) → Lays size first i b (without_repeats run) → ToEnd s run lent rows final →
      EndsWith size first (without_repeats run) rows b final
  state_at_end i b run lent rows final l x = once.state_at_end size first s begins i b (without_repeats run) rows final l (each_once x)

  -- "Freedoms of a lawful layout: where a record is broken, where a group ends early with a skip while free, a skip after a
  -- last", "one entry of the whole run, or none, where b4 begins", "all gap bytes, the last 32 bytes, and the first group number".
  -- Whichever are taken, the run is accepted to its end, with any repeats of L bytes in it, whatever they hold, and with any row
  -- buffers, long enough where a group is no repeat.
  pub complete : (i : List Item) (b : List ℕ) (run : List Image) (lent : List (List ℕ)) → Lays size first i b (without_repeats run) → Each (OfSize size) run → LentAmong run lent →
      ThroughWith s run lent b
  complete i b run lent l z e =
      let is = sym (begun_at size first s begins).1 in
      let a = once.complete size first s begins i b (without_repeats run) (buffers_for (without_repeats run)) l (enough (without_repeats run)) in
      let t = repeats_in run lent (subst (λ (r : Reader). Each (OfSize r.size) run) is z) e a.accepts in
      record {
        rows = t.rows;
        final = a.final;
        reads = t.reads;
        ends = subst (λ (r : Reader). EndsWith r.size r.next (without_repeats run) t.rows b a.final) is (state_at_end i b run lent t.rows a.final l t.reads);
      }

  -- "A layout is defined from its items and these freedoms to the groups, and not by the reader's or the writer's steps." What
  -- is accepted to its end is, its repeats taken out, a lawful layout of what its rows and its bytes give. (That each image is made of
  -- bytes is what a byte slice is.)
  pub lawful : (run : List Image) (lent rows : List (List ℕ)) (final : Reader) → Each OfBytes run → ToEnd s run lent rows final →
      Lays size first (items_read (without_repeats run) rows) (begun_read (without_repeats run) rows) (without_repeats run)
  lawful run lent rows final b x = once.lawful size first s begins (without_repeats run) rows final (each_without run b) (each_once x)

  -- A run is accepted to its end exactly when some list of records and separators lays out to it, its repeats taken out. (Of byte
  -- slices, as above, of "the run's group size": 4 comes before a repeat.)
  pub exactly : (run : List Image) → Each OfBytes run → Each (OfSize size) run →
      ((lent : List (List ℕ)) × ((rows : List (List ℕ)) × ((final : Reader) × ToEnd s run lent rows final))) ↔ ((i : List Item) × ((b : List ℕ) × Lays size first i b (without_repeats run)))
  exactly run b z = (
    λ x. (items_read (without_repeats run) x.1.0, (begun_read (without_repeats run) x.1.0, lawful run x.0 x.1.0 x.1.1.0 b x.1.1.1)),
    λ x. let a = complete x.0 x.1.0 run (buffers_for run) x.1.1 z (lent_among (enough run)) in (buffers_for run, (a.rows, (a.final, a.reads))),
  )

  -- "fills three 32-bit numbers per entry: kind, data offset reached before this entry, count": those numbers and the bytes give
  -- the items of the run's lawful layout, and the bytes so far of the record that it breaks off.
  pub read_back : (i : List Item) (b : List ℕ) (run : List Image) (lent rows : List (List ℕ)) (final : Reader) → Lays size first i b (without_repeats run) → ToEnd s run lent rows final →
      (items_read (without_repeats run) rows ≡ i) × (begun_read (without_repeats run) rows ≡ b)
  read_back i b run lent rows final l x = once.read_back size first s begins i b (without_repeats run) rows final l (each_once x)

  -- "A record is finished at its entire entry or at its total, and broken off if the run ends before." At every group's end, a
  -- repeat's too: accepted so far, and what the rows give so far is a lawful layout of it and the only one.
  pub at_each_end : (beginning rest : List Image) (lent rows : List (List ℕ)) (final : Reader) → Each OfBytes (beginning ++ rest) → ToEnd s (beginning ++ rest) lent rows final →
      AtEndAmong size first s beginning rest lent rows final
  at_each_end beginning rest lent rows final b x =
      let p = split_end beginning rest x in
      let l = lawful beginning p.lent_before p.before p.left (each_before beginning rest b) p.begins in
      record {
        state = p.left;
        lent_before = p.lent_before;
        lent_behind = p.lent_behind;
        before = p.before;
        behind = p.after;
        lent_parts = p.lent_parts;
        parts = p.parts;
        reads = p.begins;
        goes_on = p.goes_on;
        lays = l;
        only = λ i c m. one_reading m l;
        ends = state_at_end (items_read (without_repeats beginning) p.before) (begun_read (without_repeats beginning) p.before) beginning p.lent_before p.before p.left l p.begins;
      }

  -- "Counts of kinds 3 to 7 add up to L": in every group of such a run that is no repeat.
  pub add_up_lem : (run : List Image) (lent rows : List (List ℕ)) (final : Reader) → ToEnd s run lent rows final → Each (AddsUp size) (without_repeats run)
  add_up_lem run lent rows final x = once.add_up_lem size first s begins (without_repeats run) rows final (each_once x)

  -- "one entry of the whole run, or none, where b4 begins": in the tables of its groups that are no repeats, by their bytes.
  pub begins_once : (run : List Image) (lent rows : List (List ℕ)) (final : Reader) → ToEnd s run lent rows final → BeginsOnce size (without_repeats run)
  begins_once run lent rows final x = once.begins_once size first s begins (without_repeats run) rows final (each_once x)

  -- "Numbers then rise by one": in a run that is accepted to its end the k-th group, k from 0, its repeats taken out, bears the
  -- number first + k.
  pub numbered : (run : List Image) (lent rows : List (List ℕ)) (final : Reader) → ToEnd s run lent rows final → (k : ℕ) → k < length (without_repeats run) →
      get_or (map (λ (g : Image). g.number) (without_repeats run)) k 0 ≡ first + k
  numbered run lent rows final x k h = once.numbered size first s begins (without_repeats run) rows final (each_once x) k h

  -- Groups of different numbers that change places, among whatever repeats: not both runs are accepted to their ends.
  pub exchanged_among : (a b c : List Image) (g h : Image) (lent rows lent' rows' : List (List ℕ)) (final final' : Reader) → (g.number ≡ h.number → ⊥) →
      ToEnd s (a ++ (g ∷ (b ++ (h ∷ c)))) lent rows final → ToEnd s (a ++ (h ∷ (b ++ (g ∷ c)))) lent' rows' final' → ⊥
  exchanged_among a b c g h lent rows lent' rows' final final' other x y =
      let p = behind_first (split_end a (g ∷ (b ++ (h ∷ c))) x).goes_on in
      let q = behind_first (split_end a (h ∷ (b ++ (g ∷ c))) y).goes_on in
      other (omega (arith, p.next, q.next, no_lower h b c p.reads, no_lower g b c q.reads))

  -- "Taking a matching total as proof of order: only the number tells equal middles apart." Any two groups g and h of an accepted
  -- run are exchanged, numbers with them: the reader refuses the run with 5 at the first place where the order differs, whatever
  -- the groups hold, equal lengths included.
  pub exchanged : (a b c : List Image) (g h : Image) (rows : List (List ℕ)) (final : Reader) → Accepts s (a ++ (g ∷ (b ++ (h ∷ c)))) rows final →
      OutOfOrder s a h (b ++ (g ∷ c))
  exchanged a b c g h rows final x =
      let p = split a (g ∷ (b ++ (h ∷ c))) x in
      let q = split (g ∷ b) (h ∷ c) p.goes_on in
      let later : h.number ≡ p.left.next + suc (length b) = (first_of q.goes_on).ready.next ∙ next_after q.begins in
      let long : length h.bytes ≡ p.left.size = (first_of q.goes_on).ready.long ∙ size_after q.begins in
      out_of_order a g h (b ++ (g ∷ c)) p.begins (first_of p.goes_on) long (λ e. omega arith) (λ e. omega arith)

-- Of one run there is one reading: two lawful layouts of it have the same items, and the same bytes so far of a record that is
-- "broken off if the run ends before".
pub only_one : (size first : ℕ) (i j : List Item) (b c : List ℕ) (run : List Image) → Lays size first i b run → Lays size first j c run → (i ≡ j) × (b ≡ c)
only_one size first i j b c run l m = one_reading l m

-- What was written: the calls of a writer, their answers and the phase that the caller sees, from the start call's own answer. "A
-- call either finishes its work, or closes the group and says its number, its entry count and how many bytes it took."
module _ (size first : ℕ) (w : Desk) (run : List Image) (closed now : Account) (x : Wrote size first w run closed now) where
  -- The groups closed so far are a lawful layout of what was written up to the last close.
  pub wrote_lays : Lays size first closed.finished closed.begun run
  wrote_lays = written.closed_lays x

  -- "A writer that lays the first call and feigns the others fails demand 3's return of what was written." The groups closed so
  -- far are accepted, with any row buffers that are long enough, and the rows give back the account at the last close.
  pub returned : (lent : List (List ℕ)) → Lent run lent → GivesBack size first run lent closed
  returned lent e = written.gives_back x e

  -- "Drives may record one Basic Group several times": handed in with any repeats of L bytes, the groups give back the same.
  pub returned_among : (handed : List Image) (lent : List (List ℕ)) → without_repeats handed ≡ run → Each (OfSize size) handed → LentAmong handed lent →
      GivesBackAmong size first handed lent closed
  returned_among handed lent same z e =
      let g = returned (buffers_for run) (enough run) in
      let l = subst (λ (r : List Image). Lays size first closed.finished closed.begun r) (sym same) wrote_lays in
      let t = complete size first g.reader g.starts closed.finished closed.begun handed lent l z e in
      let back = read_back size first g.reader g.starts closed.finished closed.begun handed lent t.rows t.final l t.reads in
      record { reader = g.reader; starts = g.starts; through = t; items = back.0; begun = back.1 }

  -- .. and no group that a writer closes is a repeat of another.
  pub none_repeated : without_repeats run ≡ run
  none_repeated = none_out wrote_lays.images

  -- "End: free with e = 0, and no total owed, closes nothing. Otherwise skip and close." After an accepted end nothing waits in
  -- the group: a run that was ended gives back all that was written.
  pub ended : WasEnded x → AllClosed size first w run closed now
  ended h = endings.all_closed x h

  -- Where the phase is free, nothing is left half-written.
  pub free_whole : w.state.phase ≡ phase.Free → now.begun ≡ []
  free_whole e = written.none_begun x e

  -- "With skip the total is owed." "An owed total is laid first by the next accepted call." Every record that spans groups and
  -- whose bytes were all taken has its total laid, in its last part's group or as the first entry of the next, or is still owed
  -- at the run's end.
  pub total_kept : TotalsKept size first run closed
  total_kept = totals.totals_kept x

-- "The P cases are one theorem over one list": each comes to what is expected of it, every closed group byte for byte.
pub bench : map (λ (c : Case). shown c.given) bench_table ≡ map (λ (c : Case). c.expected) bench_table
bench = computed.bench
