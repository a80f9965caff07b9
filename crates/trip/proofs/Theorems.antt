-- The theorems of this crate: the way of a run through C's slices, written and read; and demand 3 of any run that C reads, its repeats
-- taken out.
-- Assumes nothing.
use Prim.Native.Nat.{ℕ, ◌/◌}
use mathlib.Core.List.{List, ◌∷◌, ◌++◌}
use mathlib.Core.Path.{◌≡◌, sym, ap, ◌∙◌, subst}
use mathlib.Core.Logic.{◌↔◌, ◌⊎◌, inl, inr}
use lib.ListN.{length, replicate, length-replicate}
use Rattle.reader.specs.declared.Reader.{Reader}
use Rattle.reader.specs.ReaderStart as start
use Rattle.reader.specs.Answer.{fresh, reader_start_call, read_call}
use Rattle.reader.proofs.Accepted.{begun_at}
use Rattle.laying.specs.Laying.{desk}
use Rattle.writer.specs.Calls.{Call}
use Rattle.layout.specs.Items.{Item, Each}
use Rattle.layout.specs.Layout.{Image, Lays}
use Rattle.layout.specs.Repeats.{without_repeats, OfSize}
use Rattle.layout.specs.Accepting.{Accepts, ToEnd}
use Rattle.layout.specs.Reading.{OfBytes, items_read, begun_read}
use Rattle.layout.specs.Stated.{EndsWith}
use Rattle.layout.specs.Writing.{Account}
use Rattle.layout.proofs.Order.{each_before}
use Rattle.layout.proofs.Ended.{none_waits}
use Rattle.layout.proofs.Returned.{none_begun}
use Rattle.layout.proofs.Theorems.{complete, lawful, read_back, state_at_end, exchanged, exchanged_among, only_one, wrote_lays, returned, returned_among}
use Rattle.slices.specs.Call.{Left, outcome_seen, answer_length}
use Rattle.states.specs.States.{reader_length, reader_of, writer_of}
use Rattle.c_reader.specs.Calls.{dds_reader_start, dds_read, reader_left, rows_read}
use Rattle.c_reader.specs.Accepted.{ReadAccepted, ReadRepeated, repeat_left}
use Rattle.c_reader.proofs.Theorems.{read_returns_zero, read_accepts, read_repeats, read_repeated, read_left}
use Rattle.trip.specs.ThroughC.{call_c, Loan, LentC, LentAmongC, numbers_lent, WroteC, WasEndedC, AcceptsC, ToEndC}
use Rattle.trip.specs.Stated.{Written, GivesBackC, AllClosedC, AcceptedC, ReadToEndC, ReadsOwn, AtEndAmongC, GivesBackAmongC, OutOfOrderC, RowsLeft}
use Rattle.trip.proofs.RowBytes.{row_bytes_lem}
use Rattle.trip.proofs.Writing.{written_through, ended_rests, either_seen}
use Rattle.trip.proofs.Reading.{slice, enough_lent, among_lent, held_slice, starts_through, sound_fresh, refused_through, accepted_through, through_to_end, sound_to_end, sound_end}
use Rattle.trip.proofs.Settled.{start_lent, lent_enough, same_reading}
use Rattle.trip.proofs.Accepting.{accepts_own, reads_own, split, split_end}
use Rattle.trip.proofs.Once.{lays_start}

-- "A call either finishes its work, or closes the group": every call from C that returns 0 tells outcome 0 or 1, whatever is lent. So
-- a writing from C goes on at each of them.
pub c_goes_on : (c : Call) (state group answer : List ℕ) → (call_c c state group answer).refusal ≡ 0 →
    (outcome_seen (call_c c state group answer) ≡ 0) ⊎ (outcome_seen (call_c c state group answer) ≡ 1)
c_goes_on = either_seen

-- "C returns 0, its answer slice says so": every read from C that returns 0 tells outcome 0 or 2, whatever is lent. So a reading from C
-- goes on at each of them.
pub c_read_goes_on : (state group : List ℕ) (number n : ℕ) (rows answer : List ℕ) → (dds_read state group number n rows answer).refusal ≡ 0 →
    (outcome_seen (dds_read state group number n rows answer) ≡ 0) ⊎ (outcome_seen (dds_read state group number n rows answer) ≡ 2)
c_read_goes_on state group number n rows answer z = by ((read_returns_zero state group number n rows answer).0 z)
  where
    by : ReadAccepted state group number n rows answer ⊎ ReadRepeated state group number answer →
        (outcome_seen (dds_read state group number n rows answer) ≡ 0) ⊎ (outcome_seen (dds_read state group number n rows answer) ≡ 2)
    by (inl a) = inl ((read_accepts state group number n rows answer).1 a).1
    by (inr r) = inr ((read_repeats state group number n rows answer).1 r).1

-- "state and rows stay, the contents aren't examined": of every read from C that returns 0 and tells outcome 2, whatever is lent.
pub c_repeat_stays : (state group : List ℕ) (number n : ℕ) (rows answer : List ℕ) → (dds_read state group number n rows answer).refusal ≡ 0 →
    outcome_seen (dds_read state group number n rows answer) ≡ 2 → dds_read state group number n rows answer ≡ repeat_left state rows
c_repeat_stays state group number n rows answer z e = read_repeated state group number n rows answer ((read_repeats state group number n rows answer).0 (z, e))

-- "three 32-bit numbers per entry: kind, data offset reached before this entry, count. Rows after the n-th are untouched." Of
-- every read from C that returns 0 and tells outcome 0, whatever is lent: row k is kind, data before and count of the entry at L
-- − 32 − 4k, each in four bytes, and every byte behind row n stays.
pub c_rows_are : (state group : List ℕ) (number n : ℕ) (rows answer : List ℕ) → (dds_read state group number n rows answer).refusal ≡ 0 →
    outcome_seen (dds_read state group number n rows answer) ≡ 0 → RowsLeft (reader_of state).size n group rows (rows_read (dds_read state group number n rows answer))
c_rows_are state group number n rows answer z e =
    let a = (read_accepts state group number n rows answer).0 (z, e) in
    let r = row_bytes_lem (reader_of state) a.left group number n rows _ a.accepts (read_left state group number n rows answer a).1 in
    record { are = r.0; behind = r.1 }

module _ (size first : ℕ) (state group : List ℕ) (run : List Image) (closed now : Account) (x : WroteC size first state group run closed now) where
  -- What was written from C is what the writer's own calls wrote, on the state that the state slice holds; and the slice is the
  -- bytes of that state, which is sound.
  pub c_wrote : Written size first state group run closed now
  c_wrote = written_through x

  -- "A writer that lays the first call and feigns the others fails demand 3's return of what was written." The groups closed so
  -- far, read from C with any slices that are long enough, are accepted, and the numbers of the rows give back the account at the
  -- last close.
  pub c_returned : (old answer : List ℕ) (loans : List Loan) → length old ≡ reader_length → length answer ≡ answer_length → LentC run loans →
      GivesBackC size first old answer run loans closed
  c_returned old answer loans e f l =
      let y = returned size first (desk (writer_of state) group) run closed now c_wrote.wrote (numbers_lent loans) (enough_lent l) in
      let a = y.accepted in
      let s = starts_through size first y.reader old answer y.starts e f in
      let h = sound_fresh size first y.reader y.starts in
      let reads = accepted_through a.accepts h l a.buffers in
      let ends = subst (λ (r : Reader). EndsWith r.size r.next run a.rows closed.begun a.final) (begun_at size first y.reader y.starts).1 a.ends in
      record {
        starts = ap (λ (o : Left). o.refusal) s;
        rows = a.rows;
        final = slice a.final;
        accepts = subst (λ (o : Left). AcceptsC (reader_left o) run loans a.rows (slice a.final)) (sym s) reads;
        items = y.items;
        begun = y.begun;
        ends = subst (λ (r : Reader). EndsWith size first run a.rows closed.begun r) (sym (held_slice a.final (sound_end a.accepts h))) ends;
      }

  -- "Drives may record one Basic Group several times": handed in with any repeats of L bytes, whatever they hold, they give back the
  -- same.
  pub c_returned_among : (handed : List Image) (old answer : List ℕ) (loans : List Loan) → without_repeats handed ≡ run → Each (OfSize size) handed →
      length old ≡ reader_length → length answer ≡ answer_length → LentAmongC handed loans → GivesBackAmongC size first old answer handed loans closed
  c_returned_among handed old answer loans same z e f l =
      let y = returned_among size first (desk (writer_of state) group) run closed now c_wrote.wrote handed (numbers_lent loans) same z (among_lent l) in
      let t = y.through in
      let s = starts_through size first y.reader old answer y.starts e f in
      let h = sound_fresh size first y.reader y.starts in
      let reads = through_to_end t.reads h l in
      let ends = subst (λ (r : Reader). EndsWith r.size r.next (without_repeats handed) t.rows closed.begun t.final) (begun_at size first y.reader y.starts).1 t.ends in
      record {
        read = record {
          starts = ap (λ (o : Left). o.refusal) s;
          rows = t.rows;
          final = slice t.final;
          reads = subst (λ (o : Left). ToEndC (reader_left o) handed loans t.rows (slice t.final)) (sym s) reads;
        };
        items = y.items;
        begun = y.begun;
        ends = subst (λ (r : Reader). EndsWith size first (without_repeats handed) t.rows closed.begun r) (sym (held_slice t.final (sound_to_end t.reads h))) ends;
      }

  -- "End": what is written reaches the tape. After an end that returned 0 the groups closed give back all that was written.
  pub c_ended : WasEndedC x → AllClosedC size first state run closed now
  unfolding writer_of
  c_ended h =
      let r = ended_rests x h in
      let same = none_waits c_wrote.wrote r.0 in
      record {
        none = r.0;
        free = r.1;
        all = same;
        whole = none_begun c_wrote.wrote r.1;
        gives_back = λ old answer loans e f l. subst (λ (a : Account). GivesBackC size first old answer run loans a) same (c_returned old answer loans e f l);
      }

  -- Whatever slices C lends, and whatever stands in them: a reading of those groups in which every call returned 0 gives back the
  -- account at the last close.
  pub c_read_back : (old answer : List ℕ) (loans : List Loan) (rows : List (List ℕ)) (final : List ℕ) → (dds_reader_start size first old answer).refusal ≡ 0 →
      AcceptsC (reader_left (dds_reader_start size first old answer)) run loans rows final → (items_read run rows ≡ closed.finished) × (begun_read run rows ≡ closed.begun)
  c_read_back old answer loans rows final e a =
      let long = start_lent size first old answer e in
      let y = c_returned old answer loans long.0 long.1 (lent_enough a) in
      let same = (same_reading a y.accepts).0 in
      (ap (λ (r : List (List ℕ)). items_read run r) same ∙ y.items, ap (λ (r : List (List ℕ)). begun_read run r) same ∙ y.begun)

  -- .. and so where they are handed in with repeats: whatever slices C lends, a reading in which every call returned 0.
  pub c_read_back_among : (handed : List Image) (old answer : List ℕ) (loans : List Loan) → without_repeats handed ≡ run → (a : ReadToEndC size first old answer handed loans) →
      (items_read (without_repeats handed) a.rows ≡ closed.finished) × (begun_read (without_repeats handed) a.rows ≡ closed.begun)
  c_read_back_among handed old answer loans same a =
      let o = reads_own size first old answer handed loans a in
      let w = wrote_lays size first (desk (writer_of state) group) run closed now c_wrote.wrote in
      read_back size first o.reader o.starts closed.finished closed.begun handed (numbers_lent loans) a.rows o.last
      (subst (λ (r : List Image). Lays size first closed.finished closed.begun r) (sym same) w) o.reads

same_start : (size first : ℕ) (s t : Reader) → reader_start_call size first ≡ start.Started s → reader_start_call size first ≡ start.Started t → s ≡ t
same_start size first s t e f = (begun_at size first s e).1 ∙ sym (begun_at size first t f).1

-- Demand 3 of any run, whoever wrote it, by what the calls return: `state` and `answer` are the slices that the start is lent. "Demand 3
-- speaks of the run with its repeats taken out."
module _ (size first : ℕ) (state answer : List ℕ) where
  -- What is read from C is what the reader's own calls read.
  pub c_reads : (run : List Image) (loans : List Loan) (a : ReadToEndC size first state answer run loans) → ReadsOwn size first run loans a.rows a.final
  c_reads = reads_own size first state answer

  -- What is read to its end is, its repeats taken out, a lawful layout of what the numbers in the row slices and the bytes give. (That
  -- each image is made of bytes is what a byte slice is.)
  pub c_lawful : (run : List Image) (loans : List Loan) → Each OfBytes run → (a : ReadToEndC size first state answer run loans) →
      Lays size first (items_read (without_repeats run) a.rows) (begun_read (without_repeats run) a.rows) (without_repeats run)
  c_lawful run loans b a =
      let o = c_reads run loans a in
      lawful size first o.reader o.starts run (numbers_lent loans) a.rows o.last b o.reads

  -- A lawful layout is read to its end, with any repeats of L bytes in it, whatever they hold, and with any slices, those for rows long
  -- enough where a group is no repeat.
  pub c_complete : (i : List Item) (b : List ℕ) (run : List Image) (loans : List Loan) → Lays size first i b (without_repeats run) → Each (OfSize size) run →
      length state ≡ reader_length → length answer ≡ answer_length → LentAmongC run loans → ReadToEndC size first state answer run loans
  c_complete i b run loans l z e f lent =
      let s = lays_start size first i b (without_repeats run) l in
      let c = complete size first (fresh size first) s i b run (numbers_lent loans) l z (among_lent lent) in
      let o = starts_through size first (fresh size first) state answer s e f in
      let reads = through_to_end c.reads (sound_fresh size first (fresh size first) s) lent in
      record {
        starts = ap (λ (y : Left). y.refusal) o;
        rows = c.rows;
        final = slice c.final;
        reads = subst (λ (y : Left). ToEndC (reader_left y) run loans c.rows (slice c.final)) (sym o) reads;
      }

  -- So a run is read to its end exactly when some list of records and separators lays out to it, its repeats taken out. (Of byte slices,
  -- as above, of "the run's group size".)
  pub c_exactly : (run : List Image) (loans : List Loan) → Each OfBytes run → Each (OfSize size) run → length state ≡ reader_length → length answer ≡ answer_length → LentAmongC run loans →
      ReadToEndC size first state answer run loans ↔ ((i : List Item) × ((b : List ℕ) × Lays size first i b (without_repeats run)))
  c_exactly run loans b z e f l = (
    λ a. (items_read (without_repeats run) a.rows, (begun_read (without_repeats run) a.rows, c_lawful run loans b a)),
    λ x. c_complete x.0 x.1.0 run loans x.1.1 z e f l,
  )

  -- .. and what the numbers in the row slices give is the only such list.
  pub c_only_one : (run : List Image) (loans : List Loan) → Each OfBytes run → (a : ReadToEndC size first state answer run loans) →
      (i : List Item) (b : List ℕ) → Lays size first i b (without_repeats run) → (i ≡ items_read (without_repeats run) a.rows) × (b ≡ begun_read (without_repeats run) a.rows)
  c_only_one run loans e a i b l =
      only_one size first i (items_read (without_repeats run) a.rows) b (begun_read (without_repeats run) a.rows) (without_repeats run) l (c_lawful run loans e a)

  -- "A record is finished at its entire entry or at its total, and broken off if the run ends before." So at each group's end, a
  -- repeat's too.
  pub c_at_each_end : (beginning rest : List Image) (loans : List Loan) → Each OfBytes (beginning ++ rest) → (a : ReadToEndC size first state answer (beginning ++ rest) loans) →
      AtEndAmongC size first state answer beginning rest loans a.rows a.final
  c_at_each_end beginning rest loans b a =
      let p = split_end beginning rest a.reads in
      let c : ReadToEndC size first state answer beginning p.lent = record { starts = a.starts; rows = p.before; final = p.middle; reads = p.reads } in
      let e = each_before beginning rest b in
      let l = c_lawful beginning p.lent e c in
      let o = c_reads beginning p.lent c in
      let holds : o.last ≡ reader_of p.middle = sym (held_slice o.last o.sound) ∙ ap reader_of o.bytes in
      record {
        parts = p;
        lays = l;
        only = λ i d m. c_only_one beginning p.lent e c i d m;
        ends = subst (λ (r : Reader). EndsWith size first (without_repeats beginning) p.before (begun_read (without_repeats beginning) p.before) r) holds
            (state_at_end size first o.reader o.starts _ _ beginning (numbers_lent p.lent) p.before o.last l o.reads);
      }

  -- Groups of different numbers that change places, among whatever repeats: C does not read both runs to their ends.
  pub c_exchanged_among : (a b c : List Image) (g h : Image) (loans others : List Loan) → (g.number ≡ h.number → ⊥) →
      ReadToEndC size first state answer (a ++ (g ∷ (b ++ (h ∷ c)))) loans → ReadToEndC size first state answer (a ++ (h ∷ (b ++ (g ∷ c)))) others → ⊥
  c_exchanged_among a b c g h loans others other x y =
      let o = c_reads (a ++ (g ∷ (b ++ (h ∷ c)))) loans x in
      let q = c_reads (a ++ (h ∷ (b ++ (g ∷ c)))) others y in
      let lent = numbers_lent others in
      let again : ToEnd o.reader (a ++ (h ∷ (b ++ (g ∷ c)))) lent y.rows q.last =
      subst (λ (s : Reader). ToEnd s (a ++ (h ∷ (b ++ (g ∷ c)))) lent y.rows q.last) (same_start size first q.reader o.reader q.starts o.starts) q.reads in
      exchanged_among size first o.reader o.starts a b c g h (numbers_lent loans) x.rows lent y.rows o.last q.last other o.reads again

  -- "Taking a matching total as proof of order: only the number tells equal middles apart." Any two groups g and h of a run that C
  -- reads to its end are exchanged, numbers with them: the read returns 5 at the first place where the order differs, whatever the
  -- groups hold.
  pub c_exchanged : (a b c : List Image) (g h : Image) (loans : List Loan) → AcceptedC size first state answer (a ++ (g ∷ (b ++ (h ∷ c)))) loans →
      OutOfOrderC size first state answer a h (b ++ (g ∷ c))
  c_exchanged a b c g h loans x =
      let o = accepts_own size first state answer (a ++ (g ∷ (b ++ (h ∷ c)))) loans x in
      let w = exchanged size first o.reader o.starts a b c g h x.rows o.last o.accepts in
      let p = split a (g ∷ (b ++ (h ∷ c))) x.accepts in
      record {
        accepted = (p.lent, record { starts = x.starts; rows = p.before; final = p.middle; accepts = p.reads });
        refused = λ lent y rows told long.
            let q = accepts_own size first state answer a lent y in
            let r : Accepts o.reader a y.rows q.last = subst (λ (s : Reader). Accepts s a y.rows q.last) (same_start size first q.reader o.reader q.starts o.starts) q.accepts in
            refused_through q.last y.final h rows told q.sound q.bytes long
            (ap (read_call q.last h.bytes h.number h.entries) (sym (length-replicate (length rows / 4) 0))
            ∙ w.refused y.rows q.last r (replicate (length rows / 4) 0));
        never = λ lent y.
            let q = accepts_own size first state answer (a ++ (h ∷ (b ++ (g ∷ c)))) lent y in
            w.never y.rows q.last (subst (λ (s : Reader). Accepts s (a ++ (h ∷ (b ++ (g ∷ c)))) y.rows q.last) (same_start size first q.reader o.reader q.starts o.starts) q.accepts);
      }
