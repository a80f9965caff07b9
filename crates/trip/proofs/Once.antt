-- Demand 3 of runs that C reads and in which every group is accepted. A run with repeats is one of these once they are taken out.
-- Assumes nothing.
use Prim.Native.Nat.{ℕ}
use mathlib.Core.List.{List, ◌++◌}
use mathlib.Core.Path.{◌≡◌, sym, ap, ◌∙◌, subst}
use mathlib.Core.Logic.{◌↔◌}
use lib.ListN.{length}
use Rattle.group.specs.State.{start_refusal}
use Rattle.reader.specs.declared.Reader.{Reader}
use Rattle.reader.specs.ReaderStart as start
use Rattle.reader.specs.Answer.{fresh, reader_start_call}
use Rattle.layout.specs.Items.{Item, Each}
use Rattle.layout.specs.Layout.{Image, Lays}
use Rattle.layout.specs.Reading.{OfBytes, items_read, begun_read}
use Rattle.layout.specs.Stated.{EndsWith}
use Rattle.layout.proofs.Order.{each_before}
use Rattle.layout.proofs.Once.{complete, lawful, state_at_end}
use Rattle.layout.proofs.Theorems.{only_one}
use Rattle.slices.specs.Call.{Left, answer_length}
use Rattle.states.specs.States.{reader_length, reader_of}
use Rattle.c_reader.specs.Calls.{reader_left}
use Rattle.trip.specs.ThroughC.{Loan, LentC, numbers_lent, AcceptsC}
use Rattle.trip.specs.Stated.{AcceptedC, AcceptsOwn, AtEndC}
use Rattle.trip.proofs.Reading.{slice, enough_lent, held_slice, starts_through, sound_fresh, accepted_through}
use Rattle.trip.proofs.Accepting.{accepts_own, split}

-- A start that a lawful layout needs is never refused.
pub lays_start : (size first : ℕ) (i : List Item) (b : List ℕ) (run : List Image) → Lays size first i b run → reader_start_call size first ≡ start.Started (fresh size first)
unfolding reader_start_call start_refusal
lays_start size first i b run l = rw (l.sized, l.numbered)

-- Demand 3 of any run, whoever wrote it, by what the calls return: `state` and `answer` are the slices that the start is lent.
module _ (size first : ℕ) (state answer : List ℕ) where
  -- What is read from C is what the reader's own calls read.
  pub c_accepts : (run : List Image) (loans : List Loan) (a : AcceptedC size first state answer run loans) → AcceptsOwn size first run loans a.rows a.final
  c_accepts = accepts_own size first state answer

  -- What is accepted is a lawful layout of what the numbers in the row slices and the bytes give. (That each image is made of bytes
  -- is what a byte slice is.)
  pub c_lawful : (run : List Image) (loans : List Loan) → Each OfBytes run → (a : AcceptedC size first state answer run loans) →
      Lays size first (items_read run a.rows) (begun_read run a.rows) run
  c_lawful run loans b a =
      let o = c_accepts run loans a in
      lawful size first o.reader o.starts run a.rows o.last b o.accepts

  -- A lawful layout is accepted, with any slices that are long enough.
  pub c_complete : (i : List Item) (b : List ℕ) (run : List Image) (loans : List Loan) → Lays size first i b run →
      length state ≡ reader_length → length answer ≡ answer_length → LentC run loans → AcceptedC size first state answer run loans
  c_complete i b run loans l e f lent =
      let s = lays_start size first i b run l in
      let c = complete size first (fresh size first) s i b run (numbers_lent loans) l (enough_lent lent) in
      let o = starts_through size first (fresh size first) state answer s e f in
      let reads = accepted_through c.accepts (sound_fresh size first (fresh size first) s) lent c.buffers in
      record {
        starts = ap (λ (y : Left). y.refusal) o;
        rows = c.rows;
        final = slice c.final;
        accepts = subst (λ (y : Left). AcceptsC (reader_left y) run loans c.rows (slice c.final)) (sym o) reads;
      }

  -- So a run is accepted to its end exactly when some list of records and separators lays out to it. (Of byte slices, as above.)
  pub c_exactly : (run : List Image) (loans : List Loan) → Each OfBytes run → length state ≡ reader_length → length answer ≡ answer_length → LentC run loans →
      AcceptedC size first state answer run loans ↔ ((i : List Item) × ((b : List ℕ) × Lays size first i b run))
  c_exactly run loans b e f l = (
    λ a. (items_read run a.rows, (begun_read run a.rows, c_lawful run loans b a)),
    λ x. c_complete x.0 x.1.0 run loans x.1.1 e f l,
  )

  -- .. and what the numbers in the row slices give is the only such list.
  pub c_only_one : (run : List Image) (loans : List Loan) → Each OfBytes run → (a : AcceptedC size first state answer run loans) →
      (i : List Item) (b : List ℕ) → Lays size first i b run → (i ≡ items_read run a.rows) × (b ≡ begun_read run a.rows)
  c_only_one run loans e a i b l = only_one size first i (items_read run a.rows) b (begun_read run a.rows) run l (c_lawful run loans e a)

  -- "A record is finished at its entire entry or at its total, and broken off if the run ends before." So at each group's end.
  pub c_at_each_end : (beginning rest : List Image) (loans : List Loan) → Each OfBytes (beginning ++ rest) → (a : AcceptedC size first state answer (beginning ++ rest) loans) →
      AtEndC size first state answer beginning rest loans a.rows a.final
  c_at_each_end beginning rest loans b a =
      let p = split beginning rest a.accepts in
      let c : AcceptedC size first state answer beginning p.lent = record { starts = a.starts; rows = p.before; final = p.middle; accepts = p.reads } in
      let e = each_before beginning rest b in
      let l = c_lawful beginning p.lent e c in
      let o = c_accepts beginning p.lent c in
      let holds : o.last ≡ reader_of p.middle = sym (held_slice o.last o.sound) ∙ ap reader_of o.bytes in
      record {
        parts = p;
        lays = l;
        only = λ i d m. c_only_one beginning p.lent e c i d m;
        ends = subst (λ (r : Reader). EndsWith size first beginning p.before (begun_read beginning p.before) r) holds (state_at_end size first o.reader o.starts _ _ beginning p.before o.last l o.accepts);
      }
