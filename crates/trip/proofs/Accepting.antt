-- A reading from C is the reader's own, whoever wrote the run: each read that returned 0 and told outcome 0 was accepted, and left the
-- rows and the state that the reader's own read leaves; each that told outcome 2 is the reader's own repeat.
-- Assumes nothing.
use mathlib.Core.Path.{◌≡◌, refl, sym, ap, ◌∙◌, subst}
use mathlib.Core.Bool.{true}
use mathlib.Core.List.{List, [], ◌∷◌, ◌++◌, append_assoc}
use Prim.Native.Nat.{ℕ, ◌/◌}
use native.Mathlib.Omega.{arith}
use lib.ListN.{length}
use Rattle.numbers.proofs.InBytes.{length_numbers, numbers_put}
use Rattle.numbers.specs.Numbers.{numbers_in, in_bytes}
use Rattle.numbers.specs.Store.{put}
use Rattle.reader.specs.declared.Reader.{Reader}
use Rattle.reader.specs.ReadAnswer.{ReadAnswer}
use Rattle.reader.specs.ReadAnswer as read
use Rattle.reader.specs.Answer.{fresh, reader_start_call, sound, is_repeat, read_call, group_rows, rows_left}
use Rattle.reader.specs.ReaderStart as start
use Rattle.reader.proofs.Accepted as own_read
use Rattle.reader.proofs.Sound.{sound_again}
use Rattle.layout.specs.Layout.{Image}
use Rattle.layout.specs.Accepting.{Accepts, ToEnd, lent_to}
use Rattle.slices.specs.Call.{Left, outcome_seen}
use Rattle.c_reader.specs.Calls.{dds_reader_start, dds_read, reader_left, rows_read}
use Rattle.c_reader.proofs.Theorems.{start_returns_zero, read_accepts, read_repeats, read_repeated, read_left}
use Rattle.trip.specs.ThroughC.{Loan, numbers_lent, AcceptsC, ToEndC}
use Rattle.trip.specs.Stated.{AcceptedC, AcceptsOwn, Reading, SplitC, ReadToEndC, ReadsOwn}
use Rattle.trip.proofs.SmallRows.{small_rows}
use Rattle.reader.proofs.GroupRows.{length_group_rows}
use Rattle.trip.proofs.Reading.{slice, held_slice, starts_through, sound_fresh}
use Rattle.trip.proofs.Settled.{start_lent, read_lent}

-- A read of the bytes of a sound state that returned 0 and told outcome 0: the reader's own read accepts the group, and leaves the same
-- rows and the same state.
pub record Step (s : Reader) (g : Image) (loan : Loan) (o : Left) : Type 0 where
  pub next : Reader
  pub accepts : read_call s g.bytes g.number g.entries (length (numbers_in loan.rows)) ≡ read.Accepted next
  pub row : numbers_in (rows_read o)
      ≡ rows_left (read_call s g.bytes g.number g.entries (length (numbers_in loan.rows))) (group_rows s g.bytes g.entries) (numbers_in loan.rows)
  pub sound_next : sound next ≡ true
  pub left_state : reader_left o ≡ slice next

pub stepped : (s : Reader) (g : Image) (loan : Loan) {o : Left} → sound s ≡ true → dds_read (slice s) g.bytes g.number g.entries loan.rows loan.answer ≡ o →
    o.refusal ≡ 0 → outcome_seen o ≡ 0 → Step s g loan o
stepped s g loan h e n z =
    let refusal = ap (λ (o : Left). o.refusal) e ∙ n in
    let outcome = ap outcome_seen e ∙ z in
    let k = (read_accepts (slice s) g.bytes g.number g.entries loan.rows loan.answer).0 (refusal, outcome) in
    let left = read_left (slice s) g.bytes g.number g.entries loan.rows loan.answer k in
    let long = (read_lent (slice s) g.bytes g.number g.entries loan.rows loan.answer refusal outcome).0 in
    let hold = held_slice s h in
    let t = k.left in
    let old : List ℕ = numbers_in loan.rows in
    let new : List ℕ = group_rows s g.bytes g.entries in
    let f : read_call s g.bytes g.number g.entries (length old) ≡ read.Accepted t =
    ap (read_call s g.bytes g.number g.entries) (length_numbers loan.rows)
    ∙ ap (λ (x : Reader). read_call x g.bytes g.number g.entries (length loan.rows / 4)) (sym hold) ∙ k.accepts in
    let lent : rows_read (dds_read (slice s) g.bytes g.number g.entries loan.rows loan.answer) ≡ put loan.rows 0 (in_bytes new) =
    left.1 ∙ ap (λ (x : Reader). put loan.rows 0 (in_bytes (group_rows x g.bytes g.entries))) hold in
    record {
      next = t;
      accepts = f;
      row = ap (λ (o : Left). numbers_in (rows_read o)) (sym e)
          ∙ ap numbers_in lent
          ∙ numbers_put loan.rows new (small_rows s t g.bytes g.number g.entries (length old) f) (omega (arith, length_group_rows s g.bytes g.entries))
          ∙ sym (ap (λ (x : ReadAnswer). rows_left x new old) f);
      sound_next = sound_again s t g.bytes g.number g.entries (length old) f;
      left_state = ap reader_left (sym e) ∙ left.0;
    }

-- From the bytes of a sound state, the reader's own reads.
record Own (s : Reader) (run : List Image) (loans : List Loan) (rows : List (List ℕ)) (final : List ℕ) : Type 0 where
  last : Reader
  accepts : Accepts s run rows last
  buffers : lent_to accepts ≡ numbers_lent loans
  sound_last : sound last ≡ true
  bytes : slice last ≡ final

own_more : {s : Reader} {g : Image} {gs : List Image} {loan : Loan} {loans : List Loan} {rows : List (List ℕ)} {final : List ℕ} {o : Left} (k : Step s g loan o) → Own k.next gs loans rows final →
    Own s (g ∷ gs) (loan ∷ loans) (numbers_in (rows_read o) ∷ rows) final
unfolding lent_to
own_more {s} {g = g} {gs = gs} {loan = loan} {loans = loans} {rows = rows} {final = final} k r =
    subst (λ (x : List ℕ). Own s (g ∷ gs) (loan ∷ loans) (x ∷ rows) final) (sym k.row)
    (record {
      last = r.last;
      accepts = Accepts.accepts_more (numbers_in loan.rows) k.accepts r.accepts;
      buffers = ap {B = List (List ℕ)} (λ l. numbers_in loan.rows ∷ l) r.buffers;
      sound_last = r.sound_last;
      bytes = r.bytes;
    })

own : {state final : List ℕ} {run : List Image} {loans : List Loan} {rows : List (List ℕ)} → AcceptsC state run loans rows final → (s : Reader) → sound s ≡ true → state ≡ slice s →
    Own s run loans rows final
unfolding lent_to
own AcceptsC.accepts_none s h e = record { last = s; accepts = Accepts.accepts_none; buffers = refl; sound_last = h; bytes = sym e }
own (AcceptsC.accepts_more {g = g} {loan = loan} d n z a) s h e =
    let k = stepped s g loan h (ap (λ (x : List ℕ). dds_read x g.bytes g.number g.entries loan.rows loan.answer) (sym e) ∙ d) n z in
    own_more k (own a k.next k.sound_next k.left_state)

-- .. where repeats are among them: a read that told outcome 2 is the reader's own repeat, and leaves the state.
record OwnToEnd (s : Reader) (run : List Image) (loans : List Loan) (rows : List (List ℕ)) (final : List ℕ) : Type 0 where
  last : Reader
  reads : ToEnd s run (numbers_lent loans) rows last
  sound_last : sound last ≡ true
  bytes : slice last ≡ final

end_more : {s : Reader} {g : Image} {gs : List Image} {loan : Loan} {loans : List Loan} {rows : List (List ℕ)} {final : List ℕ} {o : Left} (k : Step s g loan o) → OwnToEnd k.next gs loans rows final →
    OwnToEnd s (g ∷ gs) (loan ∷ loans) (numbers_in (rows_read o) ∷ rows) final
end_more {s} {g = g} {gs = gs} {loan = loan} {loans = loans} {rows = rows} {final = final} k r =
    subst (λ (x : List ℕ). OwnToEnd s (g ∷ gs) (loan ∷ loans) (x ∷ rows) final) (sym k.row)
    (record { last = r.last; reads = ToEnd.end_more (numbers_in loan.rows) k.accepts r.reads; sound_last = r.sound_last; bytes = r.bytes })

pub record Again (s : Reader) (g : Image) (loan : Loan) (o : Left) : Type 0 where
  pub repeats : read_call s g.bytes g.number g.entries (length (numbers_in loan.rows)) ≡ read.Repeated s
  pub left_state : reader_left o ≡ slice s

pub again : (s : Reader) (g : Image) (loan : Loan) {o : Left} → sound s ≡ true → dds_read (slice s) g.bytes g.number g.entries loan.rows loan.answer ≡ o →
    o.refusal ≡ 0 → outcome_seen o ≡ 2 → Again s g loan o
again s g loan h e n z =
    let r = (read_repeats (slice s) g.bytes g.number g.entries loan.rows loan.answer).0 (ap (λ (o : Left). o.refusal) e ∙ n, ap outcome_seen e ∙ z) in
    let is : is_repeat s (length g.bytes) g.number ≡ true = subst (λ (x : Reader). is_repeat x (length g.bytes) g.number ≡ true) (held_slice s h) r.repeat in
    record {
      repeats = sym (own_read.read_repeated s g.bytes g.number g.entries (length (numbers_in loan.rows)) is);
      left_state = ap reader_left (sym e ∙ read_repeated (slice s) g.bytes g.number g.entries loan.rows loan.answer r);
    }

to_end : {state final : List ℕ} {run : List Image} {loans : List Loan} {rows : List (List ℕ)} → ToEndC state run loans rows final → (s : Reader) → sound s ≡ true → state ≡ slice s →
    OwnToEnd s run loans rows final
to_end ToEndC.end_none s h e = record { last = s; reads = ToEnd.end_none; sound_last = h; bytes = sym e }
to_end (ToEndC.end_more {g = g} {loan = loan} d n z a) s h e =
    let k = stepped s g loan h (ap (λ (x : List ℕ). dds_read x g.bytes g.number g.entries loan.rows loan.answer) (sym e) ∙ d) n z in
    end_more k (to_end a k.next k.sound_next k.left_state)
to_end (ToEndC.end_repeat {g = g} {loan = loan} d n z a) s h e =
    let k = again s g loan h (ap (λ (x : List ℕ). dds_read x g.bytes g.number g.entries loan.rows loan.answer) (sym e) ∙ d) n z in
    let r = to_end a s h k.left_state in
    record { last = r.last; reads = ToEnd.end_repeat (numbers_in loan.rows) k.repeats r.reads; sound_last = r.sound_last; bytes = r.bytes }

-- From a start that returned 0.
begun : (size first : ℕ) (state answer : List ℕ) → (dds_reader_start size first state answer).refusal ≡ 0 →
    (reader_start_call size first ≡ start.Started (fresh size first)) × ((sound (fresh size first) ≡ true) × (reader_left (dds_reader_start size first state answer) ≡ slice (fresh size first)))
begun size first state answer e =
    let s = ((start_returns_zero size first state answer).0 e).starts in
    let long = start_lent size first state answer e in
    (s, (sound_fresh size first (fresh size first) s, ap reader_left (starts_through size first (fresh size first) state answer s long.0 long.1)))

pub accepts_own : (size first : ℕ) (state answer : List ℕ) (run : List Image) (loans : List Loan) (a : AcceptedC size first state answer run loans) →
    AcceptsOwn size first run loans a.rows a.final
accepts_own size first state answer run loans a =
    let (s, (h, is)) = begun size first state answer a.starts in
    let r = own a.accepts (fresh size first) h is in
    record { reader = fresh size first; starts = s; last = r.last; accepts = r.accepts; buffers = r.buffers; sound = r.sound_last; bytes = r.bytes }

pub reads_own : (size first : ℕ) (state answer : List ℕ) (run : List Image) (loans : List Loan) (a : ReadToEndC size first state answer run loans) →
    ReadsOwn size first run loans a.rows a.final
reads_own size first state answer run loans a =
    let (s, (h, is)) = begun size first state answer a.starts in
    let r = to_end a.reads (fresh size first) h is in
    record { reader = fresh size first; starts = s; last = r.last; reads = r.reads; sound = r.sound_last; bytes = r.bytes }

-- The end of one of a reading's groups: a group more before it, with the rows that its read lists.
one_before : (Reads : Reading) {state next final : List ℕ} {g : Image} {a b : List Image} {loan : Loan} {loans : List Loan} {rows : List (List ℕ)} (listed : List (List ℕ)) →
    ((lent : List Loan) (before : List (List ℕ)) (middle : List ℕ) → Reads next a lent before middle → Reads state (g ∷ a) (loan ∷ lent) (listed ++ before) middle) →
    SplitC Reads next a b loans rows final → SplitC Reads state (g ∷ a) b (loan ∷ loans) (listed ++ rows) final
one_before Reads {loan = loan} listed reads r =
    record {
      lent = loan ∷ r.lent;
      later = r.later;
      before = listed ++ r.before;
      behind = r.behind;
      middle = r.middle;
      loans_are = ap {B = List Loan} (λ l. loan ∷ l) r.loans_are;
      rows_are = append_assoc listed r.before r.behind ∙ ap (λ (l : List (List ℕ)). listed ++ l) r.rows_are;
      reads = reads r.lent r.before r.middle r.reads;
      goes_on = r.goes_on;
    }

pub split : {final : List ℕ} (a b : List Image) {state : List ℕ} {loans : List Loan} {rows : List (List ℕ)} → AcceptsC state (a ++ b) loans rows final → SplitC AcceptsC state a b loans rows final
split [] b {state} {loans} {rows} x =
    record { lent = []; later = loans; before = []; behind = rows; middle = state; loans_are = refl; rows_are = refl; reads = AcceptsC.accepts_none; goes_on = x }
split (g ∷ a) b (AcceptsC.accepts_more {o = o} e n z x) = one_before AcceptsC (numbers_in (rows_read o) ∷ []) (λ lent before middle y. AcceptsC.accepts_more e n z y) (split a b x)

pub split_end : {final : List ℕ} (a b : List Image) {state : List ℕ} {loans : List Loan} {rows : List (List ℕ)} → ToEndC state (a ++ b) loans rows final → SplitC ToEndC state a b loans rows final
split_end [] b {state} {loans} {rows} x =
    record { lent = []; later = loans; before = []; behind = rows; middle = state; loans_are = refl; rows_are = refl; reads = ToEndC.end_none; goes_on = x }
split_end (g ∷ a) b (ToEndC.end_more {o = o} e n z x) = one_before ToEndC (numbers_in (rows_read o) ∷ []) (λ lent before middle y. ToEndC.end_more e n z y) (split_end a b x)
split_end (g ∷ a) b (ToEndC.end_repeat e n z x) = one_before ToEndC [] (λ lent before middle y. ToEndC.end_repeat e n z y) (split_end a b x)
