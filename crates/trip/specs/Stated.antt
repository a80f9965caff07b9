-- What the theorems of this crate state: a writing from C as the writer's own, a run that is read back from C, a reading from C as
-- the reader's own, a run at a group's end, each also of a run with repeats, a run out of order, and the rows of one read.
-- Assumes nothing.
use Rattle.std.specs.Prelude.{ℕ, ◌*◌, List, [], ◌∷◌, ◌++◌, true, ◌≡◌, length, drop}
use Rattle.numbers.specs.Numbers.{numbers_in, in_bytes, field}
use Rattle.group.specs.declared.Phase.TheVariants.{Free}
use Rattle.reader.specs.declared.Reader.{Reader}
use Rattle.reader.specs.ReaderStart.{Started}
use Rattle.reader.specs.Answer.{sound as reader_sound, reader_start_call}
use Rattle.sound.specs.State.{writer_sound}
use Rattle.laying.specs.Laying.{desk}
use Rattle.layout.specs.Items.{Item}
use Rattle.layout.specs.Layout.{Image, Lays}
use Rattle.layout.specs.Repeats.{without_repeats}
use Rattle.layout.specs.Accepting.{Accepts, ToEnd, lent_to}
use Rattle.layout.specs.Reading.{items_read, begun_read}
use Rattle.layout.specs.Stated.{EndsWith}
use Rattle.layout.specs.Writing.{Account, Wrote}
use Rattle.twice.specs.RowsAre.{RowsAre}
use Rattle.slices.specs.Call.{left, answer_length}
use Rattle.states.specs.States.{reader_length, reader_of, reader_bytes, writer_of, writer_numbers}
use Rattle.c_reader.specs.Calls.{dds_reader_start, dds_read, reader_left}
use Rattle.trip.specs.ThroughC.{phase_seen, Loan, LentC, numbers_lent, AcceptsC, ToEndC}

-- The state slice is the bytes of a sound state, and with that state the writer's own calls wrote the same.
pub record Written (size first : ℕ) (state group : List ℕ) (run : List Image) (closed now : Account) : Type 0 where
  pub wrote : Wrote size first (desk (writer_of state) group) run closed now
  pub sound : writer_sound (writer_of state) ≡ true
  pub bytes : in_bytes (writer_numbers (writer_of state)) ≡ state

-- The reader's start returns 0 on these slices; from the state slice that it leaves, every read of the run returns 0, lent just
-- these slices; and the numbers of the rows that the reads leave give back an account: the items finished, and the bytes so far
-- of the record that is not, with which the last state slice ends.
pub record GivesBackC (size first : ℕ) (state answer : List ℕ) (run : List Image) (loans : List Loan) (a : Account) : Type 0 where
  pub starts : (dds_reader_start size first state answer).refusal ≡ 0
  pub rows : List (List ℕ)
  pub final : List ℕ
  pub accepts : AcceptsC (reader_left (dds_reader_start size first state answer)) run loans rows final
  pub items : items_read run rows ≡ a.finished
  pub begun : begun_read run rows ≡ a.begun
  pub ends : EndsWith size first run rows a.begun (reader_of final)

-- After an end from C: the state slice holds no entry and no open record, the account at the last close is the account now, and the
-- groups closed, read from C with any slices that are long enough, give all of it back.
pub record AllClosedC (size first : ℕ) (state : List ℕ) (run : List Image) (closed now : Account) : Type 0 where
  pub none : field state 5 ≡ 0
  pub free : phase_seen state ≡ Free
  pub all : closed ≡ now
  pub whole : now.begun ≡ []
  pub gives_back : (old answer : List ℕ) (loans : List Loan) → length old ≡ reader_length → length answer ≡ answer_length → LentC run loans →
      GivesBackC size first old answer run loans now

-- A run that C reads to its end, whoever wrote it: the start returned 0, and from the state slice that it left every read did, lent
-- just these slices.
pub record AcceptedC (size first : ℕ) (state answer : List ℕ) (run : List Image) (loans : List Loan) : Type 0 where
  pub starts : (dds_reader_start size first state answer).refusal ≡ 0
  pub rows : List (List ℕ)
  pub final : List ℕ
  pub accepts : AcceptsC (reader_left (dds_reader_start size first state answer)) run loans rows final

-- The reader's own start and its own reads accept the same run, lent row buffers of just the numbers that stand in the row slices, and
-- leave the same rows; and the last state slice is the bytes of the state that they leave, which is sound.
pub record AcceptsOwn (size first : ℕ) (run : List Image) (loans : List Loan) (rows : List (List ℕ)) (final : List ℕ) : Type 0 where
  pub reader : Reader
  pub starts : reader_start_call size first ≡ Started reader
  pub last : Reader
  pub accepts : Accepts reader run rows last
  pub buffers : lent_to accepts ≡ numbers_lent loans
  pub sound : reader_sound last ≡ true
  pub bytes : reader_bytes last ≡ final

-- A reading from C, as `AcceptsC` and `ToEndC` are: from a state slice over a run, with loans and rows, to a state slice.
abbrev pub Reading : Type 1
Reading = List ℕ → List Image → List Loan → List (List ℕ) → List ℕ → Type 0

-- .. at the end of one of its groups: the loans and the rows up to there and behind it, and the state slice.
pub record SplitC (Reads : Reading) (state : List ℕ) (beginning rest : List Image) (loans : List Loan) (rows : List (List ℕ)) (final : List ℕ) : Type 0 where
  pub lent : List Loan
  pub later : List Loan
  pub before : List (List ℕ)
  pub behind : List (List ℕ)
  pub middle : List ℕ
  pub loans_are : lent ++ later ≡ loans
  pub rows_are : before ++ behind ≡ rows
  pub reads : Reads state beginning lent before middle
  pub goes_on : Reads middle rest later behind final

-- An accepted run there: what the rows of the beginning give is a lawful layout of it, and the only one.
pub record AtEndC (size first : ℕ) (state answer : List ℕ) (beginning rest : List Image) (loans : List Loan) (rows : List (List ℕ)) (final : List ℕ) : Type 0 where
  pub parts : SplitC AcceptsC (reader_left (dds_reader_start size first state answer)) beginning rest loans rows final
  pub lays : Lays size first (items_read beginning parts.before) (begun_read beginning parts.before) beginning
  pub only : (i : List Item) (b : List ℕ) → Lays size first i b beginning → (i ≡ items_read beginning parts.before) × (b ≡ begun_read beginning parts.before)
  pub ends : EndsWith size first beginning parts.before (begun_read beginning parts.before) (reader_of parts.middle)

-- A run that C reads to its end, repeats among its groups: the start returned 0, and from the state slice that it left every read did,
-- lent just these slices.
pub record ReadToEndC (size first : ℕ) (state answer : List ℕ) (run : List Image) (loans : List Loan) : Type 0 where
  pub starts : (dds_reader_start size first state answer).refusal ≡ 0
  pub rows : List (List ℕ)
  pub final : List ℕ
  pub reads : ToEndC (reader_left (dds_reader_start size first state answer)) run loans rows final

-- The reader's own start and its own reads accept the same run to its end, as above, and answer the same repeats.
pub record ReadsOwn (size first : ℕ) (run : List Image) (loans : List Loan) (rows : List (List ℕ)) (final : List ℕ) : Type 0 where
  pub reader : Reader
  pub starts : reader_start_call size first ≡ Started reader
  pub last : Reader
  pub reads : ToEnd reader run (numbers_lent loans) rows last
  pub sound : reader_sound last ≡ true
  pub bytes : reader_bytes last ≡ final

-- A run that is read to its end, at the end of one of its groups or of a repeat: what the rows of the beginning give is a lawful layout
-- of it, its repeats taken out, and the only one.
pub record AtEndAmongC (size first : ℕ) (state answer : List ℕ) (beginning rest : List Image) (loans : List Loan) (rows : List (List ℕ)) (final : List ℕ) : Type 0 where
  pub parts : SplitC ToEndC (reader_left (dds_reader_start size first state answer)) beginning rest loans rows final
  pub lays : Lays size first (items_read (without_repeats beginning) parts.before) (begun_read (without_repeats beginning) parts.before) (without_repeats beginning)
  pub only : (i : List Item) (b : List ℕ) → Lays size first i b (without_repeats beginning) →
      (i ≡ items_read (without_repeats beginning) parts.before) × (b ≡ begun_read (without_repeats beginning) parts.before)
  pub ends : EndsWith size first (without_repeats beginning) parts.before (begun_read (without_repeats beginning) parts.before) (reader_of parts.middle)

-- A run that is handed in with repeats gives back an account: the start returns 0 and so does every read, lent just these slices; the
-- numbers of the rows that the accepted reads leave give back the items finished and the bytes so far of the record that is not, with
-- which the last state slice ends.
pub record GivesBackAmongC (size first : ℕ) (state answer : List ℕ) (handed : List Image) (loans : List Loan) (a : Account) : Type 0 where
  pub read : ReadToEndC size first state answer handed loans
  pub items : items_read (without_repeats handed) read.rows ≡ a.finished
  pub begun : begun_read (without_repeats handed) read.rows ≡ a.begun
  pub ends : EndsWith size first (without_repeats handed) read.rows a.begun (reader_of read.final)

-- A run that is refused with 5 at its group h: the groups before it are accepted; after them, whatever rows are lent, the read of h
-- returns 5 and tells 5 with place 0, and leaves the state and the rows; and the run as a whole is never accepted.
pub record OutOfOrderC (size first : ℕ) (state answer : List ℕ) (beginning : List Image) (h : Image) (rest : List Image) : Type 0 where
  pub accepted : (loans : List Loan) × AcceptedC size first state answer beginning loans
  pub refused : (loans : List Loan) (a : AcceptedC size first state answer beginning loans) (rows told : List ℕ) → length told ≡ answer_length →
      dds_read a.final h.bytes h.number h.entries rows told ≡ left 5 (a.final ∷ rows ∷ []) (in_bytes (5 ∷ 0 ∷ 0 ∷ 0 ∷ 0 ∷ 0 ∷ []))
  pub never : (loans : List Loan) → AcceptedC size first state answer (beginning ++ (h ∷ rest)) loans → ⊥

-- What a read leaves in its row slice: n rows as the group's bytes have them, each number in four bytes; every byte behind them stays.
pub record RowsLeft (size n : ℕ) (group old rows : List ℕ) : Type 0 where
  pub are : RowsAre size n group (numbers_in old) (numbers_in rows)
  pub behind : drop (12 * n) rows ≡ drop (12 * n) old
