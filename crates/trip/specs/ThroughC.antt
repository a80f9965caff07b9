-- Writing and reading a run from C, by nothing but what C sees: the numbers that the calls of `dds` return, and what they leave
-- in the slices.
-- Assumes nothing.
use Rattle.std.specs.Prelude.{ℕ, ◌*◌, ◌≤◌, List, [], ◌∷◌, ◌++◌, ◌≡◌, ◌⊎◌, length}
use Rattle.group.specs.declared.Phase.{Phase}
use Rattle.group.specs.Sizes.{information_length}
use Rattle.numbers.specs.Numbers.{number_at, numbers_in, field}
use Rattle.writer.specs.WriteAnswer.{WriteAnswer}
use Rattle.writer.specs.WriteAnswer.{Finished, Closed}
use Rattle.writer.specs.Calls.{Call}
use Rattle.writer.specs.Calls.Call.{a_record, a_separator, an_end}
use Rattle.layout.specs.Layout.{Image}
use Rattle.layout.specs.Writing.{Account, blank, noted, AsAsked, IsEnd, with_information, image_of}
use Rattle.slices.specs.Call.{Left, outcome_seen, answer_length}
use Rattle.states.specs.States.{phase_of, b4_number, writer_of}
use Rattle.c_reader.specs.Calls.{dds_read, reader_left, rows_read}
use Rattle.c_writer.specs.Calls.{dds_writer_start, dds_record, dds_separator, dds_end, writer_left, group_left}

-- A call through its slices: the state, the group and the answer. Whether it sets b4 is the number 0 or 1.
unfoldable pub call_c : Call → (state group answer : List ℕ) → Left
call_c (a_record bytes warn) state group answer = dds_record state group bytes (b4_number warn) answer
call_c (a_separator value warn) state group answer = dds_separator state group value (b4_number warn) answer
call_c (an_end warn) state group answer = dds_end state group (b4_number warn) answer

-- A call as C may make it: `warn` is any number.
pub data CallC : Type 0 where
  record_c : (bytes : List ℕ) (warn : ℕ) → CallC
  separator_c : (value warn : ℕ) → CallC
  end_c : (warn : ℕ) → CallC

unfoldable pub asked_c : CallC → (state group answer : List ℕ) → Left
asked_c (record_c bytes warn) state group answer = dds_record state group bytes warn answer
asked_c (separator_c value warn) state group answer = dds_separator state group value warn answer
asked_c (end_c warn) state group answer = dds_end state group warn answer

-- The phase that the caller sees: the third number of the state slice.
abbrev pub phase_seen : List ℕ → Phase
phase_seen state = phase_of (field state 2)

-- The closed group's number in the answer slice.
abbrev pub number_seen : Left → ℕ
number_seen o = number_at 4 o.answer 12

-- The closed group's entry count in the answer slice.
abbrev pub entries_seen : Left → ℕ
entries_seen o = number_at 4 o.answer 16

-- The bytes taken, in the answer slice.
abbrev pub taken_seen : Left → ℕ
taken_seen o = number_at 4 o.answer 20

-- A call that finished its work, as C sees it.
abbrev pub finished_seen : Left → WriteAnswer
finished_seen o = Finished (writer_of (writer_left o))

-- A call that closed the group, as C sees it.
abbrev pub closed_seen : Left → WriteAnswer
closed_seen o = Closed (writer_of (writer_left o)) (number_seen o) (entries_seen o) (taken_seen o)

-- A writing from C: the state slice and the group as they are now, the run closed so far, the account at the last close, and the
-- account now. The outcome is 0 where a call finished its work, 1 where it closed the group. The state slice at the start and
-- every answer slice may be any: one of another length than its own is refused. A call that returned a number other than 0 leaves
-- the account as it was, whatever its `warn` and whatever group it was lent. Between calls the firmware may change the group's
-- last 32 bytes. After a close the next call may come with any buffer of the right length.
pub data WroteC (size first : ℕ) : List ℕ → List ℕ → List Image → Account → Account → Type 0 where
  begins : {o : Left} (state answer group : List ℕ) → dds_writer_start size first state answer ≡ o → o.refusal ≡ 0 → length group ≡ size →
      WroteC size first (writer_left o) group [] blank blank
  goes_on : {state group : List ℕ} {run : List Image} {closed now : Account} {o : Left} (c : Call) (answer : List ℕ) →
      WroteC size first state group run closed now → AsAsked c (phase_seen state) now →
      call_c c state group answer ≡ o → o.refusal ≡ 0 → outcome_seen o ≡ 0 →
      WroteC size first (writer_left o) (group_left o) run closed (noted c (phase_seen state) (finished_seen o) now)
  closes : {state group : List ℕ} {run : List Image} {closed now : Account} {o : Left} (c : Call) (answer information buffer : List ℕ) →
      WroteC size first state group run closed now → AsAsked c (phase_seen state) now →
      call_c c state group answer ≡ o → o.refusal ≡ 0 → outcome_seen o ≡ 1 →
      length information ≡ information_length → length buffer ≡ size →
      WroteC size first (writer_left o) buffer (run ++ (image_of (number_seen o) (entries_seen o) (group_left o) information ∷ []))
      (noted c (phase_seen state) (closed_seen o) now) (noted c (phase_seen state) (closed_seen o) now)
  refused : {state group : List ℕ} {run : List Image} {closed now : Account} {o : Left} (c : CallC) (lent answer : List ℕ) →
      WroteC size first state group run closed now →
      asked_c c state lent answer ≡ o → (o.refusal ≡ 0 → ⊥) → WroteC size first (writer_left o) group run closed now
  changed : {state group : List ℕ} {run : List Image} {closed now : Account} (information : List ℕ) →
      WroteC size first state group run closed now → length information ≡ information_length →
      WroteC size first state (with_information group information) run closed now

-- A writing from C that was ended: the last call that returned 0 is an end.
unfoldable pub WasEndedC : {size first : ℕ} {state group : List ℕ} {run : List Image} {closed now : Account} → WroteC size first state group run closed now → Type 0
WasEndedC (begins state answer group e zero l) = ⊥
WasEndedC (goes_on c answer x asked e zero f) = IsEnd c
WasEndedC (closes c answer information buffer x asked e zero f i l) = IsEnd c
WasEndedC (refused c lent answer x e n) = WasEndedC x
WasEndedC (changed information x i) = WasEndedC x

-- What a read is lent besides the group: a slice for its rows and one for its answer.
pub record Loan : Type 0 where
  pub rows : List ℕ
  pub answer : List ℕ

-- Loans for the reads of a run, any that are long enough: twelve bytes of rows per entry, and an answer slice of its length.
pub data LentC : List Image → List Loan → Type 0 where
  lent_none : LentC [] []
  lent_more : {g : Image} {gs : List Image} {loan : Loan} {loans : List Loan} →
      12 * g.entries ≤ length loan.rows → length loan.answer ≡ answer_length → LentC gs loans → LentC (g ∷ gs) (loan ∷ loans)

-- Loans for the reads of a run with repeats: the same, but a repeat's rows may be any.
pub data LentBehindC : ℕ → List Image → List Loan → Type 0 where
  behind_none : {last : ℕ} → LentBehindC last [] []
  behind_more : {last : ℕ} {g : Image} {gs : List Image} {loan : Loan} {loans : List Loan} → (g.number ≡ last) ⊎ (12 * g.entries ≤ length loan.rows) →
      length loan.answer ≡ answer_length → LentBehindC g.number gs loans → LentBehindC last (g ∷ gs) (loan ∷ loans)

pub data LentAmongC : List Image → List Loan → Type 0 where
  among_none : LentAmongC [] []
  among_more : {g : Image} {gs : List Image} {loan : Loan} {loans : List Loan} → 12 * g.entries ≤ length loan.rows →
      length loan.answer ≡ answer_length → LentBehindC g.number gs loans → LentAmongC (g ∷ gs) (loan ∷ loans)

-- The numbers that stand in the row slices as they are lent.
abbrev pub numbers_lent : List Loan → List (List ℕ)
numbers_lent [] = []
numbers_lent (loan ∷ loans) = numbers_in loan.rows ∷ numbers_lent loans

-- A reading from C, from a state slice over a run to a state slice: each read is lent its loan, returns 0 and tells outcome 0, and
-- leaves rows whose numbers are listed.
pub data AcceptsC : List ℕ → List Image → List Loan → List (List ℕ) → List ℕ → Type 0 where
  accepts_none : {state : List ℕ} → AcceptsC state [] [] [] state
  accepts_more : {state final : List ℕ} {g : Image} {gs : List Image} {loan : Loan} {loans : List Loan} {rows : List (List ℕ)} {o : Left} →
      dds_read state g.bytes g.number g.entries loan.rows loan.answer ≡ o →
      o.refusal ≡ 0 → outcome_seen o ≡ 0 → AcceptsC (reader_left o) gs loans rows final →
      AcceptsC state (g ∷ gs) (loan ∷ loans) (numbers_in (rows_read o) ∷ rows) final

-- A reading from C to a run's end, repeats among its groups: each read returns 0. Outcome 2 says that the group is a repeat: it is
-- not counted as read, and its rows are not listed.
pub data ToEndC : List ℕ → List Image → List Loan → List (List ℕ) → List ℕ → Type 0 where
  end_none : {state : List ℕ} → ToEndC state [] [] [] state
  end_more : {state final : List ℕ} {g : Image} {gs : List Image} {loan : Loan} {loans : List Loan} {rows : List (List ℕ)} {o : Left} →
      dds_read state g.bytes g.number g.entries loan.rows loan.answer ≡ o →
      o.refusal ≡ 0 → outcome_seen o ≡ 0 → ToEndC (reader_left o) gs loans rows final →
      ToEndC state (g ∷ gs) (loan ∷ loans) (numbers_in (rows_read o) ∷ rows) final
  end_repeat : {state final : List ℕ} {g : Image} {gs : List Image} {loan : Loan} {loans : List Loan} {rows : List (List ℕ)} {o : Left} →
      dds_read state g.bytes g.number g.entries loan.rows loan.answer ≡ o →
      o.refusal ≡ 0 → outcome_seen o ≡ 2 → ToEndC (reader_left o) gs loans rows final →
      ToEndC state (g ∷ gs) (loan ∷ loans) rows final
