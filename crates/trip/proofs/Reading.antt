-- A run that the reader accepts, or reads to its end among repeats, is read so through the slices, and the rows that the reads leave
-- hold the same numbers.
-- Assumes nothing.
use mathlib.Core.Path.{◌≡◌, refl, sym, ap, ◌∙◌, subst}
use mathlib.Core.Logic.{◌⊎◌, inl, inr}
use mathlib.Core.Bool.{true}
use mathlib.Core.List.{List, [], ◌∷◌}
use Prim.Native.Nat.{ℕ, ◌*◌, ◌/◌, ◌≤◌}
use native.Mathlib.Omega.{arith}
use lib.ListN.{length}
use Rattle.numbers.proofs.InBytes.{length_in_bytes, length_numbers, numbers_put}
use Rattle.numbers.specs.Numbers.{number_at, numbers_in, bytes_of, in_bytes}
use Rattle.group.specs.declared.Phase.TheVariants.{Free}
use Rattle.group.specs.Sizes.{least_size, standard_size, last_number}
use Rattle.numbers.specs.Store.{put}
use Rattle.numbers.proofs.Tests.{within, and}
use Rattle.group.proofs.StateLaws.{Run, started, sound_of_run}
use Rattle.reader.proofs.GroupRows.{length_group_rows}
use Rattle.reader.specs.declared.Reader.{Reader}
use Rattle.reader.specs.ReaderStart as start
use Rattle.reader.specs.ReadAnswer.{ReadAnswer}
use Rattle.reader.specs.ReadAnswer as read
use Rattle.reader.specs.Answer.{sound, reader_start_call, read_call, group_rows, rows_left}
use Rattle.reader.proofs.Sound.{sound_again}
use Rattle.layout.specs.Layout.{Image}
use Rattle.layout.specs.Accepting.{Accepts, ToEnd, Lent, LentBehind, LentAmong, lent_to}
use Rattle.reader.proofs.Accepted.{begun_at, none_accepted, repeated, accepted as passed}
use Rattle.slices.specs.Call.{Left, left, answer_length, lengths_kept, called}
use Rattle.states.specs.States.{reader_length, reader_of, reader_numbers}
use Rattle.c_reader.specs.Calls.{dds_reader_start, dds_read}
use Rattle.c_reader.specs.Accepted.{repeat_left}
use Rattle.c_reader.proofs.Theorems.{read_repeated}
use Rattle.states.proofs.StateLaws.{reader_of_bytes, meant_reader, sound_reader_fits}
use Rattle.trip.specs.ThroughC.{Loan, LentC, LentBehindC, LentAmongC, numbers_lent, AcceptsC, ToEndC}
use Rattle.trip.proofs.SmallRows.{small_rows}

-- The bytes of a reader's state.
abbrev pub slice : Reader → List ℕ
slice s = in_bytes (reader_numbers s)

-- What a call that is accepted returns and leaves.
abbrev pub accepted : Reader → List (List ℕ) → Left
accepted s lent = left 0 (slice s ∷ lent) (in_bytes (0 ∷ 0 ∷ 0 ∷ 0 ∷ 0 ∷ 0 ∷ []))

-- Slices of their lengths are let through.
pub long_slice : (s : Reader) → length (slice s) ≡ reader_length
long_slice s = length_in_bytes (reader_numbers s)

pub held_slice : (s : Reader) → sound s ≡ true → reader_of (slice s) ≡ s
held_slice s h = reader_of_bytes s (sound_reader_fits s h)

pub kept_lengths : (state answer : List ℕ) → length state ≡ reader_length → length answer ≡ answer_length → lengths_kept (length state) reader_length (length answer) ≡ true
unfolding lengths_kept
kept_lengths state answer e f = rw (e, f)

-- The start.
pub starts_through : (size first : ℕ) (s : Reader) (state answer : List ℕ) → reader_start_call size first ≡ start.Started s → length state ≡ reader_length → length answer ≡ answer_length →
    dds_reader_start size first state answer ≡ accepted s []
unfolding dds_reader_start called
starts_through size first s state answer e f g = rw (kept_lengths state answer f g, e, (begun_at size first s e).1)

pub sound_fresh : (size first : ℕ) (s : Reader) → reader_start_call size first ≡ start.Started s → sound s ≡ true
sound_fresh size first s e =
    let b = begun_at size first s e in
    let l = within least_size size standard_size (started size first b.0).0 in
    let n = within 1 first last_number (started size first b.0).1 in
    let run : Run size first Free 0 = record { least = l.0; most = l.1; some = n.0; number = omega arith; kept = refl } in
    subst (λ (r : Reader). sound r ≡ true) (sym b.1) (and (sound_of_run size first Free 0 run) (none_accepted first))

-- A read.
read_through : (s t : Reader) (group : List ℕ) (number n : ℕ) (rows answer : List ℕ) → sound s ≡ true → length answer ≡ answer_length →
    read_call s group number n (length rows / 4) ≡ read.Accepted t →
    dds_read (slice s) group number n rows answer ≡ accepted t (put rows 0 (in_bytes (group_rows s group n)) ∷ [])
unfolding dds_read called
read_through s t group number n rows answer h l e = rw (kept_lengths (slice s) answer (long_slice s) l, meant_reader s, held_slice s h, e)

-- A read of the bytes of a sound state that the reader refuses.
pub refused_through : (s : Reader) (state : List ℕ) (g : Image) (rows answer : List ℕ) {refusal place : ℕ} → sound s ≡ true → slice s ≡ state → length answer ≡ answer_length →
    read_call s g.bytes g.number g.entries (length rows / 4) ≡ read.Refused s refusal place →
    dds_read state g.bytes g.number g.entries rows answer ≡ left refusal (state ∷ rows ∷ []) (in_bytes (refusal ∷ place ∷ 0 ∷ 0 ∷ 0 ∷ 0 ∷ []))
unfolding dds_read called
refused_through s state g rows answer h is l e = rw (← is, kept_lengths (slice s) answer (long_slice s) l, meant_reader s, held_slice s h, e)

pub enough_lent : {run : List Image} {loans : List Loan} → LentC run loans → Lent run (numbers_lent loans)
enough_lent LentC.lent_none = Lent.lent_none
enough_lent (LentC.lent_more {g} {gs} {loan} h l r) =
    let long : 3 * g.entries ≤ length (numbers_in loan.rows) = omega (arith, length_numbers loan.rows) in
    Lent.lent_more long (enough_lent r)

behind_lent : {last : ℕ} {run : List Image} {loans : List Loan} → LentBehindC last run loans → LentBehind last run (numbers_lent loans)
behind_lent LentBehindC.behind_none = LentBehind.behind_none
behind_lent {last} (LentBehindC.behind_more {g = g} {loan = loan} f l r) = LentBehind.behind_more (by f) (behind_lent r)
  where
    by : (g.number ≡ last) ⊎ (12 * g.entries ≤ length loan.rows) → (g.number ≡ last) ⊎ (3 * g.entries ≤ length (numbers_in loan.rows))
    by (inl e) = inl e
    by (inr h) = inr (omega (arith, length_numbers loan.rows))

pub among_lent : {run : List Image} {loans : List Loan} → LentAmongC run loans → LentAmong run (numbers_lent loans)
among_lent LentAmongC.among_none = LentAmong.among_none
among_lent (LentAmongC.among_more {g = g} {loan = loan} h l r) =
    let long : 3 * g.entries ≤ length (numbers_in loan.rows) = omega (arith, length_numbers loan.rows) in
    LentAmong.among_more long (behind_lent r)

-- A read that the reader accepts, made through the slices: what it leaves, and the numbers of its rows.
pub record Made (s t : Reader) (g : Image) (loan : Loan) (old : List ℕ) : Type 0 where
  pub left : List ℕ
  pub reads : dds_read (slice s) g.bytes g.number g.entries loan.rows loan.answer ≡ accepted t (left ∷ [])
  pub row : numbers_in left ≡ rows_left (read_call s g.bytes g.number g.entries (length old)) (group_rows s g.bytes g.entries) old

pub made : (s t : Reader) (g : Image) (loan : Loan) (old : List ℕ) → sound s ≡ true → 12 * g.entries ≤ length loan.rows → length loan.answer ≡ answer_length → old ≡ numbers_in loan.rows →
    read_call s g.bytes g.number g.entries (length old) ≡ read.Accepted t → Made s t g loan old
made s t g loan old h long l same e =
    let new : List ℕ = group_rows s g.bytes g.entries in
    let room : length old ≡ length loan.rows / 4 = ap length same ∙ length_numbers loan.rows in
    let f : read_call s g.bytes g.number g.entries (length loan.rows / 4) ≡ read.Accepted t = ap (read_call s g.bytes g.number g.entries) (sym room) ∙ e in
    let small = small_rows s t g.bytes g.number g.entries (length old) e in
    let stored : numbers_in (put loan.rows 0 (in_bytes new)) ≡ put (numbers_in loan.rows) 0 new =
    numbers_put loan.rows new small (omega (arith, length_group_rows s g.bytes g.entries)) in
    record {
      left = put loan.rows 0 (in_bytes new);
      reads = read_through s t g.bytes g.number g.entries loan.rows loan.answer h l f;
      row = stored ∙ ap (λ (k : List ℕ). put k 0 new) (sym same) ∙ sym (ap (λ (x : ReadAnswer). rows_left x new old) e);
    }

one_more : {s t : Reader} {g : Image} {loan : Loan} {old : List ℕ} {gs : List Image} {loans : List Loan} {rows : List (List ℕ)} {final : List ℕ} →
    Made s t g loan old → AcceptsC (slice t) gs loans rows final →
    AcceptsC (slice s) (g ∷ gs) (loan ∷ loans) (rows_left (read_call s g.bytes g.number g.entries (length old)) (group_rows s g.bytes g.entries) old ∷ rows) final
unfolding number_at in_bytes bytes_of
one_more {s} {g = g} {loan = loan} {gs = gs} {loans = loans} {rows = rows} {final = final} m a =
    subst (λ (k : List ℕ). AcceptsC (slice s) (g ∷ gs) (loan ∷ loans) (k ∷ rows) final) m.row (AcceptsC.accepts_more m.reads refl refl a)

-- A whole run, by loans that have room for just the row numbers that the reads were lent.
pub accepted_through : {s t : Reader} {run : List Image} {rows : List (List ℕ)} {loans : List Loan} (a : Accepts s run rows t) → sound s ≡ true → LentC run loans →
    lent_to a ≡ numbers_lent loans → AcceptsC (slice s) run loans rows (slice t)
unfolding lent_to
accepted_through Accepts.accepts_none h LentC.lent_none e = AcceptsC.accepts_none
accepted_through (Accepts.accepts_more {s} {t} {u} {g} {gs} {rows} old e a) h (LentC.lent_more {loan = loan} {loans = loans} long l r) q =
    let same : old ≡ numbers_in loan.rows = cc in
    let rest : lent_to a ≡ numbers_lent loans = cc in
    one_more (made s t g loan old h long l same e) (accepted_through a (sound_again s t g.bytes g.number g.entries (length old) e) r rest)

-- The same of a run with repeats, which are answered whatever rows are lent.
pub repeated_through : (s : Reader) (g : Image) (loan : Loan) (old : List ℕ) → sound s ≡ true → length loan.answer ≡ answer_length →
    read_call s g.bytes g.number g.entries (length old) ≡ read.Repeated s →
    dds_read (slice s) g.bytes g.number g.entries loan.rows loan.answer ≡ repeat_left (slice s) loan.rows
repeated_through s g loan old h l e =
    read_repeated (slice s) g.bytes g.number g.entries loan.rows loan.answer
    (record {
      kept = kept_lengths (slice s) loan.answer (long_slice s) l;
      meant = meant_reader s;
      repeat = rw (held_slice s h) (repeated s s g.bytes g.number g.entries (length old) e).0;
    })

more_to_end : {s t : Reader} {g : Image} {loan : Loan} {old : List ℕ} {gs : List Image} {loans : List Loan} {rows : List (List ℕ)} {final : List ℕ} →
    Made s t g loan old → ToEndC (slice t) gs loans rows final →
    ToEndC (slice s) (g ∷ gs) (loan ∷ loans) (rows_left (read_call s g.bytes g.number g.entries (length old)) (group_rows s g.bytes g.entries) old ∷ rows) final
unfolding number_at in_bytes bytes_of
more_to_end {s} {g = g} {loan = loan} {gs = gs} {loans = loans} {rows = rows} {final = final} m a =
    subst (λ (k : List ℕ). ToEndC (slice s) (g ∷ gs) (loan ∷ loans) (k ∷ rows) final) m.row (ToEndC.end_more m.reads refl refl a)

again_to_end : {state : List ℕ} {g : Image} {loan : Loan} {gs : List Image} {loans : List Loan} {rows : List (List ℕ)} {final : List ℕ} →
    dds_read state g.bytes g.number g.entries loan.rows loan.answer ≡ repeat_left state loan.rows → ToEndC state gs loans rows final →
    ToEndC state (g ∷ gs) (loan ∷ loans) rows final
unfolding number_at in_bytes bytes_of
again_to_end d a = ToEndC.end_repeat d refl refl a

-- Answer slices of their length for the reads of a run.
pub data Answering : List Loan → Type 0 where
  answers_none : Answering []
  answers_more : {loan : Loan} {loans : List Loan} → length loan.answer ≡ answer_length → Answering loans → Answering (loan ∷ loans)

answering_behind : {last : ℕ} {run : List Image} {loans : List Loan} → LentBehindC last run loans → Answering loans
answering_behind LentBehindC.behind_none = answers_none
answering_behind (LentBehindC.behind_more f l r) = answers_more l (answering_behind r)

pub answering : {run : List Image} {loans : List Loan} → LentAmongC run loans → Answering loans
answering LentAmongC.among_none = answers_none
answering (LentAmongC.among_more f l r) = answers_more l (answering_behind r)

-- An accepted read has row slices that are long enough.
pub long_enough : (s t : Reader) (g : Image) (loan : Loan) (old : List ℕ) → old ≡ numbers_in loan.rows → read_call s g.bytes g.number g.entries (length old) ≡ read.Accepted t →
    12 * g.entries ≤ length loan.rows
long_enough s t g loan old same e =
    let p = passed s t g.bytes g.number g.entries (length old) e in
    omega (arith, p.ready.rows, ap length same, length_numbers loan.rows)

reads_through : {s t : Reader} {run : List Image} {lent rows : List (List ℕ)} {loans : List Loan} → ToEnd s run lent rows t → sound s ≡ true → Answering loans →
    lent ≡ numbers_lent loans → ToEndC (slice s) run loans rows (slice t)
reads_through ToEnd.end_none h answers_none e = ToEndC.end_none
reads_through ToEnd.end_none h (answers_more l r) e = let z : ◌≡◌ {A = ℕ} 0 1 = cc in absurd (omega arith)
reads_through (ToEnd.end_more old e a) h answers_none q = let z : ◌≡◌ {A = ℕ} 0 1 = cc in absurd (omega arith)
reads_through (ToEnd.end_more {s} {t} {g = g} {lent = lent} old e a) h (answers_more {loan = loan} {loans = loans} l r) q =
    let same : old ≡ numbers_in loan.rows = cc in
    let rest : lent ≡ numbers_lent loans = cc in
    more_to_end (made s t g loan old h (long_enough s t g loan old same e) l same e) (reads_through a (sound_again s t g.bytes g.number g.entries (length old) e) r rest)
reads_through (ToEnd.end_repeat old e a) h answers_none q = let z : ◌≡◌ {A = ℕ} 0 1 = cc in absurd (omega arith)
reads_through (ToEnd.end_repeat {s} {g = g} {lent = lent} old e a) h (answers_more {loan = loan} {loans = loans} l r) q =
    let rest : lent ≡ numbers_lent loans = cc in
    again_to_end (repeated_through s g loan old h l e) (reads_through a h r rest)

pub through_to_end : {s t : Reader} {run : List Image} {rows : List (List ℕ)} {loans : List Loan} → ToEnd s run (numbers_lent loans) rows t → sound s ≡ true → LentAmongC run loans →
    ToEndC (slice s) run loans rows (slice t)
through_to_end a h l = reads_through a h (answering l) refl

pub sound_to_end : {s t : Reader} {run : List Image} {lent rows : List (List ℕ)} → ToEnd s run lent rows t → sound s ≡ true → sound t ≡ true
sound_to_end ToEnd.end_none h = h
sound_to_end (ToEnd.end_more {s} {t} {g = g} old e a) h = sound_to_end a (sound_again s t g.bytes g.number g.entries (length old) e)
sound_to_end (ToEnd.end_repeat old e a) h = sound_to_end a h

pub sound_end : {s t : Reader} {run : List Image} {rows : List (List ℕ)} → Accepts s run rows t → sound s ≡ true → sound t ≡ true
sound_end Accepts.accepts_none h = h
sound_end (Accepts.accepts_more {s} {t} {u} {g} old e a) h = sound_end a (sound_again s t g.bytes g.number g.entries (length old) e)
