-- A reading from C was lent slices that are long enough, and with the same slices there is no other.
-- Assumes nothing.
use mathlib.Core.Path.{◌≡◌, refl, sym, ap, ◌∙◌, subst}
use mathlib.Core.List.{List}
use Prim.Native.Nat.{ℕ, ◌*◌, ◌/◌, ◌≤◌}
use native.Mathlib.Omega.{arith}
use lib.ListN.{length}
use Rattle.numbers.specs.Numbers.{numbers_in}
use Rattle.reader.proofs.Accepted.{accepted}
use Rattle.layout.specs.Layout.{Image}
use Rattle.slices.specs.Call.{Left, outcome_seen, answer_length}
use Rattle.slices.proofs.Calls.{lengths}
use Rattle.states.specs.States.{reader_length}
use Rattle.c_reader.specs.Calls.{dds_reader_start, dds_read, reader_left, rows_read}
use Rattle.c_reader.proofs.Theorems.{start_returns_zero, read_accepts}
use Rattle.trip.specs.ThroughC.{Loan, LentC, AcceptsC}

pub read_lent : (state group : List ℕ) (number n : ℕ) (rows answer : List ℕ) → (dds_read state group number n rows answer).refusal ≡ 0 →
    outcome_seen (dds_read state group number n rows answer) ≡ 0 → (12 * n ≤ length rows) × (length answer ≡ answer_length)
read_lent state group number n rows answer e f =
    let a = (read_accepts state group number n rows answer).0 (e, f) in
    let p = accepted _ a.left group number n (length rows / 4) a.accepts in
    (omega (arith, p.ready.rows), (lengths (length state) reader_length (length answer) a.kept).1)

pub start_lent : (size first : ℕ) (state answer : List ℕ) → (dds_reader_start size first state answer).refusal ≡ 0 → (length state ≡ reader_length) × (length answer ≡ answer_length)
start_lent size first state answer e = lengths (length state) reader_length (length answer) ((start_returns_zero size first state answer).0 e).kept

pub lent_enough : {state final : List ℕ} {run : List Image} {loans : List Loan} {rows : List (List ℕ)} → AcceptsC state run loans rows final → LentC run loans
lent_enough AcceptsC.accepts_none = LentC.lent_none
lent_enough (AcceptsC.accepts_more {state} {final} {g} {gs} {loan} e n z a) =
    let l = read_lent state g.bytes g.number g.entries loan.rows loan.answer (ap (λ (o : Left). o.refusal) e ∙ n) (ap outcome_seen e ∙ z) in
    LentC.lent_more l.0 l.1 (lent_enough a)

pub same_reading : {state final other : List ℕ} {run : List Image} {loans : List Loan} {rows others : List (List ℕ)} → AcceptsC state run loans rows final →
    AcceptsC state run loans others other → (rows ≡ others) × (final ≡ other)
same_reading AcceptsC.accepts_none AcceptsC.accepts_none = (refl, refl)
same_reading {other = other} (AcceptsC.accepts_more {gs = gs} {loans = loans} {rows = rows} {o = o} e n z a) (AcceptsC.accepts_more {rows = others} {o = p} f m y b) =
    let same : p ≡ o = sym f ∙ e in
    let r = same_reading a (subst (λ (o : Left). AcceptsC (reader_left o) gs loans others other) same b) in
    let row : numbers_in (rows_read p) ≡ numbers_in (rows_read o) = ap (λ (o : Left). numbers_in (rows_read o)) same in
    let first = r.0 in
    (cc, r.1)
