-- `Reader::read_bytes` meets its contract: the judgement, and the rows' bytes where it accepts. Assumes nothing.
use mathlib.Core.Path.{◌≡◌, sym, ap, ◌∙◌}
use mathlib.Core.List.{List}
use Prim.Native.Nat.{ℕ}
use native.Mathlib.Omega.{arith}
use lib.ListN.{length}
use Rattle.std.specs.Prelude.{Ok}
use Rattle.reader.specs.declared.Reader.{Reader}
use Rattle.reader.specs.declared.Read.{Read}
use Rattle.reader.specs.declared.Read.TheVariants as read
use Rattle.reader.specs.ReadAnswer as answer
use Rattle.reader.specs.ReadAnswer.{answer_of}
use Rattle.reader.specs.Answer.{group_rows, read_call}
use Rattle.reader.proofs.Accepted.{Ready, accepted, cut, data_within_lem}
use Rattle.reader.proofs.Reader.read_bytes.Goals as goal

-- An accepted read.
passed : (s t : Reader) (r : Read) (group : List ℕ) (number n room : ℕ) → answer_of s (Ok r) ≡ read_call s group number n room → r ≡ read.Accepted t
    → read_call s group number n room ≡ answer.Accepted t
passed s t r group number n room e is = sym e ∙ ap (λ (r : Read). answer_of s (Ok r)) is

-- Nothing was refused before the scan.
open_to : (s t : Reader) (r : Read) (group : List ℕ) (number n room : ℕ) → answer_of s (Ok r) ≡ read_call s group number n room → r ≡ read.Accepted t
    → Ready s (length group) number n room
open_to s t r group number n room e is = (accepted _ _ _ _ _ _ (passed s t r group number n room e is)).ready

pub fill_bytes-requires-clause-cut : goal.fill_bytes-requires-clause-cut
fill_bytes-requires-clause-cut c = let r = open_to _ _ _ _ _ _ _ c.in_ok-read.ensures c.in-Accepted.is in rw r.long (cut r)

pub fill_bytes-requires-clause-within : goal.fill_bytes-requires-clause-within
fill_bytes-requires-clause-within c =
    let r = open_to _ _ _ _ _ _ _ c.in_ok-read.ensures c.in-Accepted.is in
    rw r.long (data_within_lem _ _ _ _ _ _ (passed _ _ _ _ _ _ _ c.in_ok-read.ensures c.in-Accepted.is))

pub fill_bytes-requires-clause-entries_in_bounds : goal.fill_bytes-requires-clause-entries_in_bounds
fill_bytes-requires-clause-entries_in_bounds c = let r = open_to _ _ _ _ _ _ _ c.in_ok-read.ensures c.in-Accepted.is in omega (arith, r.rows)

pub returns-in-Accepted : goal.returns-in-Accepted
unfolding group_rows
returns-in-Accepted c =
    let r = open_to _ _ _ _ _ _ _ c.in_ok-read.ensures c.in-Accepted.is in
    record { answer = c.in_ok-read.ensures; rows_left = rw (c.in-Accepted.is, ← r.long) c.fill_bytes.ensures }

pub overflow_cast-group : goal.overflow_cast-group
overflow_cast-group c = let r = open_to _ _ _ _ _ _ _ c.in_ok-read.ensures c.in-Accepted.is in omega (arith, r.long, r.run.most)
