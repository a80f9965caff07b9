-- `read` meets its contract: a length, a meaning, or what the read answers. Assumes nothing.
use mathlib.Core.Path.{◌≡◌, sym, ap, ◌∙◌}
use mathlib.Core.Bool.{true}
use Prim.Native.Nat.{◌+◌}
use lib.ListN.{length}
use native.Mathlib.Omega.{arith}
use Rattle.std.specs.Prelude.{Result}
use Rattle.answer.specs.declared.Refused.{Refused}
use Rattle.answer.specs.declared.refusals.Refusal.{Refusal}
use Rattle.numbers.proofs.Tests.{fails, holds}
use Rattle.reader.specs.declared.Reader.{Reader}
use Rattle.reader.specs.declared.Read.{Read}
use Rattle.reader.specs.ReadAnswer.{answer_of}
use Rattle.reader.proofs.Accepted.{accepted}
use Rattle.slices.specs.Call.{answer_length, lengths_kept}
use Rattle.slices.proofs.Calls.{lengths, stopped}
use Rattle.states.specs.States.{reader_length, reader_of}
use Rattle.c_reader.specs.Calls.{dds_read}
use Rattle.c_reader.proofs.Laws.{not_meant, read_done}
use Rattle.c_reader.proofs.read.Goals.{Else-not-lengths_kept}
use Rattle.c_reader.proofs.read.Goals as goal

-- The slices are of their lengths.
kept : (c : Else-not-lengths_kept) → lengths_kept (length c.args.state.now) reader_length (length c.args.answer.now) ≡ true
kept c = holds c.lengths_kept.ensures c.if-not-lengths_kept.false

long : (c : Else-not-lengths_kept) → (length c.args.state.now ≡ reader_length) × (length c.args.answer.now ≡ answer_length)
long c = lengths _ _ _ (kept c)

pub returns-then-not-lengths_kept : goal.returns-then-not-lengths_kept
unfolding dds_read
returns-then-not-lengths_kept c = stopped _ _ _ _ (fails c.lengths_kept.ensures c.if-not-lengths_kept.true)

pub returns-then-not-reader_meant : goal.returns-then-not-reader_meant
returns-then-not-reader_meant c =
    not_meant _ _ _ _ _ _ (kept (goal.at.returns-then-not-reader_meant c).Else-not-lengths_kept) (fails c.reader_meant.ensures c.if-not-reader_meant.true) (rw c.into.ensures at c.tell.ensures)

pub returns : goal.returns
returns c =
    let s = c.reader_of-reader.result in
    read_done _ _ _ _ _ _ (kept (goal.at.returns c).Else-not-lengths_kept) _ _ (holds c.reader_meant.ensures c.if-not-reader_meant.false) c.reader_of-reader.ensures c.read_bytes-done.ensures (c.finish.ensures.state_after s) (c.finish.ensures.tells s)

-- An accepted reader has the size that the state has, the number after the one that it has, and says that a group was accepted.
pub finish-requires : goal.finish-requires
unfolding reader_of
finish-requires c =
    let s = c.reader_of-reader in
    record {
      state_len = long (goal.at.finish-requires c).Else-not-lengths_kept;
      follows =
          λ reader e.
          let left = (accepted s.result reader _ _ _ _ (sym c.read_bytes-done.ensures.answer ∙ ap (λ (r : Result Read (Refused Refusal)). answer_of s.result r) e)).left in
          record {
            size = ap (λ (t : Reader). t.size) left ∙ ap (λ (t : Reader). t.size) s.ensures;
            next = ap (λ (t : Reader). t.next) left ∙ ap (λ (t : Reader). t.next + 1) s.ensures;
            accepted = ap (λ (t : Reader). t.accepted) left;
          };
    }

pub reader_meant-requires : goal.reader_meant-requires
reader_meant-requires c = (long (goal.at.reader_meant-requires c).Else-not-lengths_kept).0

pub tell-requires : goal.tell-requires
tell-requires c = (long (goal.at.tell-requires c).Else-not-lengths_kept).1

pub reader_of-reader-requires : goal.reader_of-reader-requires
reader_of-reader-requires c = omega (arith, (long (goal.at.reader_of-reader-requires c).Else-not-lengths_kept).0)
