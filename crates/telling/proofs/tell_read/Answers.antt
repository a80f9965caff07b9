-- `tell_read` meets its contract: by the read's own answer. Assumes nothing.
use Rattle.std.proofs.Common.{ℕ, ◌≡◌, refl, ap, length, replicate, arith}
use Rattle.std.proofs.lemmas.List.{length-replicate}
use Rattle.reader.specs.ReadAnswer.{answer_of}
use Rattle.telling.specs.Telling.{row_numbers}
use Rattle.telling.proofs.TellingLaws.{tells, answer_is, few_entries, read_on, read_again, read_off}
use Rattle.telling.proofs.tell_read.Goals as goal

room : length (replicate {A = ℕ} row_numbers 0) ≡ row_numbers
room = length-replicate {A = ℕ} row_numbers 0

pub add_group-requires : goal.add_group-requires
add_group-requires c =
    let on = answer_is c.args.reader c.in-Ok-Accepted.is c.in-Ok-Accepted.field-0-is in
    let few = few_entries _ _ _ _ _ _ _ room c.read.ensures _ on in
    (omega (arith, few, c.requires), omega (arith, few, c.read.auto.rows))

pub returns-in-Ok-Accepted : goal.returns-in-Ok-Accepted
returns-in-Ok-Accepted c =
    let on = answer_is c.args.reader c.in-Ok-Accepted.is c.in-Ok-Accepted.field-0-is in
    let few = few_entries _ _ _ _ _ _ _ room c.read.ensures _ on in
    tells (read_on _ _ _ _ _ _ _ room c.read.ensures _ on) (omega (arith, few)) c.add_group.ensures refl

pub returns-in-Ok-Repeated : goal.returns-in-Ok-Repeated
returns-in-Ok-Repeated c =
    let again = answer_is c.args.reader c.in-Ok-Repeated.is c.in-Ok-Repeated.field-0-is in
    tells (read_again _ _ _ _ _ _ _ room c.read.ensures _ again) (omega arith) c.add_repeat.ensures refl

pub returns-in-Err : goal.returns-in-Err
returns-in-Err c =
    let off = ap (answer_of c.args.reader) c.in-Err.is in
    tells {most = 33} (read_off _ _ _ _ _ _ _ room c.read.ensures _ _ _ off) (omega arith) (rw (← c.number.ensures) c.add_refusal.ensures) refl
