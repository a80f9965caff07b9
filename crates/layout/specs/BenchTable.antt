-- Document 01, "Bench table": the cases marked P as one list, with three on b4 and three on a total that is owed. Each writing is read
-- back by the read call; each reading is of a run from fresh. What is expected is written out whole: every answer, every byte of every
-- closed group, every row.
-- Assumes nothing.
use Rattle.std.specs.Prelude.{ℕ, zero, suc, ◌+◌, ◌*◌, List, [], ◌∷◌, ◌++◌, Bool, true, false, leb, length, replicate}
use Rattle.laying.specs.Start.{fresh_state, writer_start_call}
use Rattle.answer.specs.Answer.{numbers_told}
use Rattle.group.specs.declared.Phase.{Phase}
use Rattle.group.specs.declared.Phase.TheVariants as phase
use Rattle.reader.specs.declared.Reader.{Reader}
use Rattle.reader.specs.ReaderStart.{ReaderStart}
use Rattle.reader.specs.ReaderStart as reader_start
use Rattle.reader.specs.ReadAnswer.{ReadAnswer}
use Rattle.reader.specs.Answer as read
use Rattle.laying.specs.WriterStart.{WriterStart}
use Rattle.laying.specs.WriterStart as writer_start
use Rattle.writer.specs.WriteAnswer.{WriteAnswer}
use Rattle.writer.specs.WriteAnswer.{Finished, Closed, Refused}
use Rattle.laying.specs.Laying.{Desk, desk, warn_state}
use Rattle.writer.specs.Calls as write
use Rattle.writer.specs.Calls.{Call, call}
use Rattle.writer.specs.Calls.Call.{a_record, a_separator, an_end}
use Rattle.layout.specs.Layout.{Image}

-- "L = 64, from fresh, number 1"
abbrev pub size : ℕ
size = 64

abbrev pub first : ℕ
first = 1

-- What a case gives: calls, with the byte that every lent group holds all over; or a run of groups.
pub data Given : Type 0 where
  writing : ℕ → List Call → Given
  reading : List Image → Given

-- What one read tells, the numbers that C sees, and the rows that it leaves.
pub record Read : Type 0 where
  pub told : List ℕ
  pub rows : List ℕ

-- What a case comes to: what each call tells, the groups that are closed, the desk that is left; what each group's read tells
-- and leaves, and the reader's state after them.
pub data Shown : Type 0 where
  wrote : List (List ℕ) → List Image → Desk → List Read → Reader → Shown
  readings : List Read → Reader → Shown
  not_started : Shown

pub record Case : Type 0 where
  pub given : Given
  pub expected : Shown

-- What stands in the rows that a read is lent: 3n numbers and one more.
abbrev pub row_other : ℕ
row_other = 99

abbrev pub lent_rows : ℕ → List ℕ
lent_rows n = replicate (3 * n + 1) row_other

-- The reads of a run's groups from a state, and the state that they leave.
unfoldable pub answer_to : Reader → Image → ReadAnswer
answer_to s g = read.read_call s g.bytes g.number g.entries (length (lent_rows g.entries))

unfoldable pub read_all : Reader → List Image → List Read
read_all s [] = []
read_all s (g ∷ gs) =
    record {
      told = numbers_told (read.told (answer_to s g));
      rows = read.rows_left (answer_to s g) (read.group_rows s g.bytes g.entries) (lent_rows g.entries);
    }
    ∷ read_all (read.state_of (answer_to s g)) gs

unfoldable pub read_to : Reader → List Image → Reader
read_to s [] = s
read_to s (g ∷ gs) = read_to (read.state_of (answer_to s g)) gs

-- The desk for the next call: after a close another group is lent.
unfoldable pub desk_after : ℕ → WriteAnswer → List ℕ → Desk
desk_after lent (Finished s) group = desk s group
desk_after lent (Closed s number entries taken) group = desk s (replicate size lent)
desk_after lent (Refused s refusal) group = desk s group

unfoldable pub closed_by : WriteAnswer → List ℕ → List Image
closed_by (Finished s) group = []
closed_by (Closed s number entries taken) group = record { number = number; entries = entries; bytes = group } ∷ []
closed_by (Refused s refusal) group = []

-- The calls, one after the other, from a desk: what they tell, the groups that they close, the desk that they leave.
unfoldable pub next : ℕ → Call → Desk → Desk
next lent c w = desk_after lent (call c w).answer (call c w).group

unfoldable pub told_all : ℕ → List Call → Desk → List (List ℕ)
told_all lent [] w = []
told_all lent (c ∷ cs) w = numbers_told (write.told (call c w).answer) ∷ told_all lent cs (next lent c w)

unfoldable pub closed_all : ℕ → List Call → Desk → List Image
closed_all lent [] w = []
closed_all lent (c ∷ cs) w = closed_by (call c w).answer (call c w).group ++ closed_all lent cs (next lent c w)

unfoldable pub desk_left : ℕ → List Call → Desk → Desk
desk_left lent [] w = w
desk_left lent (c ∷ cs) w = desk_left lent cs (next lent c w)

-- From the two start calls' own answers.
unfoldable pub shown_from : Given → WriterStart → ReaderStart → Shown
shown_from (writing lent cs) (writer_start.Started w) (reader_start.Started s) =
    let d = desk w (replicate size lent) in
    wrote (told_all lent cs d) (closed_all lent cs d) (desk_left lent cs d) (read_all s (closed_all lent cs d)) (read_to s (closed_all lent cs d))
shown_from (writing lent cs) (writer_start.Started w) (reader_start.Refused refusal) = not_started
shown_from (writing lent cs) (writer_start.Refused refusal) answer = not_started
shown_from (reading run) answer (reader_start.Started s) = readings (read_all s run) (read_to s run)
shown_from (reading run) answer (reader_start.Refused refusal) = not_started

unfoldable pub shown : Given → Shown
shown given = shown_from given (writer_start_call size first) (read.reader_start_call size first)

-- The bytes of a record from its k-th on: each is its place in the record, so that a break shows.
unfoldable pub from : ℕ → ℕ → List ℕ
from k zero = []
from k (suc n) = k ∷ from (suc k) n

abbrev pub zeros : ℕ → List ℕ
zeros n = replicate n 0

-- A byte that no data, gap or entry of these cases has, and the last 32 bytes as a group is lent that holds it all over.
abbrev pub other : ℕ
other = 0xEE

abbrev pub information : List ℕ
information = replicate 32 other

abbrev pub image : ℕ → ℕ → List ℕ → Image
image number entries bytes = record { number = number; entries = entries; bytes = bytes }

-- What a call or a read that is accepted tells, a close of a group with so many entries that took so many bytes, a refusal.
abbrev pub ok : List ℕ
ok = 0 ∷ 0 ∷ 0 ∷ 0 ∷ 0 ∷ 0 ∷ []

abbrev pub close_of : (number entries taken : ℕ) → List ℕ
close_of number entries taken = 0 ∷ 0 ∷ 1 ∷ number ∷ entries ∷ taken ∷ []

abbrev pub refused_at : ℕ → ℕ → List ℕ
refused_at refusal place = refusal ∷ place ∷ 0 ∷ 0 ∷ 0 ∷ 0 ∷ []

-- A read that fills these rows, and one that is refused and leaves them all, lent for n entries.
abbrev pub filling : List ℕ → Read
filling rows = record { told = ok; rows = rows ++ (row_other ∷ []) }

abbrev pub refusing : (refusal place n : ℕ) → Read
refusing refusal place n = record { told = refused_at refusal place; rows = lent_rows n }

-- A writer that stands free before the group of this number, nothing laid, and the same with b4 set.
abbrev pub free_desk : ℕ → ℕ → Desk
free_desk lent number = desk (fresh_state size number) (replicate size lent)

abbrev pub warned_desk : ℕ → ℕ → Desk
warned_desk lent number = desk (warn_state true (fresh_state size number)) (replicate size lent)

-- A reader before the group of this number, and one that stands free with b4 clear. Runs begin at number 1, so behind it a group was
-- accepted.
abbrev pub reader_at : (number : ℕ) → Phase → (b4 : Bool) (sum : ℕ) → Reader
reader_at number p b4 sum = record { size = size; next = number; phase = p; warned = b4; accepted = leb 2 number; sum = sum }

abbrev pub free_reader : ℕ → Reader
free_reader number = reader_at number phase.Free false 0

-- A record's bytes from its k-th on, Separator 1, an end; none sets b4.
abbrev pub offer : ℕ → ℕ → Call
offer k n = a_record (from k n) false

abbrev pub separator : Call
separator = a_separator 0 false

abbrev pub end : Call
end = an_end false

-- "start 24, skip 40", the first group of P3 to P6, and its rows.
abbrev pub start_group : List ℕ
start_group = from 1 24 ++ (0x80 ∷ 0 ∷ 0 ∷ 40 ∷ 0x42 ∷ 0 ∷ 0 ∷ 24 ∷ []) ++ information

abbrev pub start_rows : List ℕ
start_rows = 4 ∷ 0 ∷ 24 ∷ 7 ∷ 24 ∷ 40 ∷ []

-- "P1: case A is what the writer makes of its 20 bytes and Separator 1 in a buffer of zeros, b4 never set."
abbrev pub p1 : Case
p1 =
    record {
      given = writing 0 (a_record (replicate 20 0x41) false ∷ separator ∷ end ∷ []);
      expected =
          wrote (ok ∷ ok ∷ close_of 1 3 0 ∷ [])
          (image 1 3 (replicate 20 0x41 ++ (0x80 ∷ 0 ∷ 0 ∷ 0x2C ∷ 0x07 ∷ 0 ∷ 0 ∷ 0 ∷ 0x63 ∷ 0 ∷ 0 ∷ 0x14 ∷ []) ++ zeros 32) ∷ [])
          (free_desk 0 2)
          (filling (6 ∷ 0 ∷ 20 ∷ 2 ∷ 20 ∷ 0 ∷ 7 ∷ 20 ∷ 44 ∷ []) ∷ [])
          (free_reader 2);
    }

-- "P2: 24 bytes: entire 24, skip 40."
abbrev pub p2 : Case
p2 =
    record {
      given = writing other (offer 1 24 ∷ end ∷ []);
      expected =
          wrote (ok ∷ close_of 1 2 0 ∷ [])
          (image 1 2 (from 1 24 ++ (0x80 ∷ 0 ∷ 0 ∷ 40 ∷ 0x63 ∷ 0 ∷ 0 ∷ 24 ∷ []) ++ information) ∷ [])
          (free_desk other 2)
          (filling (6 ∷ 0 ∷ 24 ∷ 7 ∷ 24 ∷ 40 ∷ []) ∷ [])
          (free_reader 2);
    }

-- "P3: 25: start 24, skip 40; last 1, total 25, skip 63."
abbrev pub p3 : Case
p3 =
    record {
      given = writing other (offer 1 25 ∷ offer 25 1 ∷ end ∷ []);
      expected =
          wrote (close_of 1 2 24 ∷ ok ∷ close_of 2 3 0 ∷ [])
          (image 1 2 start_group
          ∷ image 2 3 (from 25 1 ++ zeros 19 ++ (0x80 ∷ 0 ∷ 0 ∷ 63 ∷ 0x01 ∷ 0 ∷ 0 ∷ 25 ∷ 0x60 ∷ 0 ∷ 0 ∷ 1 ∷ []) ++ information)
          ∷ [])
          (free_desk other 3)
          (filling start_rows ∷ filling (5 ∷ 0 ∷ 1 ∷ 1 ∷ 1 ∷ 25 ∷ 7 ∷ 1 ∷ 63 ∷ []) ∷ [])
          (free_reader 3);
    }

-- "P4: 44: second group last 20, total 44, skip 44."
abbrev pub p4 : Case
p4 =
    record {
      given = writing other (offer 1 44 ∷ offer 25 20 ∷ end ∷ []);
      expected =
          wrote (close_of 1 2 24 ∷ ok ∷ close_of 2 3 0 ∷ [])
          (image 1 2 start_group
          ∷ image 2 3 (from 25 20 ++ (0x80 ∷ 0 ∷ 0 ∷ 44 ∷ 0x01 ∷ 0 ∷ 0 ∷ 44 ∷ 0x60 ∷ 0 ∷ 0 ∷ 20 ∷ []) ++ information)
          ∷ [])
          (free_desk other 3)
          (filling start_rows ∷ filling (5 ∷ 0 ∷ 20 ∷ 1 ∷ 20 ∷ 44 ∷ 7 ∷ 20 ∷ 44 ∷ []) ∷ [])
          (free_reader 3);
    }

-- "P5: 45: last 21, skip 43; third group total 45, skip 64."
abbrev pub p5 : Case
p5 =
    record {
      given = writing other (offer 1 45 ∷ offer 25 21 ∷ end ∷ []);
      expected =
          wrote (close_of 1 2 24 ∷ close_of 2 2 21 ∷ close_of 3 2 0 ∷ [])
          (image 1 2 start_group
          ∷ image 2 2 (from 25 21 ++ zeros 3 ++ (0x80 ∷ 0 ∷ 0 ∷ 43 ∷ 0x60 ∷ 0 ∷ 0 ∷ 21 ∷ []) ++ information)
          ∷ image 3 2 (zeros 24 ++ (0x80 ∷ 0 ∷ 0 ∷ 64 ∷ 0x01 ∷ 0 ∷ 0 ∷ 45 ∷ []) ++ information)
          ∷ [])
          (free_desk other 4)
          (filling start_rows ∷ filling (5 ∷ 0 ∷ 21 ∷ 7 ∷ 21 ∷ 43 ∷ []) ∷ filling (1 ∷ 0 ∷ 45 ∷ 7 ∷ 0 ∷ 64 ∷ []) ∷ [])
          (free_reader 4);
    }

-- "P6: 49: start 24; middle 24; last 1, total 49."
abbrev pub p6 : Case
p6 =
    record {
      given = writing other (offer 1 49 ∷ offer 25 25 ∷ offer 49 1 ∷ end ∷ []);
      expected =
          wrote (close_of 1 2 24 ∷ close_of 2 2 24 ∷ ok ∷ close_of 3 3 0 ∷ [])
          (image 1 2 start_group
          ∷ image 2 2 (from 25 24 ++ (0x80 ∷ 0 ∷ 0 ∷ 40 ∷ 0x40 ∷ 0 ∷ 0 ∷ 24 ∷ []) ++ information)
          ∷ image 3 3 (from 49 1 ++ zeros 19 ++ (0x80 ∷ 0 ∷ 0 ∷ 63 ∷ 0x01 ∷ 0 ∷ 0 ∷ 49 ∷ 0x60 ∷ 0 ∷ 0 ∷ 1 ∷ []) ++ information)
          ∷ [])
          (free_desk other 4)
          (filling start_rows ∷ filling (3 ∷ 0 ∷ 24 ∷ 7 ∷ 24 ∷ 40 ∷ []) ∷ filling (5 ∷ 0 ∷ 1 ∷ 1 ∷ 1 ∷ 49 ∷ 7 ∷ 1 ∷ 63 ∷ []) ∷ [])
          (free_reader 4);
    }

-- "P7: 21 bytes, then a separator: closes with skip 43, gap of 3 zeros, separator not laid."
abbrev pub p7 : Case
p7 =
    record {
      given = writing other (offer 1 21 ∷ separator ∷ []);
      expected =
          wrote (ok ∷ close_of 1 2 0 ∷ [])
          (image 1 2 (from 1 21 ++ zeros 3 ++ (0x80 ∷ 0 ∷ 0 ∷ 43 ∷ 0x63 ∷ 0 ∷ 0 ∷ 21 ∷ []) ++ information) ∷ [])
          (free_desk other 2)
          (filling (6 ∷ 0 ∷ 21 ∷ 7 ∷ 21 ∷ 43 ∷ []) ∷ [])
          (free_reader 2);
    }

-- "P8: seven separators fit, the eighth closes."
abbrev pub p8 : Case
p8 =
    record {
      given = writing other (replicate 8 separator);
      expected =
          wrote (replicate 7 ok ++ (close_of 1 8 0 ∷ []))
          (image 1 8
          ((0x80 ∷ 0 ∷ 0 ∷ 64 ∷ [])
          ++ (0x07 ∷ 0 ∷ 0 ∷ 0 ∷ 0x07 ∷ 0 ∷ 0 ∷ 0 ∷ 0x07 ∷ 0 ∷ 0 ∷ 0 ∷ 0x07 ∷ 0 ∷ 0 ∷ 0 ∷ [])
          ++ (0x07 ∷ 0 ∷ 0 ∷ 0 ∷ 0x07 ∷ 0 ∷ 0 ∷ 0 ∷ 0x07 ∷ 0 ∷ 0 ∷ 0 ∷ [])
          ++ information)
          ∷ [])
          (free_desk other 2)
          (filling (2 ∷ 0 ∷ 0 ∷ 2 ∷ 0 ∷ 0 ∷ 2 ∷ 0 ∷ 0 ∷ 2 ∷ 0 ∷ 0 ∷ 2 ∷ 0 ∷ 0 ∷ 2 ∷ 0 ∷ 0 ∷ 2 ∷ 0 ∷ 0 ∷ 7 ∷ 0 ∷ 64 ∷ []) ∷ [])
          (free_reader 2);
    }

-- "P9: end at once closes nothing": the desk is left as it came.
abbrev pub p9 : Case
p9 = record { given = writing other (end ∷ []); expected = wrote (ok ∷ []) [] (free_desk other 1) [] (free_reader 1) }

-- "P10: flag 43 gives 8."
abbrev pub p10 : Case
p10 =
    record {
      given = reading (image 1 2 (from 1 20 ++ zeros 4 ++ (0x80 ∷ 0 ∷ 0 ∷ 44 ∷ 0x43 ∷ 0 ∷ 0 ∷ 20 ∷ []) ++ information) ∷ []);
      expected = readings (refusing 8 1 2 ∷ []) (free_reader 1);
    }

-- A reader inside a record of which the start's 24 bytes stand in group 1.
abbrev pub inside_reader : Reader
inside_reader = reader_at 2 phase.Inside false 24

-- "P11: a lone skip inside a record gives 10 at 1."
abbrev pub p11 : Case
p11 =
    record {
      given = reading (image 1 2 start_group ∷ image 2 1 (zeros 28 ++ (0x80 ∷ 0 ∷ 0 ∷ 64 ∷ []) ++ information) ∷ []);
      expected = readings (filling start_rows ∷ refusing 10 1 1 ∷ []) inside_reader;
    }

-- "P12: a total one too small gives 11", by change request 2026-02 "Case P12 becomes 22": after a start of 24 and a last of 1, at the total's place.
abbrev pub p12 : Case
p12 =
    record {
      given =
          reading
          (image 1 2 start_group
          ∷ image 2 3 (from 25 1 ++ zeros 19 ++ (0x80 ∷ 0 ∷ 0 ∷ 63 ∷ 0x01 ∷ 0 ∷ 0 ∷ 24 ∷ 0x60 ∷ 0 ∷ 0 ∷ 1 ∷ []) ++ information)
          ∷ []);
      expected = readings (filling start_rows ∷ refusing 22 2 3 ∷ []) inside_reader;
    }

-- Beside the table. Change request 2026-03: all entries of a call that sets b4 carry it, and those of all later calls, in this and in
-- all following groups. It need not be said again.
abbrev pub b4_onward : Case
b4_onward =
    record {
      given = writing other (a_record (from 1 25) true ∷ offer 25 1 ∷ separator ∷ a_separator 1 true ∷ end ∷ []);
      expected =
          wrote (close_of 1 2 24 ∷ ok ∷ ok ∷ ok ∷ close_of 2 5 0 ∷ [])
          (image 1 2 (from 1 24 ++ (0x88 ∷ 0 ∷ 0 ∷ 40 ∷ 0x4A ∷ 0 ∷ 0 ∷ 24 ∷ []) ++ information)
          ∷ image 2 5 (from 25 1 ++ zeros 11 ++ (0x88 ∷ 0 ∷ 0 ∷ 63 ∷ 0x0F ∷ 0 ∷ 0 ∷ 1 ∷ 0x0F ∷ 0 ∷ 0 ∷ 0 ∷ 0x09 ∷ 0 ∷ 0 ∷ 25 ∷ 0x68 ∷ 0 ∷ 0 ∷ 1 ∷ []) ++ information)
          ∷ [])
          (warned_desk other 3)
          (filling start_rows ∷ filling (5 ∷ 0 ∷ 1 ∷ 1 ∷ 1 ∷ 25 ∷ 2 ∷ 1 ∷ 0 ∷ 2 ∷ 1 ∷ 1 ∷ 7 ∷ 1 ∷ 63 ∷ []) ∷ [])
          (reader_at 3 phase.Free true 0);
    }

-- A call that is refused sets nothing, nor does an end that closes nothing. An owed total carries b4 of the call that lays it.
abbrev pub b4_of_an_owed_total : Case
b4_of_an_owed_total =
    record {
      given = writing other (an_end true ∷ a_separator 2 true ∷ offer 1 45 ∷ an_end true ∷ separator ∷ offer 25 21 ∷ an_end true ∷ []);
      expected =
          wrote (ok ∷ refused_at 18 0 ∷ close_of 1 2 24 ∷ refused_at 17 0 ∷ refused_at 17 0 ∷ close_of 2 2 21 ∷ close_of 3 2 0 ∷ [])
          (image 1 2 start_group
          ∷ image 2 2 (from 25 21 ++ zeros 3 ++ (0x80 ∷ 0 ∷ 0 ∷ 43 ∷ 0x60 ∷ 0 ∷ 0 ∷ 21 ∷ []) ++ information)
          ∷ image 3 2 (zeros 24 ++ (0x88 ∷ 0 ∷ 0 ∷ 64 ∷ 0x09 ∷ 0 ∷ 0 ∷ 45 ∷ []) ++ information)
          ∷ [])
          (warned_desk other 4)
          (filling start_rows ∷ filling (5 ∷ 0 ∷ 21 ∷ 7 ∷ 21 ∷ 43 ∷ []) ∷ filling (1 ∷ 0 ∷ 45 ∷ 7 ∷ 0 ∷ 64 ∷ []) ∷ [])
          (reader_at 4 phase.Free true 0);
    }

-- "9 now also meets the first entry of a later group": b4 begins in the start's group and goes out in the next one.
abbrev pub b4_went_out : Case
b4_went_out =
    record {
      given =
          reading
          (image 1 2 (from 1 24 ++ (0x88 ∷ 0 ∷ 0 ∷ 40 ∷ 0x42 ∷ 0 ∷ 0 ∷ 24 ∷ []) ++ information)
          ∷ image 2 3 (from 25 1 ++ zeros 19 ++ (0x88 ∷ 0 ∷ 0 ∷ 63 ∷ 0x09 ∷ 0 ∷ 0 ∷ 25 ∷ 0x60 ∷ 0 ∷ 0 ∷ 1 ∷ []) ++ information)
          ∷ []);
      expected = readings (filling start_rows ∷ refusing 9 1 3 ∷ []) (reader_at 2 phase.Inside true 24);
    }

-- Change request 2026-06, "23 total owed too early, at entry 2, after 13": a last of 20 bytes and a skip of 44, after a start of 24. State
-- and rows stay.
abbrev pub owed_early : Case
owed_early =
    record {
      given = reading (image 1 2 start_group ∷ image 2 2 (from 25 20 ++ zeros 4 ++ (0x80 ∷ 0 ∷ 0 ∷ 44 ∷ 0x60 ∷ 0 ∷ 0 ∷ 20 ∷ []) ++ information) ∷ []);
      expected = readings (filling start_rows ∷ refusing 23 2 2 ∷ []) inside_reader;
    }

-- The same group with a skip of 45: its count is wrong, which comes first.
abbrev pub owed_early_miscounted : Case
owed_early_miscounted =
    record {
      given = reading (image 1 2 start_group ∷ image 2 2 (from 25 20 ++ zeros 4 ++ (0x80 ∷ 0 ∷ 0 ∷ 45 ∷ 0x60 ∷ 0 ∷ 0 ∷ 20 ∷ []) ++ information) ∷ []);
      expected = readings (filling start_rows ∷ refusing 13 2 2 ∷ []) inside_reader;
    }

-- "skip counts 40 to 43": a last that fills its group beside a skip of 40, and its total in the next. P5 has the skip of 43.
abbrev pub owed_beside_forty : Case
owed_beside_forty =
    record {
      given =
          reading
          (image 1 2 start_group
          ∷ image 2 2 (from 25 24 ++ (0x80 ∷ 0 ∷ 0 ∷ 40 ∷ 0x60 ∷ 0 ∷ 0 ∷ 24 ∷ []) ++ information)
          ∷ image 3 2 (zeros 24 ++ (0x80 ∷ 0 ∷ 0 ∷ 64 ∷ 0x01 ∷ 0 ∷ 0 ∷ 48 ∷ []) ++ information)
          ∷ []);
      expected =
          readings (filling start_rows ∷ filling (5 ∷ 0 ∷ 24 ∷ 7 ∷ 24 ∷ 40 ∷ []) ∷ filling (1 ∷ 0 ∷ 48 ∷ 7 ∷ 0 ∷ 64 ∷ []) ∷ [])
          (free_reader 4);
    }

unfoldable pub bench_table : List Case
bench_table =
    p1 ∷ p2 ∷ p3 ∷ p4 ∷ p5 ∷ p6 ∷ p7 ∷ p8 ∷ p9 ∷ p10 ∷ p11 ∷ p12 ∷ b4_onward ∷ b4_of_an_owed_total ∷ b4_went_out
    ∷ owed_early ∷ owed_early_miscounted ∷ owed_beside_forty ∷ []
