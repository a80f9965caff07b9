-- What the theorems of a writer state where it is more than one fact: a run that gives an account back, alone or among repeats, a
-- run that was ended, and where the totals stand of records that span groups.
-- Assumes nothing.
use Rattle.std.specs.Prelude.{ℕ, ◌≤◌, List, [], ◌∷◌, ◌++◌, ◌≡◌, length}
use Rattle.group.specs.declared.Phase.TheVariants as phase
use Rattle.reader.specs.declared.Reader.{Reader}
use Rattle.reader.specs.ReaderStart as start
use Rattle.reader.specs.Answer.{reader_start_call}
use Rattle.laying.specs.Laying.{Desk}
use Rattle.layout.specs.Items.{Piece}
use Rattle.layout.specs.Items.Piece.{a_total, a_last}
use Rattle.layout.specs.Layout.{Image, Run}
use Rattle.layout.specs.Repeats.{without_repeats}
use Rattle.layout.specs.Accepting.{Lent}
use Rattle.layout.specs.Reading.{begun_after, items_read, begun_read}
use Rattle.layout.specs.Stated.{AcceptedWith, ThroughWith}
use Rattle.layout.specs.Writing.{Account}

-- A run that is accepted from the reader's own start, by reads which are lent just these row buffers, and the rows that they
-- are left with give back an account: the items finished, and the bytes so far of the record that is not.
pub record GivesBack (size first : ℕ) (run : List Image) (lent : List (List ℕ)) (a : Account) : Type 0 where
  pub reader : Reader
  pub starts : reader_start_call size first ≡ start.Started reader
  pub accepted : AcceptedWith reader run lent a.begun
  pub items : items_read run accepted.rows ≡ a.finished
  pub begun : begun_read run accepted.rows ≡ a.begun

-- The same of a run that is handed in with repeats: it is accepted to its end, and the rows of its groups, the repeats taken out,
-- give back the account.
pub record GivesBackAmong (size first : ℕ) (handed : List Image) (lent : List (List ℕ)) (a : Account) : Type 0 where
  pub reader : Reader
  pub starts : reader_start_call size first ≡ start.Started reader
  pub through : ThroughWith reader handed lent a.begun
  pub items : items_read (without_repeats handed) through.rows ≡ a.finished
  pub begun : begun_read (without_repeats handed) through.rows ≡ a.begun

-- After an end: no entry stands in the group and no record is open, the account at the last close is the account now, and the
-- groups closed give all of it back.
pub record AllClosed (size first : ℕ) (w : Desk) (run : List Image) (closed now : Account) : Type 0 where
  pub none : w.state.entries ≡ 0
  pub free : w.state.phase ≡ phase.Free
  pub all : closed ≡ now
  pub whole : now.begun ≡ []
  pub gives_back : (lent : List (List ℕ)) → Lent run lent → GivesBack size first run lent now

-- The bytes so far of the record that is open after these groups.
unfoldable pub begun_in : List ℕ → List (List Piece) → List ℕ
begun_in begun [] = begun
begun_in begun (ps ∷ gs) = begun_in (begun_after begun ps) gs

-- After a record's last part, where `whole` is all the record's bytes: by the pieces that follow in its group, and the groups that
-- follow. "After last: total, or skip. With skip the total is owed." "Total owed at a group's beginning: total only." "A total
-- equals the sum of its parts." Or the run ends, and the caller has all the bytes as begun and none to offer.
pub data TotalStands (closed : Account) (whole : List ℕ) : List Piece → List (List Piece) → Type 0 where
  in-its-group : {n : ℕ} {right : List Piece} {after : List (List Piece)} → n ≡ length whole → TotalStands closed whole (a_total n ∷ right) after
  first_in_next : {n : ℕ} {right : List Piece} {after : List (List Piece)} → n ≡ length whole → TotalStands closed whole [] ((a_total n ∷ right) ∷ after)
  still_owed : closed.begun ≡ whole → closed.asked ≡ [] → TotalStands closed whole [] []

-- The groups end with a last part.
pub record EndInLast (groups : List (List Piece)) : Type 0 where
  pub before : List (List Piece)
  pub left : List Piece
  pub last_part : List ℕ
  pub ends : groups ≡ before ++ ((left ++ (a_last last_part ∷ [])) ∷ [])

-- A run that a writer closed, as the pieces of its groups, with the caller's account at its last close: wherever a last part
-- stands in it, its total is where it must be; and a record not finished whose bytes were all taken has its last part at the
-- run's end.
pub record TotalsKept (size first : ℕ) (run : List Image) (closed : Account) : Type 0 where
  pub groups : List (List Piece)
  pub plain : ℕ
  pub images : Run size plain first groups run
  pub total : (before after : List (List Piece)) (left right : List Piece) (q : List ℕ) → groups ≡ before ++ ((left ++ (a_last q ∷ right)) ∷ after) →
      TotalStands closed (begun_after (begun_in [] before) left ++ q) right after
  pub all_taken : 1 ≤ length closed.begun → closed.asked ≡ [] → EndInLast groups
