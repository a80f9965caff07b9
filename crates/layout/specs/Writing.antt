-- What a caller has written, from its calls, their answers and the phase it sees before each: nothing here speaks of layouts.
-- Assumes nothing.
use Rattle.std.specs.Prelude.{ℕ, ◌-◌, List, [], ◌∷◌, ◌++◌, ◌≡◌, length, take, drop}
use Rattle.laying.specs.Start.{writer_start_call}
use Rattle.group.specs.declared.Phase.{Phase}
use Rattle.group.specs.declared.Phase.TheVariants.{Free, Inside, Owed}
use Rattle.group.specs.Sizes.{information_length}
use Rattle.laying.specs.declared.Writer.{Writer}
use Rattle.laying.specs.WriterStart as start
use Rattle.writer.specs.WriteAnswer.{WriteAnswer}
use Rattle.writer.specs.WriteAnswer.{Finished, Closed, Refused}
use Rattle.laying.specs.Laying.{Desk, desk}
use Rattle.writer.specs.Calls.{Call, call}
use Rattle.writer.specs.Calls.Call.{a_record, a_separator, an_end}
use Rattle.layout.specs.Items.{Item}
use Rattle.layout.specs.Items.Item.{record_item, separator_item}
use Rattle.layout.specs.Layout.{Image}

-- The caller's account: items finished, bytes taken so far of a record not finished, and its bytes still asked for.
pub record Account : Type 0 where
  pub finished : List Item
  pub begun : List ℕ
  pub asked : List ℕ

unfoldable pub blank : Account
blank = record { finished = []; begun = []; asked = [] }

-- "An owed total is laid first by the next accepted call", and finishes the record.
unfoldable pub total_laid : Phase → Account → Account
total_laid Free a = a
total_laid Inside a = a
total_laid Owed a = record { finished = a.finished ++ (record_item a.begun ∷ []); begun = []; asked = [] }

-- The record in hand at an offer: inside, the one that is open; otherwise the one that is offered.
unfoldable pub in_hand : Phase → List ℕ → Account → Account
in_hand Free bytes a = record { finished = a.finished; begun = []; asked = bytes }
in_hand Inside bytes a = a
in_hand Owed bytes a = record { finished = a.finished ++ (record_item a.begun ∷ []); begun = []; asked = bytes }

-- A record that a call finished is an item; of one that it closed on, the bytes taken are begun and the others asked for.
unfoldable pub after_record : WriteAnswer → Account → Account
after_record (Finished s) a = record { finished = a.finished ++ (record_item (a.begun ++ a.asked) ∷ []); begun = []; asked = [] }
after_record (Closed s number entries taken) a =
    record { finished = a.finished; begun = a.begun ++ take taken a.asked; asked = drop taken a.asked }
after_record (Refused s refusal) a = a

-- A separator is laid where its call finished: "else skip, close, not laid".
unfoldable pub after_separator : ℕ → WriteAnswer → Account → Account
after_separator value (Finished s) a = record { finished = a.finished ++ (separator_item value ∷ []); begun = []; asked = [] }
after_separator value (Closed s number entries taken) a = a
after_separator value (Refused s refusal) a = a

-- The account after an accepted call, made at a phase.
unfoldable pub noted : Call → Phase → WriteAnswer → Account → Account
noted (a_record bytes warn) phase answer a = after_record answer (in_hand phase bytes a)
noted (a_separator value warn) phase answer a = after_separator value answer (total_laid phase a)
noted (an_end warn) phase answer a = total_laid phase a

-- "The caller offers exactly the rest": inside a record an offer is what is still asked for.
abbrev pub AsAsked : Call → Phase → Account → Type 0
AsAsked (a_record bytes warn) Free a = Unit {0}
AsAsked (a_record bytes warn) Inside a = bytes ≡ a.asked
AsAsked (a_record bytes warn) Owed a = Unit {0}
AsAsked (a_separator value warn) phase a = Unit {0}
AsAsked (an_end warn) phase a = Unit {0}

-- "We neither read nor write those 32 bytes": a group with these last 32 bytes, the firmware's.
abbrev pub with_information : (group information : List ℕ) → List ℕ
with_information group information = take (length group - information_length) group ++ information

-- A group as it was closed.
unfoldable pub image_of : (number entries : ℕ) (group information : List ℕ) → Image
image_of number entries group information = record { number = number; entries = entries; bytes = with_information group information }

-- From the start call's own answer: the desk as it is now, the run closed so far, the account at the last close, and the
-- account now. A call that finishes its work leaves the desk to the next call, and one that is refused leaves it as it was, whatever
-- buffer it was lent. Between calls the firmware may change the group's last 32 bytes. After a close the next call may come with any
-- buffer of the right length.
pub data Wrote (size first : ℕ) : Desk → List Image → Account → Account → Type 0 where
  begins : {s : Writer} {g : List ℕ} → writer_start_call size first ≡ start.Started s → length g ≡ size → Wrote size first (desk s g) [] blank blank
  goes_on : {w : Desk} {s : Writer} {run : List Image} {closed now : Account} (c : Call) → Wrote size first w run closed now →
      AsAsked c w.state.phase now → (call c w).answer ≡ Finished s →
      Wrote size first (desk s (call c w).group) run closed (noted c w.state.phase (Finished s) now)
  closes : {w : Desk} {s : Writer} {number entries taken : ℕ} {run : List Image} {closed now : Account} (c : Call) (information g : List ℕ) →
      Wrote size first w run closed now → AsAsked c w.state.phase now → (call c w).answer ≡ Closed s number entries taken →
      length information ≡ information_length → length g ≡ size →
      Wrote size first (desk s g) (run ++ (image_of number entries (call c w).group information ∷ []))
      (noted c w.state.phase (Closed s number entries taken) now) (noted c w.state.phase (Closed s number entries taken) now)
  refused : {w : Desk} {s : Writer} {refusal : ℕ} {run : List Image} {closed now : Account} (c : Call) (lent : List ℕ) →
      Wrote size first w run closed now → (call c (desk w.state lent)).answer ≡ Refused s refusal → Wrote size first (desk s w.group) run closed now
  changed : {w : Desk} {run : List Image} {closed now : Account} (information : List ℕ) → Wrote size first w run closed now →
      length information ≡ information_length → Wrote size first (desk w.state (with_information w.group information)) run closed now

-- "End": whether a call is one.
abbrev pub IsEnd : Call → Type 0
IsEnd (a_record bytes warn) = ⊥
IsEnd (a_separator value warn) = ⊥
IsEnd (an_end warn) = Unit {0}

-- A run that was ended: the last call that was accepted is an end.
unfoldable pub WasEnded : {size first : ℕ} {w : Desk} {run : List Image} {closed now : Account} → Wrote size first w run closed now → Type 0
WasEnded (begins e l) = ⊥
WasEnded (goes_on c x asked e) = IsEnd c
WasEnded (closes c information g x asked e i l) = IsEnd c
WasEnded (refused c lent x e) = WasEnded x
WasEnded (changed information x i) = WasEnded x
