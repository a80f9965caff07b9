-- Document 01, "Numbers the firmware sees": the rules of each call in their order, each with the number of its refusal, and what it
-- is to be the first that is broken.
-- Assumes nothing.
use Rattle.std.specs.Prelude.{ℕ, ◌+◌, ◌*◌, List, [], ◌∷◌, Bool, true, false, not, ◌&&◌, ◌||◌, ◌≡◌, eqb, leb, length}
use Rattle.reader.specs.declared.Reader.{Reader}
use Rattle.reader.specs.ReadAnswer as answer
use Rattle.reader.specs.Answer.{sound, read_call}
use Rattle.laying.specs.Laying.{Desk}
use Rattle.sound.specs.State.{is_inside, is_owed, writer_sound}
use Rattle.writer.specs.Calls.{Call}
use Rattle.writer.specs.Calls.Call.{a_record, a_separator, an_end}

-- The first of some rules that does not hold, every rule before it holding: its number, 0 where all hold.
pub data FirstBroken : List (ℕ × Bool) → ℕ → Type 0 where
  all_hold : FirstBroken [] 0
  broken : {n : ℕ} {rules : List (ℕ × Bool)} → FirstBroken ((n, false) ∷ rules) n
  holds : {n refusal : ℕ} {rules : List (ℕ × Bool)} → FirstBroken rules refusal → FirstBroken ((n, true) ∷ rules) refusal

-- "start 2, 3"
abbrev pub start_rules : (size first : ℕ) → List (ℕ × Bool)
start_rules size first = (2, leb 64 size && leb size 126632) ∷ (3, leb 1 first && leb first 65535) ∷ []

-- "Read 1, 4, 5, 6, 7, then entry by entry"
abbrev pub read_rules : Reader → (len number n room : ℕ) → List (ℕ × Bool)
read_rules s len number n room =
    (1, sound s) ∷ (4, eqb len s.size) ∷ (5, eqb number s.next && leb number 65535)
    ∷ (6, leb 1 n && leb (32 + 4 * n) s.size) ∷ (7, leb (3 * n) room) ∷ []

-- "Record 1, 4, 14, 15, 16. Separator 1, 4, 14, 17, 18. End 1, 4, 17, 14, where 14 is given only if a total is owed."
abbrev pub call_rules : Call → Desk → List (ℕ × Bool)
call_rules (a_record bytes warn) w =
    (1, writer_sound w.state) ∷ (4, eqb (length w.group) w.state.size) ∷ (14, leb w.state.next 65535)
    ∷ (15, leb 1 (length bytes) && leb (length bytes) 16777215) ∷ (16, not (is_inside w.state.phase) || eqb (length bytes) w.state.rest) ∷ []
call_rules (a_separator value warn) w =
    (1, writer_sound w.state) ∷ (4, eqb (length w.group) w.state.size) ∷ (14, leb w.state.next 65535)
    ∷ (17, not (is_inside w.state.phase)) ∷ (18, leb value 1) ∷ []
call_rules (an_end warn) w =
    (1, writer_sound w.state) ∷ (4, eqb (length w.group) w.state.size) ∷ (17, not (is_inside w.state.phase))
    ∷ (14, not (is_owed w.state.phase) || leb w.state.next 65535) ∷ []

-- 2026-05: "A group with the number of the last accepted group of this run", where there is one.
abbrev pub last_accepted : Reader → ℕ → Bool
last_accepted s number = s.accepted && eqb (number + 1) s.next

-- A read before its scan: where one of its rules is broken, it answers the first, place 0 and the state as given. A repeat is
-- "decided after 4, before 5": where 1 and 4 hold, and 5 would be broken, whatever n and the rows are.
pub record BeforeScan (s : Reader) (group : List ℕ) (number n room : ℕ) : Type 0 where
  pub refusal : ℕ
  pub first : FirstBroken (read_rules s (length group) number n room) refusal
  pub repeated : refusal ≡ 5 → last_accepted s number ≡ true → read_call s group number n room ≡ answer.Repeated s
  pub answered : (refusal ≡ 0 → ⊥) → (refusal ≡ 5 → last_accepted s number ≡ false) → read_call s group number n room ≡ answer.Refused s refusal 0
