-- Change request 2026-07: "The reason must be proved true: the rule is broken there by those numbers and every earlier rule holds." When
-- an explanation is true, with no word of how it is found.
-- Assumes nothing.
use Rattle.std.specs.Prelude.{ℕ, suc, ◌-◌, ◌/◌, ◌≤◌, List, [], ◌∷◌, ◌++◌, true, false, ◌≡◌, length}
use Rattle.group.specs.declared.Entry.{Entry}
use Rattle.group.specs.Sizes.{information_length, entries_kept, entry_offset}
use Rattle.group.specs.Flags.{meaning_of}
use Rattle.group.specs.Entries.{entries_below}
use Rattle.entry.specs.declared.Cursor.{Cursor}
use Rattle.entry.specs.Scan.{after, is_last}
use Rattle.answer.specs.Answer.{Told}
use Rattle.answer.specs.Answer.{Accepted, RefusedAt}
use Rattle.reader.specs.declared.Reader.{Reader}
use Rattle.reader.specs.ReadAnswer as answer
use Rattle.reader.specs.Answer.{sound, length_kept, repeats, is_repeat, next_is, rows_fit, opening, read_call}
use Rattle.reasons.specs.declared.Reason.{Reason}
use Rattle.explain.specs.Explanation.{Explanation}
use Rattle.reasons.specs.Rules.{Rule, Stop, in_order, rule_number, keeps}
use Rattle.reasons.specs.Reasons.{reason, no_reason, largest}
use Rattle.reasons.specs.Truth.{allowed, found_at, BrokenBy, AllowedBy}
use Rattle.explain.specs.Explanation.{explanation, no_refusal}

-- An entry keeps each of some rules.
pub data Keeps (at : Stop) (e : Entry) : List Rule → Type 0 where
  keeps_none : Keeps at e []
  keeps_more : {rule : Rule} {rules : List Rule} → keeps rule at (meaning_of e.flag) e.count ≡ true → Keeps at e rules → Keeps at e (rule ∷ rules)

-- An entry breaks a rule by these numbers, of which the one found is its own, and keeps every rule that comes before it in the order.
pub record Breaks (at : Stop) (e : Entry) (rule : Rule) (r : Reason) : Type 0 where
  pub earlier : List Rule
  pub later : List Rule
  pub ordered : in_order ≡ earlier ++ (rule ∷ later)
  pub kept : Keeps at e earlier
  pub broken : keeps rule at (meaning_of e.flag) e.count ≡ false
  pub found : r.found ≡ found_at rule at e
  pub numbers : BrokenBy rule r
  pub allows : AllowedBy rule at (meaning_of e.flag) r

abbrev pub stop_at : (size limit : ℕ) (behind : List Entry) → Cursor → Stop
stop_at size limit behind c = record { size = size; limit = limit; last = is_last behind; here = c }

-- "the scan stopping at the first entry that breaks a rule": every entry before it keeps every rule.
pub data Stops (size limit : ℕ) : List Entry → (place : ℕ) → Cursor → Explanation → Type 0 where
  stops_here : {e : Entry} {es : List Entry} {place : ℕ} {c : Cursor} {rule : Rule} {r : Reason} → Breaks (stop_at size limit es c) e rule r →
      Stops size limit (e ∷ es) place c (explanation (rule_number rule) place (entry_offset size place) r)
  stops_later : {e : Entry} {es : List Entry} {place : ℕ} {c : Cursor} {x : Explanation} → Keeps (stop_at size limit es c) e in_order →
      Stops size limit es (suc place) (after c (meaning_of e.flag) e.count) x → Stops size limit (e ∷ es) place c x

-- What an explanation must be, to be true of a read. "Read 1, 4, 5, 6, 7, then entry by entry from 1"; a repeat is "decided after 4,
-- before 5".
pub data True (s : Reader) (group : List ℕ) (number n bytes : ℕ) : Explanation → Type 0 where
  accepted : {t : Reader} → read_call s group number n (bytes / 4) ≡ answer.Accepted t → True s group number n bytes no_refusal
  a_repeat : is_repeat s (length group) number ≡ true → True s group number n bytes no_refusal
  unsound : sound s ≡ false → True s group number n bytes (explanation 1 0 0 no_reason)
  wrong_length : {r : Reason} → sound s ≡ true → r ≡ reason (length group) s.size s.size 0 → allowed r (length group) ≡ false →
      True s group number n bytes (explanation 4 0 0 r)
  not_next : {r : Reason} → sound s ≡ true → length_kept s (length group) ≡ true → repeats s number ≡ false →
      r.found ≡ number → allowed r number ≡ false → ((x : ℕ) → allowed r x ≡ next_is s x) → True s group number n bytes (explanation 5 0 0 r)
  entries_out : {r : Reason} → sound s ≡ true → length_kept s (length group) ≡ true → next_is s number ≡ true →
      r.found ≡ n → allowed r n ≡ false → ((x : ℕ) → allowed r x ≡ entries_kept s.size x) → True s group number n bytes (explanation 6 0 0 r)
  rows_short : {r : Reason} → sound s ≡ true → length_kept s (length group) ≡ true → next_is s number ≡ true → entries_kept s.size n ≡ true →
      r.found ≡ bytes → allowed r bytes ≡ false → ((x : ℕ) → x ≤ largest → allowed r x ≡ rows_fit n (x / 4)) → True s group number n bytes (explanation 7 0 0 r)
  stopped : {x : Explanation} → sound s ≡ true → length_kept s (length group) ≡ true → next_is s number ≡ true → entries_kept s.size n ≡ true →
      rows_fit n (bytes / 4) ≡ true →
      Stops s.size (entry_offset s.size n) (entries_below group (s.size - information_length) n) 1 (opening s) x → True s group number n bytes x

-- "Refusals: those of reading, put into the explanation": the number and the place that reading tells; zeros where it tells none.
abbrev pub SameTold : Told → Explanation → Type 0
SameTold (Accepted outcome number entries taken) x = x ≡ no_refusal
SameTold (RefusedAt refusal place) x = (x.refusal ≡ refusal) × (x.place ≡ place)
