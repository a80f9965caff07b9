-- Change request 2026-07: "It fills seven 8-byte numbers": the explanation of a read, for every input.
-- Assumes nothing.
use Rattle.std.specs.Prelude.{Option, Some, None, ℕ, ◌/◌, List, cond, eqb, length}
use Rattle.group.specs.Sizes.{entry_offset}
use Rattle.group.specs.Entries.{entry_at}
use Rattle.entry.specs.ScanEnd.{ScanEnd}
use Rattle.entry.specs.ScanEnd.{Reached, Refused}
use Rattle.reader.specs.declared.Reader.{Reader}
use Rattle.reader.specs.Answer.{is_repeat, read_refusal, group_scan}
use Rattle.reasons.specs.declared.Reason.{Reason}
use Rattle.reasons.specs.Reasons.{no_reason, entry_reason, call_reason, stop}
use Rattle.answer.specs.Numbers.{refusal_number}
use Rattle.explain.specs.declared.Explanation as declared

-- "the refusal (0 if accepted), the place, the byte offset of that entry", and why.
pub record Explanation : Type 0 where
  pub refusal : ℕ
  pub place : ℕ
  pub offset : ℕ
  pub why : Reason

abbrev pub explanation : (refusal place offset : ℕ) → Reason → Explanation
explanation refusal place offset why = record { refusal = refusal; place = place; offset = offset; why = why }

-- "0 if accepted", "and for a repeat, zeros stand".
abbrev pub no_refusal : Explanation
no_refusal = explanation 0 0 0 no_reason

-- What a result of the code says.
abbrev pub explanation_of : Option declared.Explanation → Explanation
explanation_of None = no_refusal
explanation_of (Some x) = explanation (refusal_number x.refusal) x.place x.offset x.why

abbrev pub scan_explained : (size n : ℕ) (group : List ℕ) → ScanEnd → Explanation
scan_explained size n group (Reached c) = no_refusal
scan_explained size n group (Refused refusal place c) =
    explanation refusal place (entry_offset size place) (entry_reason refusal (stop size n place c) (entry_at group (entry_offset size place)))

-- "Refusals: those of reading, put into the explanation": of a read that is lent `bytes` bytes of rows.
unfoldable pub explained : Reader → (group : List ℕ) (number n bytes : ℕ) → Explanation
explained s group number n bytes =
    let refusal = read_refusal s (length group) number n (bytes / 4) in
    cond (is_repeat s (length group) number) no_refusal
    (cond (eqb refusal 0) (scan_explained s.size n group (group_scan s group n))
    (explanation refusal 0 0 (call_reason refusal s.size s.next (length group) number n bytes)))
