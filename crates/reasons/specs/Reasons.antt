-- Change request 2026-07: the numbers of a reason: what was found, the least and the greatest allowed, and the permitted kinds, for each
-- refusal of reading.
-- Assumes nothing.
use Rattle.std.specs.Prelude.{ℕ, ◌+◌, ◌*◌, ◌-◌, ◌/◌, ◌^◌, List, [], ◌∷◌, Bool, cond, eqb, leb}
use Rattle.group.specs.declared.Entry.{Entry}
use Rattle.group.specs.declared.Kind.{Kind}
use Rattle.group.specs.declared.Kind.TheVariants.{Total, Separator, Middle, Start, Last, Entire, Skip}
use Rattle.group.specs.Flags.{Meaning}
use Rattle.std.specs.Prelude.{Some, None}
use Rattle.group.specs.Sizes.{information_length, entry_length, longest_record, last_number, most_owing, entry_offset}
use Rattle.group.specs.Flags.{kind_number, kinds, meaning_of, b4_of}
use Rattle.entry.specs.declared.Cursor.{Cursor}
use Rattle.entry.specs.declared.Stand.{Stand}
use Rattle.entry.specs.Rules.{follow_kept}
use Rattle.reasons.specs.declared.Reason.{Reason}
use Rattle.reasons.specs.Rules.{Rule, Stop, in_order, rule_number}
use Rattle.reasons.specs.Rules.Rule.{flag_known, b4_stays, kind_follows, part_not_empty, separator_value, record_length, total_sum, data_within, skip_count, total_in_time}

-- "the number found, the least and the greatest allowed, and the permitted kinds"
abbrev pub reason : (found least greatest kinds : ℕ) → Reason
reason found least greatest kinds = record { found = found; least = least; greatest = greatest; kinds = kinds }

-- "Where a rule has no such number .. zeros stand."
abbrev pub no_reason : Reason
no_reason = reason 0 0 0 0

-- "value 2^(k − 1) for kind k, summed"
abbrev pub kind_value : Kind → ℕ
kind_value k = 2 ^ (kind_number k - 1)

abbrev pub summed : List Kind → (Kind → Bool) → ℕ
summed [] may = 0
summed (k ∷ ks) may = cond (may k) (kind_value k) 0 + summed ks may

-- Of the kinds that may stand there. "Permitted kinds heed the last place."
unfoldable pub permitted : Stand → (last : Bool) → ℕ
permitted stand last = summed kinds (λ (k : Kind). follow_kept stand k last)

-- "21 from 1 to what the sum leaves"
abbrev pub leaves : Kind → (sum : ℕ) → ℕ
leaves Total sum = 0
leaves Separator sum = 0
leaves Middle sum = longest_record - 1 - sum
leaves Start sum = longest_record - 1
leaves Last sum = longest_record - sum
leaves Entire sum = longest_record
leaves Skip sum = 0

-- A kind's number, and what the sum leaves it; of no kind, 0.
abbrev pub kind_found : Meaning → ℕ
kind_found None = 0
kind_found (Some (k, warned)) = kind_number k

abbrev pub leaves_it : Meaning → (sum : ℕ) → ℕ
leaves_it None sum = 0
leaves_it (Some (k, warned)) sum = leaves k sum

-- b4 as a number.
abbrev pub b4_found : Bool → ℕ
b4_found b4 = cond b4 1 0

-- "Found: for 8 the flag, 9 bit b4 (1 allowed), 10 the kind, 12 the data's end (from 0), else the .. count at fault." "Allowed: .. 19
-- from 1 to 16,777,215, 21 from 1 to what the sum leaves, 23 from 0 to 43."
abbrev pub reason_at : Rule → Stop → Entry → Reason
reason_at flag_known at e = reason e.flag 0 0 0
reason_at b4_stays at e = reason (b4_found (b4_of e.flag)) 1 1 0
reason_at kind_follows at e = reason (kind_found (meaning_of e.flag)) 0 0 (permitted at.here.stand at.last)
reason_at part_not_empty at e = reason e.count 1 longest_record 0
reason_at separator_value at e = reason e.count 0 1 0
reason_at record_length at e = reason e.count 1 (leaves_it (meaning_of e.flag) at.here.sum) 0
reason_at total_sum at e = reason e.count at.here.sum at.here.sum 0
reason_at data_within at e = reason (at.here.reached + e.count) 0 at.limit 0
reason_at skip_count at e = reason e.count (at.size - at.here.reached) (at.size - at.here.reached) 0
reason_at total_in_time at e = reason e.count 0 most_owing 0

-- The reason of a refusal at an entry, by its number.
abbrev pub reason_among : List Rule → (refusal : ℕ) → Stop → Entry → Reason
reason_among [] refusal at e = no_reason
reason_among (rule ∷ rules) refusal at e = cond (eqb refusal (rule_number rule)) (reason_at rule at e) (reason_among rules refusal at e)

unfoldable pub entry_reason : (refusal : ℕ) → Stop → Entry → Reason
entry_reason refusal at e = reason_among in_order refusal at e

-- "7 up to the largest 64-bit number"
abbrev pub largest : ℕ
largest = 18446744073709551615

-- The next number alone; "5 at 65,536 from 1 to 0".
abbrev pub next_reason : (next number : ℕ) → Reason
next_reason next number = cond (leb next last_number) (reason number next next 0) (reason number 1 0 0)

-- The reason of a refusal before the scan, by its number: "else the length, number or count at fault". `bytes` is the length of the row
-- slice, which has room for a fourth as many numbers, and wants twelve bytes an entry.
unfoldable pub call_reason : (refusal size next length number n bytes : ℕ) → Reason
call_reason refusal size next length number n bytes =
    cond (eqb refusal 4) (reason length size size 0)
    (cond (eqb refusal 5) (next_reason next number)
    (cond (eqb refusal 6) (reason n 1 ((size - information_length) / entry_length) 0)
    (cond (eqb refusal 7) (reason bytes (12 * n) largest 0) no_reason)))

-- Where entry `place` of n stands when the scan has come to `here`.
abbrev pub stop : (size n place : ℕ) → Cursor → Stop
stop size n place here = record { size = size; limit = entry_offset size n; last = eqb place n; here = here }
