-- What each way of an explanation tells: a repeat, a refusal before the scan, a scan that reached its end, one that stopped.
-- Assumes nothing.
use Prim.Native.Nat.{ℕ, ◌/◌}
use mathlib.Core.Path.{◌≡◌, refl}
use mathlib.Core.Bool.{true, false}
use mathlib.Core.List.{List}
use native.Mathlib.Omega.{arith}
use lib.ListN.{length}
use borrow.Author.Tests.{ne_eqb}
use Rattle.group.specs.declared.Entry.{Entry}
use Rattle.group.specs.Sizes.{entry_offset}
use Rattle.group.specs.Entries.{entry_at}
use Rattle.std.specs.Prelude.{Result, Ok, Err, Some, None}
use Rattle.std.specs.Result.{result_err}
use Rattle.answer.specs.Numbers.{refusal_number}
use Rattle.entry.specs.declared.Cursor.{Cursor}
use Rattle.entry.specs.declared.Stop.{Stop}
use Rattle.entry.specs.ScanEnd.{ScanEnd, end_of}
use Rattle.reader.specs.declared.Reader.{Reader}
use Rattle.reader.specs.Answer.{is_repeat, read_refusal, group_scan}
use Rattle.reader.proofs.Accepted.{never_repeat}
use Rattle.reasons.specs.declared.Reason.{Reason}
use Rattle.reasons.specs.Reasons.{call_reason, entry_reason, stop}
use Rattle.explain.specs.Explanation.{explanation, no_refusal, scan_explained, explained}

module _ (s : Reader) (group : List ℕ) (number n bytes : ℕ) where
  pub told_repeat : is_repeat s (length group) number ≡ true → no_refusal ≡ explained s group number n bytes
  unfolding explained
  told_repeat e = rw e

  pub told_before : (r : ℕ) (why : Reason) → r ≡ read_refusal s (length group) number n (bytes / 4) → (r ≡ 0 → ⊥) → is_repeat s (length group) number ≡ false
      → why ≡ call_reason r s.size s.next (length group) number n bytes → explanation r 0 0 why ≡ explained s group number n bytes
  unfolding explained
  told_before r why e h x w = rw (x, w, ← e, ne_eqb r 0 h)

  pub told_scan : 0 ≡ read_refusal s (length group) number n (bytes / 4) → (end : ScanEnd) → end ≡ group_scan s group n → scan_explained s.size n group end ≡ explained s group number n bytes
  unfolding explained
  told_scan e end f = rw (never_repeat s (length group) number n (bytes / 4) 0 e (λ z. omega arith), ← e, f)

-- What a result of the scan tells that is no error, and one that is.
pub told_end : (size n : ℕ) (group : List ℕ) (r : Result Cursor Stop) → None ≡ result_err r → no_refusal ≡ scan_explained size n group (end_of r)
told_end size n group (Ok c) e = refl
told_end size n group (Err s) e = cc

pub told_stop : (size n : ℕ) (group : List ℕ) (r : Result Cursor Stop) (at : Stop) → Some at ≡ result_err r
    → (offset : ℕ) → offset ≡ entry_offset size at.place → (e : Entry) → e ≡ entry_at group offset → (why : Reason) → why ≡ entry_reason (refusal_number at.refusal) (stop size n at.place at.here) e
    → explanation (refusal_number at.refusal) at.place offset why ≡ scan_explained size n group (end_of r)
told_stop size n group (Ok c) at h offset o x is why w = cc
told_stop size n group (Err s) at h offset o x is why w = let same : at ≡ s = cc in rw (w, is, o, same)
