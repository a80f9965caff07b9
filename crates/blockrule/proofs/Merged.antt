-- The profile's scan is the plain one, but where a record of another length comes before the place at which that one stops.
-- Assumes nothing.
use Prim.Native.Nat.{ℕ, suc, ◌≤◌, ◌<◌}
use native.Mathlib.Omega.{arith}
use mathlib.Core.Path.{◌≡◌, refl}
use Rattle.std.specs.Prelude.{Option, Some, None}
use mathlib.Core.List.{List, [], ◌∷◌}
use mathlib.Core.Bool.{Bool, true, false, cond, not}
use lib.Dec.{eqb, leb}
use borrow.Author.Tests.{le-leb, lt-leb}
use Rattle.group.specs.declared.Entry.{Entry}
use Rattle.group.specs.Flags.{meaning_of}
use Rattle.entry.specs.declared.Cursor.{Cursor}
use Rattle.entry.specs.ScanEnd.{ScanEnd}
use Rattle.entry.specs.ScanEnd.{Reached, Refused}
use Rattle.entry.specs.Rules.{entry_fault}
use Rattle.entry.specs.Scan.{after, is_last, scan}
use Rattle.blockrule.specs.Rule.{block_kept, block_scan}
use Rattle.blockrule.specs.Bounds.{other_at}

-- Whether a scan has stopped at this place or before it.
abbrev pub stopped_by : (place : ℕ) → ScanEnd → Bool
stopped_by place (Reached c) = false
stopped_by place (Refused fault at c) = leb at place

-- The profile's end beside the plain one, by the place of the first entry of another length.
pub data Beside (plain : ScanEnd) : Option ℕ → ScanEnd → Type 0 where
  none_other : Beside plain None plain
  stopped_before : {place : ℕ} → stopped_by place plain ≡ true → Beside plain (Some place) plain
  other_first : {place : ℕ} {c : Cursor} → stopped_by place plain ≡ false → Beside plain (Some place) (Refused 51 place c)

-- A scan that begins behind a place does not stop by it.
stops_later : (size limit : ℕ) (es : List Entry) (place from : ℕ) (c : Cursor) → place < from → stopped_by place (scan size limit es from c) ≡ false
unfolding scan
stops_later size limit [] place from c h = refl
stops_later size limit (e ∷ es) place from c h =
    by (eqb (entry_fault size limit (is_last es) c (meaning_of e.flag) e.count) 0) _ _ (stops_later size limit es place (suc from) (after c (meaning_of e.flag) e.count) (omega arith))
  where
    by : (b : Bool) (rest : ScanEnd) (fault : ℕ) → stopped_by place rest ≡ false → stopped_by place (cond b rest (Refused fault from c)) ≡ false
    by true rest fault x = x
    by false rest fault x = lt-leb from place h

-- A place at this one or behind it, if there is one.
data From (place : ℕ) : Option ℕ → Type 0 where
  nowhere : From place None
  behind : {k : ℕ} → place ≤ k → From place (Some k)

-- So is the first entry of another length.
from_first : (block : ℕ) (es : List Entry) (place : ℕ) → From place (other_at block es place)
unfolding other_at
from_first block [] place = nowhere
from_first block (e ∷ es) place = by (block_kept block (meaning_of e.flag) e.count) (from_first block es (suc place))
  where
    by : (b : Bool) {other : Option ℕ} → From (suc place) other → From place (cond b other (Some place))
    by true nowhere = nowhere
    by true (behind h) = behind (omega arith)
    by false x = behind (omega arith)

pub merged : (block size limit : ℕ) (es : List Entry) (place : ℕ) (c : Cursor) →
    Beside (scan size limit es place c) (other_at block es place) (block_scan block size limit es place c)
unfolding scan block_scan other_at
merged block size limit [] place c = none_other
merged block size limit (e ∷ es) place c =
    by (entry_fault size limit (is_last es) c (meaning_of e.flag) e.count) (eqb (entry_fault size limit (is_last es) c (meaning_of e.flag) e.count) 0) refl (block_kept block (meaning_of e.flag) e.count) (from_first block es (suc place))
    (stops_later size limit es place (suc place) (after c (meaning_of e.flag) e.count) (omega arith))
    (merged block size limit es (suc place) (after c (meaning_of e.flag) e.count))
  where
    at_once : (fault : ℕ) {other : Option ℕ} → From (suc place) other → Beside (Refused fault place c) other (Refused fault place c)
    at_once fault nowhere = none_other
    at_once fault (behind {k = k} h) = stopped_before (le-leb place k (omega arith))

    by : (fault : ℕ) {other : Option ℕ} {plain profile : ScanEnd} (t : Bool) → eqb fault 0 ≡ t → (kept : Bool) → From (suc place) other → stopped_by place plain ≡ false → Beside plain other profile →
        Beside (cond t plain (Refused fault place c)) (cond kept other (Some place))
        (cond (eqb (cond t (cond (not kept) 51 0) fault) 0) profile (Refused (cond t (cond (not kept) 51 0) fault) place c))
    by fault true x true from later rest = rest
    by fault true x false from later rest = other_first later
    by fault false x true from later rest = rw x (at_once fault from)
    by fault false x false from later rest = rw x (stopped_before (le-leb place place (omega arith)))
