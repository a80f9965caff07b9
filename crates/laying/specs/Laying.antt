-- Document 01, "Writing": what a call lays in the group, step by step, and how a group is closed.
-- Assumes nothing.
use Rattle.std.specs.Prelude.{ℕ, ◌+◌, ◌-◌, List, Bool, ◌||◌, length, replicate}
use Rattle.numbers.specs.Store.{put}
use Rattle.group.specs.declared.Kind.{Kind}
use Rattle.group.specs.declared.Kind.TheVariants.{Total, Skip}
use Rattle.group.specs.declared.Phase.{Phase}
use Rattle.group.specs.declared.Phase.TheVariants.{Free, Inside, Owed}
use Rattle.group.specs.Sizes.{entry_offset}
use Rattle.group.specs.Flags.{flag_of}
use Rattle.group.specs.Entries.{entry, entry_bytes}
use Rattle.laying.specs.declared.Writer.{Writer}

-- A writer's state and the group buffer that it is lent.
pub record Desk : Type 0 where
  pub state : Writer
  pub group : List ℕ

-- A desk of the two.
abbrev pub desk : Writer → List ℕ → Desk
desk s g = record { state = s; group = g }

-- The state with other "data bytes d, entries e".
abbrev pub holding : (d e : ℕ) → Writer → Writer
holding d e s =
    record {
      size = s.size;
      next = s.next;
      phase = s.phase;
      warned = s.warned;
      sum = s.sum;
      rest = s.rest;
      filled = d;
      entries = e;
    }

-- The state with another phase, "sum of parts so far" and "rest of an open record".
abbrev pub moved_state : Phase → (sum rest : ℕ) → Writer → Writer
moved_state phase sum rest s =
    record {
      size = s.size;
      next = s.next;
      phase = phase;
      warned = s.warned;
      sum = sum;
      rest = rest;
      filled = s.filled;
      entries = s.entries;
    }

-- "A call may set b4"; it then stays set: "a close no longer clears it".
unfoldable pub warn_state : Bool → Writer → Writer
warn_state warn s =
    record {
      size = s.size;
      next = s.next;
      phase = s.phase;
      warned = warn || s.warned;
      sum = s.sum;
      rest = s.rest;
      filled = s.filled;
      entries = s.entries;
    }

-- After a close d and e begin anew, b4 stays as it is, "and the number is one higher".
abbrev pub next_state : Writer → Writer
next_state s =
    record {
      size = s.size;
      next = s.next + 1;
      phase = s.phase;
      warned = s.warned;
      sum = s.sum;
      rest = s.rest;
      filled = 0;
      entries = 0;
    }

-- "Entry k (k from 1) is the four bytes from L − 32 − 4k": one entry more, below those that stand.
unfoldable pub lay_entry : Kind → ℕ → Desk → Desk
lay_entry kind count w =
    let s = w.state in
    let k = s.entries + 1 in
    desk (holding s.filled k s)
    (put w.group (entry_offset s.size k) (entry_bytes (entry (flag_of kind s.warned) count)))

-- "User data stands from offset 0 upward without holes": data after the data that stands.
unfoldable pub lay_data : List ℕ → Desk → Desk
lay_data bytes w =
    let s = w.state in
    desk (holding (s.filled + length bytes) s.entries s) (put w.group s.filled bytes)

-- "Counts of kinds 3 to 6": data, and its entry.
unfoldable pub lay_part : Kind → List ℕ → Desk → Desk
lay_part kind bytes w = lay_entry kind (length bytes) (lay_data bytes w)

-- The same desk, its state in another phase.
unfoldable pub moved : Phase → (sum rest : ℕ) → Desk → Desk
moved phase sum rest w = desk (moved_state phase sum rest w.state) w.group

-- "skip: L less all data bytes before it"
unfoldable pub lay_skip : Desk → Desk
lay_skip w = lay_entry Skip (w.state.size - w.state.filled) w

-- "Closing sets the gap to zeros."
unfoldable pub zero_gap : Desk → Desk
zero_gap w =
    let s = w.state in
    desk s (put w.group s.filled (replicate (entry_offset s.size s.entries - s.filled) 0))

-- "skip, close": the skip, zeros in the gap, and the state at the next group.
unfoldable pub shut : Desk → Desk
shut w =
    let v = zero_gap (lay_skip w) in
    desk (next_state v.state) v.group

-- "An owed total is laid first by the next accepted call."
unfoldable pub pay_owed : Phase → Desk → Desk
pay_owed Free w = w
pay_owed Inside w = w
pay_owed Owed w = moved Free 0 0 (lay_entry Total w.state.sum w)

-- "All entries laid by that call carry it": b4 as the call says, then an owed total.
unfoldable pub ready : Bool → Desk → Desk
ready warn w = pay_owed w.state.phase (desk (warn_state warn w.state) w.group)
