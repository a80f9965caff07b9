-- Serves contracts: a desk of the code as the definitions see it, and what a step leaves of one.
-- Assumes nothing.
use Rattle.std.specs.Prelude.{◌≡◌}
use Rattle.laying.specs.declared.desk.Desk as code
use Rattle.laying.specs.Laying.{Desk, desk}

-- The state, and the bytes of the buffer.
abbrev pub desk_of : code.Desk → Desk
desk_of d = desk d.state d.group.now

-- The buffer is the one that it was, and the desk what the definition says.
pub record Becomes (new old : code.Desk) (d : Desk) : Type 0 where
  pub same_group : new.group.ghost_name ≡ old.group.ghost_name
  pub laid : desk_of new ≡ d
