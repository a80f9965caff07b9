-- Serves contracts: what the steps of an accepted call answer and leave of a desk of the code.
-- Assumes nothing.
use Rattle.std.specs.Prelude.{◌≡◌}
use Rattle.laying.specs.declared.desk.Desk.{Desk}
use Rattle.writer.specs.WriteAnswer.{WriteAnswer}
use Rattle.writer.specs.Calls.{Done, done}

-- The buffer is the one that it was, and the answer and its bytes are as the definition says.
pub record Leaves (new old : Desk) (a : WriteAnswer) (d : Done) : Type 0 where
  pub same_group : new.group.ghost_name ≡ old.group.ghost_name
  pub done : done a new.group.now ≡ d
