-- Serves contracts, which cannot say what is read or whether it could be written, and says nothing of what is printed.
-- Assumes nothing.
use Rattle.std.specs.Prelude.{ℕ, ◌≡◌, List, Bool, length, Option}
use Rattle.reader.specs.declared.Reader.{Reader}
use Rattle.sections.specs.declared.Pair.{Pair}
use Rattle.programs.specs.Steps.{Program, group_of}

-- How the run goes on after the group of a pair is how it does after the step of some image of this size, whole or cut short. A step
-- that could not be written stops the run as one cut short does.
pub record Follows (program : Program) (i : ℕ) (s : Reader) (size : ℕ) (pair : Pair) (then : Option Reader) : Type 0 where
  pub whole : Bool
  pub image : List ℕ
  pub long : length image ≡ size
  pub goes : then ≡ (group_of program i s whole image pair).then
