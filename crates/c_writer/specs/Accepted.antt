-- Document 01, "What the box holds" and "Writing": when a writer's start and its three calls are accepted, and the 32 bytes that stay.
-- Assumes nothing.
use Rattle.std.specs.Prelude.{ℕ, ◌-◌, ◌≡◌, true, ◌&&◌, List, length, drop}
use Rattle.group.specs.Sizes.{information_length}
use Rattle.laying.specs.declared.Writer.{Writer}
use Rattle.laying.specs.WriterStart.{Started}
use Rattle.laying.specs.Start.{fresh_state, writer_start_call}
use Rattle.writer.specs.WriteAnswer.{WriteAnswer}
use Rattle.writer.specs.WriteAnswer.{Finished, Closed}
use Rattle.writer.specs.Calls.{Done}
use Rattle.slices.specs.Call.{Left, lengths_kept}
use Rattle.states.specs.States.{writer_length, b4_meant, writer_meant}
use Rattle.c_writer.specs.Calls.{group_left}

-- The slices are of their lengths, and the writer's own start starts.
pub record StartAccepted (size first : ℕ) (state answer : List ℕ) : Type 0 where
  pub kept : lengths_kept (length state) writer_length (length answer) ≡ true
  pub starts : writer_start_call size first ≡ Started (fresh_state size first)

-- "A call either finishes its work, or closes the group."
pub data Accepts : WriteAnswer → Type 0 where
  finishes : {s : Writer} → Accepts (Finished s)
  closes : {s : Writer} {number entries taken : ℕ} → Accepts (Closed s number entries taken)

-- The slices are of their lengths, free / inside / owed and both b4 numbers have a meaning, and the writer's own call accepts.
pub record CallAccepted (done : Done) (state : List ℕ) (warn : ℕ) (answer : List ℕ) : Type 0 where
  pub kept : lengths_kept (length state) writer_length (length answer) ≡ true
  pub meant : (writer_meant state && b4_meant warn) ≡ true
  pub accepts : Accepts done.answer

-- "We neither read nor write those 32 bytes": the last 32 of the group that was lent are those of the group that is left.
abbrev pub InformationStays : (group : List ℕ) → Left → Type 0
InformationStays group o = drop (length group - information_length) (group_left o) ≡ drop (length group - information_length) group
