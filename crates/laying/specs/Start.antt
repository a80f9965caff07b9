-- Document 01, "Writing": how a writer starts.
-- Assumes nothing.
use Rattle.std.specs.Prelude.{ℕ, false, cond, eqb}
use Rattle.group.specs.declared.Phase.TheVariants.{Free}
use Rattle.group.specs.State.{start_refusal}
use Rattle.laying.specs.declared.Writer.{Writer}
use Rattle.laying.specs.WriterStart.{WriterStart}
use Rattle.laying.specs.WriterStart as start

-- "A writer starts the same way": free, with nothing laid.
abbrev pub fresh_state : (size first : ℕ) → Writer
fresh_state size first =
    record { size = size; next = first; phase = Free; warned = false; sum = 0; rest = 0; filled = 0; entries = 0 }

-- "Order: start 2, 3." "A refused start gives no state."
unfoldable pub writer_start_call : (size first : ℕ) → WriterStart
writer_start_call size first =
    cond (eqb (start_refusal size first) 0) (start.Started (fresh_state size first)) (start.Refused (start_refusal size first))
