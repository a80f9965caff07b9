-- Serves contracts and proofs only: what a read answers by the first entry of another length.
-- Assumes nothing.
use Rattle.std.specs.Prelude.{ℕ, Option, Some, None}
use Rattle.reader.specs.declared.Reader.{Reader}
use Rattle.reader.specs.ReadAnswer.{ReadAnswer}
use Rattle.reader.specs.ReadAnswer.{Refused}

-- 51 at its place in front of what the plain reader answers; where there is none, that answer.
abbrev pub unless_other : Option ℕ → Reader → ReadAnswer → ReadAnswer
unless_other None s plain = plain
unless_other (Some place) s plain = Refused s 51 place
