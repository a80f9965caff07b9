-- Change request 2026-09: what the profile's start and its read answer. The state is the plain reader's, and the block size,
-- which no read changes. So the answers are the plain reader's too, and with them what is told and what is left.
-- Assumes nothing.
use Rattle.std.specs.Prelude.{ℕ, ◌-◌, List, Bool, cond, not, eqb, length}
use Rattle.group.specs.Sizes.{information_length, record_kept, entry_offset}
use Rattle.group.specs.Entries.{entries_below}
use Rattle.group.specs.State.{start_refusal}
use Rattle.entry.specs.ScanEnd.{ScanEnd}
use Rattle.entry.specs.Rules.{or_else}
use Rattle.reader.specs.declared.Reader.{Reader}
use Rattle.reader.specs.ReaderStart.{ReaderStart}
use Rattle.reader.specs.ReaderStart as start
use Rattle.reader.specs.ReadAnswer.{ReadAnswer}
use Rattle.reader.specs.ReadAnswer as answer
use Rattle.reader.specs.Answer.{fresh, opening, is_repeat, read_refusal, answered}
use Rattle.blockrule.specs.Rule.{block_scan}

-- "a block size is chosen at start, 1 to 16,777,215"
abbrev pub block_size_kept : ℕ → Bool
block_size_kept block = record_kept block

-- "50 block size out of range, at start after 3"
unfoldable pub blocks_start_refusal : (size first block : ℕ) → ℕ
blocks_start_refusal size first block = or_else (start_refusal size first) (cond (not (block_size_kept block)) 50 0)

unfoldable pub blocks_start_call : (size first block : ℕ) → ReaderStart
blocks_start_call size first block =
    cond (eqb (blocks_start_refusal size first block) 0) (start.Started (fresh size first)) (start.Refused (blocks_start_refusal size first block))

-- The scan of a whole group of n entries.
unfoldable pub blocks_scan : (block : ℕ) → Reader → List ℕ → ℕ → ScanEnd
blocks_scan block s group n =
    block_scan block s.size (entry_offset s.size n) (entries_below group (s.size - information_length) n) 1 (opening s)

-- What a read answers that is lent rows for `room` numbers: of a block size out of range, "in a state, 1"; then all as the
-- plain reader has it, a repeat with it, and the profile's scan.
unfoldable pub blocks_read_call : (block : ℕ) → Reader → (group : List ℕ) (number n room : ℕ) → ReadAnswer
blocks_read_call block s group number n room =
    cond (not (block_size_kept block)) (answer.Refused s 1 0)
    (cond (is_repeat s (length group) number) (answer.Repeated s)
    (cond (eqb (read_refusal s (length group) number n room) 0) (answered s (blocks_scan block s group n))
    (answer.Refused s (read_refusal s (length group) number n room) 0)))
