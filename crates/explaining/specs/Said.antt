-- Change request 2026-07, the explaining tool: a refusal that is said in words.
-- Assumes nothing.
use Rattle.std.specs.Prelude.{ℕ, ◌≡◌, true, leb, length}
use Rattle.reason_lines.specs.Lines.{wrong}

-- No refusal, or one that has words.
pub data Said : (refusal : ℕ) → Type 0 where
  nothing : Said 0
  words : {refusal : ℕ} → leb 1 (length (wrong refusal)) ≡ true → Said refusal
