-- Change request 2026-07, the explaining tool: how what it prints stands beside what the lister prints.
-- Assumes nothing.
use Rattle.std.specs.Prelude.{ℕ, ◌≡◌, List, [], ◌++◌}
use Rattle.group.specs.declared.Phase.{Phase}
use Rattle.lines.specs.Text.{refusal_line, end_line, bad_line}
use Rattle.explain.specs.Explanation.{Explanation}
use Rattle.reason_lines.specs.Lines.{where_line, found_line}

-- A line that ends a run, and what is printed behind it: a reason after a refusal, else nothing.
pub data LastLine : (line behind : List ℕ) → Type 0 where
  bad : LastLine bad_line []
  ended : (phase : Phase) (sum : ℕ) → LastLine (end_line phase sum) []
  refused : (i : ℕ) (x : Explanation) → LastLine (refusal_line x.refusal x.place) (where_line i x ++ found_line x)

-- What is explained begins with the last line of what is listed.
pub record SameLine (listed explained : List ℕ) : Type 0 where
  pub before : List ℕ
  pub line : List ℕ
  pub behind : List ℕ
  pub kind : LastLine line behind
  pub lists : listed ≡ before ++ line
  pub explains : explained ≡ line ++ behind
