-- Serves contracts and proofs only: the first of some entries that breaks the rule of a block, whatever the reader says of them.
-- Assumes nothing.
use Rattle.std.specs.Prelude.{ℕ, suc, List, [], ◌∷◌, cond, Option, Some, None}
use Rattle.group.specs.declared.Entry.{Entry}
use Rattle.group.specs.Flags.{meaning_of}
use Rattle.blockrule.specs.Rule.{block_kept}

-- Its place, none where each keeps the rule.
unfoldable pub other_at : (block : ℕ) → List Entry → (place : ℕ) → Option ℕ
other_at block [] place = None
other_at block (e ∷ es) place = cond (block_kept block (meaning_of e.flag) e.count) (other_at block es (suc place)) (Some place)
