-- `entry_at` meets its contract: the entry's number, taken apart. Assumes nothing.
use borrow.Author.Rules.{rules}
use native.Mathlib.Omega.{arith}
use Rattle.group.proofs.EntryLaws.{word_apart}
use Rattle.group.proofs.entries.entry_at.Statement.{statement}
use Rattle.group.proofs.entries.entry_at.Tie as tie

pub entry_at_spec : {M : Type 1} → statement M
entry_at_spec = tie.close (tie.spec (λ c κs. search rules) (λ c. search rules) (λ c. (word_apart _ _ c.entry_word-word.ensures, omega arith)))
