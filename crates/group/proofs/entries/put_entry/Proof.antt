-- `put_entry` meets its contract: the flag, and the count's three bytes. Assumes nothing.
use borrow.Author.Rules.{rules}
use Rattle.group.specs.Entries.{entry_bytes}
use Rattle.numbers.proofs.NumberLaws.{three_bytes}
use Rattle.group.proofs.entries.put_entry.Statement.{statement}
use Rattle.group.proofs.entries.put_entry.Tie as tie

returns : tie.Need-returns
unfolding entry_bytes
returns c = rw three_bytes c.before.before.put_four.ensures

pub put_entry_spec : {M : Type 1} → statement M
put_entry_spec =
    tie.close
    (tie.spec
    (λ c. search rules)
    (λ c. search rules)
    (λ c. search rules)
    (λ c κs. search rules)
    (λ c. search rules)
    returns)
