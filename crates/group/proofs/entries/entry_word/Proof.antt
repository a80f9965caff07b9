-- `entry_word` meets its contract: the four bytes, joined. Assumes nothing.
use borrow.Author.Rules.{rules}
use Prim.Native.Nat.{◌+◌}
use native.Mathlib.Omega.{arith}
use Rattle.group.proofs.EntryLaws.{entry_word}
use Rattle.group.proofs.entries.entry_word.Statement.{statement}
use Rattle.group.proofs.entries.entry_word.Tie as tie

returns : tie.Need-returns
returns c =
    let a = c.before.before.before.before.before.before.args in
    let byte = c.before.shared_slice_known-5-1.given in
    entry_word a.group.now a.at c.joined.result (omega (arith, byte (a.at + 1))) (omega (arith, byte (a.at + 2))) (omega (arith, byte (a.at + 3))) c.joined.ensures

pub entry_word_spec : {M : Type 1} → statement M
entry_word_spec =
    tie.close
    (tie.spec
    (λ c. search rules)
    (λ c. search rules)
    (λ c. search rules)
    (λ c. search rules)
    (λ c. search rules)
    (λ c. search rules)
    (λ c. search rules)
    (λ c κs. search rules)
    returns)
