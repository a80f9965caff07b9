-- `number_by_bits` meets its contract: what the bits of a flag tell. Assumes nothing.
use borrow.Author.Rules.{rules}
use borrow.Author.Tests.{lt-ltb, le-ltb}
use Rattle.group.proofs.FlagLaws.{number_by_bits_lem}
use Rattle.group.proofs.flags.number_by_bits.Statement.{statement}
use Rattle.group.proofs.flags.number_by_bits.Tie as tie

pub number_by_bits_spec : {M : Type 1} → statement M
number_by_bits_spec =
    tie.close
    (tie.spec
    (λ c. search rules)
    (λ c m. rw (lt-ltb _ _ c.if-flag-lt16.true) at (number_by_bits_lem c.before.args.flag m))
    (λ c. search rules)
    (λ c. search rules)
    (λ c m. rw (le-ltb _ _ c.if-flag-lt16.false) at (number_by_bits_lem c.before.args.flag m)))
