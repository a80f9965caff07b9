-- `move_count` meets its contract: the entry's bytes, with 0 over the flag, are the count's. Assumes nothing.
use borrow.Author.Rules.{rules}
use mathlib.Core.Path.{◌≡◌, sym, ap, ◌∙◌}
use mathlib.Core.List.{List}
use Prim.Native.Nat.{ℕ, ◌+◌, ◌*◌, ◌-◌}
use native.Mathlib.Omega.{arith}
use lib.ListN.{set}
use Rattle.numbers.specs.Store.{put}
use Rattle.group.specs.Entries.{entry_at}
use Rattle.numbers.proofs.Stores.{put_over}
use Rattle.group.proofs.EntryLaws.{count_bytes}
use Rattle.group.proofs.entries.move_count.Statement.{statement}
use Rattle.group.proofs.entries.move_count.Tie as tie

counted : (c : tie.After-entry_word) → c.entry_word.result - c.before.before.before.before.before.before.before.before.before.before.before.args.flag * 16777216 ≡ (entry_at c.before.before.before.before.before.before.before.before.before.before.before.args.group.now c.before.before.before.before.before.before.before.before.before.before.before.args.from).count
counted c =
    let w = c.entry_word.ensures in
    let p = c.before.before.before.before.before.before.before.before.before.before.before.requires in
    omega (arith, w.is, p.1)

returns : tie.Need-returns
returns c =
    let a = c.before.before.before.before.before.before.before.before.before.before.before.args in
    let byte = c.before.before.before.before.shared_slice_known-5-1.given in
    let w = c.entry_word.ensures in
    let e = counted c in (
      (e, omega (arith, w.small, e)),
      ap (λ (l : List ℕ). set l a.at 0) c.before.before.before.put_four.ensures
          ∙ put_over a.bytes.now a.at _ 0 _ (omega arith)
          ∙ ap (put a.bytes.now a.at) (sym (count_bytes a.group.now a.from _ (omega (arith, byte (a.from + 1))) (omega (arith, byte (a.from + 2))) (omega (arith, byte (a.from + 3))) e)),
    )

pub move_count_spec : {M : Type 1} → statement M
move_count_spec =
    tie.close
    (tie.spec
    (λ c. search rules)
    (λ c. search rules)
    (λ c. search rules)
    (λ c. search rules)
    (λ c. search rules)
    (λ c. search rules)
    (λ c. search rules)
    (λ c κs. search rules)
    (λ c κs. search rules)
    (λ c. omega (arith, c.entry_word.ensures.is, c.before.before.before.before.before.before.before.before.before.before.before.requires.1))
    (λ c. omega (arith, c.entry_word.ensures.is, c.before.before.before.before.before.before.before.before.before.before.before.requires.1))
    (λ c. search rules)
    (λ c. search rules)
    returns)
