-- `code_in` meets its contract: what the lent table holds at a flag. Assumes nothing.
use mathlib.Core.Path.{◌≡◌}
use mathlib.Core.List.{[]}
use Prim.Native.Nat.{◌/◌, ◌%◌}
use borrow.Author.Rules.{rules}
use lib.ListN.{get_or}
use Rattle.group.specs.Flags.{meaning_of}
use Rattle.flag_table.specs.Table.{code_of}
use Rattle.flag_table.proofs.TableLaws.{code_in_table, code_small}
use Rattle.flag_table.proofs.code_in.Goals as goal

pub returns : goal.returns
returns c =
    let flag = c.args.flag in
    let is : get_or (get_or c.args.flags.now (flag / 16) []) (flag % 16) 0 ≡ code_of (meaning_of flag) = rw c.requires (code_in_table flag (search rules)) in
    record { is = is; small = rw is (code_small (meaning_of flag)) }
