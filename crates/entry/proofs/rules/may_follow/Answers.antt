-- `may_follow` meets its contract: what the table holds at a stand and a kind. Assumes nothing.
use borrow.Author.Rules.{rules}
use mathlib.Core.Path.{◌≡◌, refl}
use mathlib.Core.Bool.{Bool, false}
use mathlib.Core.List.{List, []}
use Prim.Native.Nat.{ℕ}
use lib.ListN.{get_or}
use Rattle.group.specs.declared.Kind.{Kind}
use Rattle.group.specs.Flags.{kind_number}
use Rattle.group.proofs.FlagLaws.{each}
use Rattle.entry.specs.declared.Stand.{Stand}
use Rattle.entry.specs.declared.Stand.TheVariants.{Free, AfterPart, Inside, AfterLast, Owed}
use Rattle.entry.specs.Rules.{may_follow}
use Rattle.entry.specs.Bounds.{stand_number, follow_table}
use Rattle.entry.proofs.rules.may_follow.Goals as goal

abbrev Right : Stand → Kind → Bool → Type 0
Right stand k w = get_or (get_or follow_table (stand_number stand) []) (kind_number k) false ≡ may_follow stand k

in_table : (stand : Stand) (k : Kind) → Right stand k false
unfolding follow_table may_follow
in_table Free k = each (Right Free) (search rules) k false
in_table AfterPart k = each (Right AfterPart) (search rules) k false
in_table Inside k = each (Right Inside) (search rules) k false
in_table AfterLast k = each (Right AfterLast) (search rules) k false
in_table Owed k = each (Right Owed) (search rules) k false

found : (table : List (List Bool)) (stand : Stand) (k : Kind) (row column : ℕ) → table ≡ follow_table → row ≡ stand_number stand → column ≡ kind_number k
    → get_or (get_or table row []) column false ≡ may_follow stand k
found table stand k row column e r s = rw (e, r, s) (in_table stand k)

pub returns : goal.returns
unfolding follow_table may_follow
returns c = found follow_table c.args.stand c.args.kind _ _ refl c.stand_number.ensures c.from.ensures
