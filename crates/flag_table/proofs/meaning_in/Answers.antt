-- `meaning_in` meets its contract: what the code of a flag stands for. Assumes nothing.
use Rattle.std.proofs.Common.{◌≡◌, ℕ, Result, Ok, Err, Some}
use Rattle.std.specs.Result.{result_ok}
use Rattle.group.specs.declared.Kind.{Kind}
use Rattle.group.specs.declared.flags.NoKind.{NoKind}
use Rattle.group.specs.Flags.{kind_number}
use Rattle.group.specs.ForContracts.{Numbered}
use Rattle.flag_table.proofs.TableLaws.{known_by_code}
use Rattle.flag_table.proofs.meaning_in.Goals as goal

-- The kind that a conversion gives has the number.
numbered : (n : ℕ) (r : Result Kind NoKind) (k : Kind) → Numbered n r → Some k ≡ result_ok r → n ≡ kind_number k
numbered n (Ok j) k h e = let same : k ≡ j = cc in rw same h
numbered n (Err _) k h e = cc

pub returns : goal.returns
returns c =
    let kind = c.in_ok-kind in
    rw c.b4.ensures (known_by_code c.args.flag c.code_in-code.result c.code_in-code.ensures kind.kind (numbered _ _ kind.kind c.try_from.ensures kind.ensures.value))
