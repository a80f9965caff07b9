-- Laws of the table of codes: what a code tells, and what the table holds at each flag.
-- Assumes nothing.
use mathlib.Core.Path.{◌≡◌, sym, ap, ◌∙◌}
use mathlib.Core.Bool.{Bool, false}
use mathlib.Core.List.{[]}
use Prim.Native.Nat.{ℕ, ◌+◌, ◌*◌, ◌/◌, ◌%◌, ◌≤◌, ◌<◌}
use native.Mathlib.Omega.{arith}
use borrow.Author.Rules.{rules}
use lib.ListN.{get_or}
use Rattle.numbers.specs.Numbers.{listed}
use Rattle.numbers.proofs.Computed.{listed_at}
use Rattle.group.specs.declared.Kind.{Kind}
use Rattle.group.specs.ForContracts.{Meant}
use Rattle.group.specs.Flags.{Meaning}
use Rattle.std.specs.Prelude.{Some, None}
use Rattle.group.specs.Flags.{kind_number, meaning_of, b4_of}
use Rattle.group.proofs.FlagLaws.{each, meant_or, b4_of_meaning, kind_is_lem}
use Rattle.flag_table.specs.Table.{code_of, flag_table, Below}

-- A code is below 16, and half of it is its kind's number.
pub code_small : (m : Meaning) → code_of m < 16
code_small None = search rules
code_small (Some (k, w)) = each (λ (k : Kind) (w : Bool). code_of (Some (k, w)) < 16) (search rules) k w

code_half : (k : Kind) (w : Bool) → code_of (Some (k, w)) / 2 ≡ kind_number k
code_half = each (λ (k : Kind) (w : Bool). code_of (Some (k, w)) / 2 ≡ kind_number k) (search rules)

kind_some : (k : Kind) → 1 ≤ kind_number k
kind_some k = each (λ (k : Kind) (w : Bool). 1 ≤ kind_number k) (search rules) k false

-- What a flag means, by its code.
module _ (flag code : ℕ) (b : Below 16 (code_of (meaning_of flag)) code) where
  code_number : (m : Meant flag) → code / 2 ≡ kind_number m.kind
  code_number m = ap (λ (n : ℕ). n / 2) (b.is ∙ ap code_of m.is) ∙ code_half m.kind m.warned

  pub known_by_code : (k : Kind) → code / 2 ≡ kind_number k → Some (k, b4_of flag) ≡ meaning_of flag
  known_by_code k e =
      meant_or flag
      (λ none. absurd (omega (arith, b.is, ap code_of none, e, kind_some k)))
      (λ m. rw (m.is, kind_is_lem k m.kind (sym e ∙ code_number m), b4_of_meaning flag m.kind m.warned m.is))

-- The table has the code of what each flag means.
pub code_in_table : (flag : ℕ) → flag < 256 → get_or (get_or flag_table (flag / 16) []) (flag % 16) 0 ≡ code_of (meaning_of flag)
unfolding flag_table
code_in_table flag h =
    let high : flag / 16 < 16 = omega arith in
    let low : flag % 16 < 16 = omega arith in
    let whole : 16 * (flag / 16) + flag % 16 ≡ flag = omega arith in
    rw (listed_at (λ (a : ℕ). listed (λ (b : ℕ). code_of (meaning_of (16 * a + b))) 0 16) [] 16 (flag / 16) high, listed_at (λ (b : ℕ). code_of (meaning_of (16 * (flag / 16) + b))) 0 16 (flag % 16) low, whole)
