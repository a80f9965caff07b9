-- `put_row` meets its contract: three numbers put one by one. Assumes nothing.
use borrow.Author.Rules.{rules}
use native.Mathlib.Omega.{arith}
use mathlib.Core.Path.{◌≡◌, refl, ap, ◌∙◌}
use mathlib.Core.List.{List, [], ◌∷◌}
use Prim.Native.Nat.{ℕ}
use lib.ListN.{get_or}
use Rattle.numbers.proofs.InBytes.{put_row}
use Rattle.numbers.specs.Numbers.{in_bytes}
use Rattle.numbers.specs.Store.{put}
use Rattle.group.specs.Entries.{entry_at}
use Rattle.group.specs.Flags.{meaning_of}
use Rattle.group.specs.ForContracts.{Meant}
use Rattle.entry.specs.Scan.{reached_by}
use Rattle.rows.specs.Rows.{row_kind}
use Rattle.rows.proofs.Filling.{row_kind_lem}
use Rattle.rows.proofs.bytes.put_row.Statement.{statement}
use Rattle.rows.proofs.bytes.put_row.Tie as tie

-- The byte at an entry's place is its flag.
flag_is : (s : List ℕ) (at : ℕ) → get_or s at 0 ≡ (entry_at s at).flag
unfolding entry_at
flag_is s at = refl

meant_is : (s : List ℕ) (at : ℕ) → Meant (entry_at s at).flag → Meant (get_or s at 0)
unfolding entry_at
meant_is s at h = h

returns : tie.Need-returns
unfolding entry_at
returns c =
    let a = c.before.before.before.before.before.before.before.before.before.before.before.before.before.before.before.before.before.args in
    let told = c.before.before.before.before.number_by_bits in
    let moved = c.before.before.before.before.before.before.before.before.move_count-count in
    let m = meaning_of (get_or a.group.now a.at 0) in (
      c.reached_by.ensures ∙ ap (λ (n : ℕ). reached_by m a.reached n) moved.ensures.0.0,
      put_row a.rows.now _ _ _ a.i _ _ _ (omega arith) c.before.before.before.before.before.before.before.before.before.before.before.before.put_number.ensures moved.ensures.1 c.before.before.before.put_number-2.ensures
          ∙ ap (λ (k : ℕ). put a.rows.now a.i (in_bytes (k ∷ a.reached ∷ moved.result ∷ []))) (row_kind_lem _ _ c.before.before.before.before.before.before.before.before.before.before.before.before.before.before.before.before.before.requires.1.1 told.ensures)
          ∙ ap (λ (n : ℕ). put a.rows.now a.i (in_bytes (row_kind m ∷ a.reached ∷ n ∷ []))) moved.ensures.0.0,
    )

pub put_row_spec : {M : Type 1} → statement M
put_row_spec =
    tie.close
    (tie.spec
    (λ c. search rules)
    (λ c. search rules)
    (λ c κs. search rules)
    (λ c. search rules)
    (λ c κs. let a = c.before.before.before.before.before.before.before.before.args in ((omega (arith, c.before.before.before.put_number.auto.bytes), omega arith), flag_is a.group.now a.at))
    (λ c κs. search rules)
    (λ c. search rules)
    (λ c κs. omega (arith, c.before.before.before.before.move_count-count.auto.bytes, c.before.before.before.before.before.before.before.before.put_number.auto.bytes))
    (λ c κs. (let b = c.before.before.before.before.before.before.before.before.before.before.before.before.before.before.before.before in meant_is b.args.group.now b.args.at b.requires.1.1, (omega arith, omega (arith, c.before.before.before.before.before.before.before.move_count-count.ensures.0.1))))
    (λ c. search rules)
    returns)
