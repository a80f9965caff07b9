-- For each public call: two answers, and what is left in the buffer, that meet its contract coincide; so do two results
-- of the code.
-- Assumes nothing.
use mathlib.Core.Path.{◌≡◌, refl, sym, ap, ◌∙◌}
use mathlib.Core.List.{List}
use Prim.Native.Nat.{ℕ}
use Rattle.std.specs.Prelude.{Bool, true, false, Result, Ok}
use Rattle.answer.specs.declared.Refused.{Refused}
use Rattle.answer.specs.declared.refusals.ThirdRefusal.{ThirdRefusal}
use Rattle.answer.specs.Answer.{if_accepted}
use Rattle.answer.proofs.Once.{OneToOne, third_once, refused_once, result_once, same_result}
use Rattle.column.specs.Column.{Column}
use Rattle.restoring.specs.Rows.{each_column}
use Rattle.third.specs.Answer.{ThirdAnswer}
use Rattle.third.specs.Answer.{Does, Makes, Checks, RestoresOne, RestoresTwo, Mends, done_answer, checked_answer, told}

settled : (called : ThirdAnswer) (f : Column → Column) (n : ℕ) (old : List ℕ) (a b : ThirdAnswer) (rows rows' : List ℕ)
    → Does called f n old a rows → Does called f n old b rows' → (a ≡ b) × (rows ≡ rows')
settled called f n old a b rows rows' p q =
    let e : a ≡ b = p.answer ∙ sym q.answer in
    (e, p.rows_left ∙ ap (λ (x : ThirdAnswer). if_accepted (told x) (each_column f n old) old) e ∙ sym q.rows_left)

pub make_settled : (n : ℕ) (old : List ℕ) (a b : ThirdAnswer) (rows rows' : List ℕ) → Makes n old a rows → Makes n old b rows'
    → (a ≡ b) × (rows ≡ rows')
make_settled n old a b rows rows' p q = settled _ _ n old a b rows rows' p q

pub check_settled : (n : ℕ) (rows : List ℕ) (a b : ThirdAnswer) → Checks n rows a → Checks n rows b → a ≡ b
check_settled n rows a b p q = p ∙ sym q

pub restore_one_settled : (n i : ℕ) (old : List ℕ) (a b : ThirdAnswer) (rows rows' : List ℕ) → RestoresOne n i old a rows
    → RestoresOne n i old b rows' → (a ≡ b) × (rows ≡ rows')
restore_one_settled n i old a b rows rows' p q = settled _ _ n old a b rows rows' p q

pub restore_two_settled : (n i j : ℕ) (old : List ℕ) (a b : ThirdAnswer) (rows rows' : List ℕ) → RestoresTwo n i j old a rows
    → RestoresTwo n i j old b rows' → (a ≡ b) × (rows ≡ rows')
restore_two_settled n i j old a b rows rows' p q = settled _ _ n old a b rows rows' p q

pub mend_settled : (n : ℕ) (old : List ℕ) (a b : ThirdAnswer) (rows rows' : List ℕ) → Mends n old a rows → Mends n old b rows'
    → (a ≡ b) × (rows ≡ rows')
mend_settled n old a b rows rows' p q = settled _ _ n old a b rows rows' p q

-- What a call answers tells the code's results apart.
done_once : OneToOne (done_answer {A = Unit {0}})
done_once = result_once done_answer (λ x y e. refl) (λ r t e. refused_once third_once r t (cc) (cc)) (λ x r e. cc)

checked_once : OneToOne checked_answer
checked_once = result_once checked_answer kept_once (λ r t e. refused_once third_once r t (cc) (cc)) (λ x r e. cc)
  where
    kept_once : (x y : Bool) → checked_answer (Ok x) ≡ checked_answer (Ok y) → x ≡ y
    kept_once true true e = refl
    kept_once true false e = cc
    kept_once false true e = cc
    kept_once false false e = refl

pub make_result_settled : (n : ℕ) (old : List ℕ) (a b : Result (Unit {0}) (Refused ThirdRefusal)) (rows rows' : List ℕ)
    → Makes n old (done_answer a) rows → Makes n old (done_answer b) rows' → (a ≡ b) × (rows ≡ rows')
make_result_settled n old a b rows rows' p q = same_result done_once a b (make_settled n old _ _ rows rows' p q)

pub check_result_settled : (n : ℕ) (rows : List ℕ) (a b : Result Bool (Refused ThirdRefusal)) → Checks n rows (checked_answer a) → Checks n rows (checked_answer b) → a ≡ b
check_result_settled n rows a b p q = checked_once a b (check_settled n rows _ _ p q)

pub restore_one_result_settled : (n i : ℕ) (old : List ℕ) (a b : Result (Unit {0}) (Refused ThirdRefusal)) (rows rows' : List ℕ)
    → RestoresOne n i old (done_answer a) rows → RestoresOne n i old (done_answer b) rows' → (a ≡ b) × (rows ≡ rows')
restore_one_result_settled n i old a b rows rows' p q = same_result done_once a b (restore_one_settled n i old _ _ rows rows' p q)

pub restore_two_result_settled : (n i j : ℕ) (old : List ℕ) (a b : Result (Unit {0}) (Refused ThirdRefusal)) (rows rows' : List ℕ)
    → RestoresTwo n i j old (done_answer a) rows → RestoresTwo n i j old (done_answer b) rows' → (a ≡ b) × (rows ≡ rows')
restore_two_result_settled n i j old a b rows rows' p q = same_result done_once a b (restore_two_settled n i j old _ _ rows rows' p q)

pub mend_result_settled : (n : ℕ) (old : List ℕ) (a b : Result (Unit {0}) (Refused ThirdRefusal)) (rows rows' : List ℕ)
    → Mends n old (done_answer a) rows → Mends n old (done_answer b) rows' → (a ≡ b) × (rows ≡ rows')
mend_result_settled n old a b rows rows' p q = same_result done_once a b (mend_settled n old _ _ rows rows' p q)
