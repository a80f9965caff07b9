-- Two answers of the search that meet its contract coincide; so do two results of the code.
-- Assumes nothing.
use mathlib.Core.Path.{◌≡◌, refl, sym, ◌∙◌}
use mathlib.Core.List.{List}
use Prim.Native.Nat.{ℕ}
use Rattle.std.specs.Prelude.{Option, Some, None, Result, Ok, Err}
use Rattle.answer.specs.declared.refusals.LoaderRefusal.{LoaderRefusal}
use Rattle.answer.proofs.Once.{OneToOne, loader_once, result_once}
use Rattle.radio.specs.declared.Found.{Found}
use Rattle.radio.specs.Search.{RadioAnswer}
use Rattle.radio.specs.Search.{answered, find_call}

pub radio_find_settled : (received : List ℕ) (a b : RadioAnswer) → a ≡ find_call received → b ≡ find_call received → a ≡ b
radio_find_settled received a b e f = e ∙ sym f

same_found : (x y : Found) → x.place ≡ y.place → x.length_at ≡ y.length_at → x ≡ y
same_found x y e f = λ i. record { place = e i; length_at = f i }

-- What the search answers tells the code's results apart.
answered_once : OneToOne answered
answered_once = result_once answered found_once (λ r t e. loader_once r t (cc)) apart
  where
    found_once : (x y : Option Found) → answered (Ok x) ≡ answered (Ok y) → x ≡ y
    found_once None None e = refl
    found_once None (Some y) e = cc
    found_once (Some x) None e = cc
    found_once (Some x) (Some y) e = let f : x ≡ y = same_found x y (cc) (cc) in cc

    apart : (x : Option Found) (r : LoaderRefusal) → answered (Ok x) ≡ answered (Err r) → ⊥
    apart None r e = cc
    apart (Some x) r e = cc

pub radio_find_result_settled : (received : List ℕ) (a b : Result (Option Found) LoaderRefusal) → answered a ≡ find_call received → answered b ≡ find_call received → a ≡ b
radio_find_result_settled received a b e f = answered_once a b (radio_find_settled received _ _ e f)
