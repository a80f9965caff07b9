-- For each public call: two answers, and what is left in each lent slice, that meet its contract coincide; so do two
-- results of the code.
-- Assumes nothing.
use mathlib.Core.Path.{◌≡◌, refl, sym, ap, ◌∙◌}
use mathlib.Core.List.{List}
use Prim.Native.Nat.{ℕ}
use Rattle.std.specs.Prelude.{Result}
use Rattle.answer.specs.declared.Refused.{Refused}
use Rattle.answer.specs.declared.refusals.TrackRefusal.{TrackRefusal}
use Rattle.answer.specs.Answer.{if_accepted}
use Rattle.answer.proofs.Once.{OneToOne, track_once, refused_once, result_once, same_result}
use Rattle.track.specs.Answer.{TrackAnswer, Makes, Reads, answer_of, told}

-- What two equal answers leave in a slice.
same_left : (a b : TrackAnswer) (new old x y : List ℕ) → a ≡ b → x ≡ if_accepted (told a) new old → y ≡ if_accepted (told b) new old → x ≡ y
same_left a b new old x y e f g = f ∙ ap (λ (c : TrackAnswer). if_accepted (told c) new old) e ∙ sym g

pub make_settled : (area frame : ℕ) (packs items old old' : List ℕ) (a b : TrackAnswer) (track track' numbers numbers' : List ℕ)
    → Makes area frame packs items old old' a track numbers → Makes area frame packs items old old' b track' numbers'
    → (a ≡ b) × ((track ≡ track') × (numbers ≡ numbers'))
make_settled area frame packs items old old' a b track track' numbers numbers' p q =
    let e : a ≡ b = p.answer ∙ sym q.answer in
    (e, (same_left a b _ _ _ _ e p.track_left q.track_left, same_left a b _ _ _ _ e p.numbers_left q.numbers_left))

pub read_settled : (area frame : ℕ) (track old old' old'' : List ℕ) (a b : TrackAnswer) (packs packs' items items' numbers numbers' : List ℕ)
    → Reads area frame track old old' old'' a packs items numbers → Reads area frame track old old' old'' b packs' items' numbers'
    → (a ≡ b) × ((packs ≡ packs') × ((items ≡ items') × (numbers ≡ numbers')))
read_settled area frame track old old' old'' a b packs packs' items items' numbers numbers' p q =
    let e : a ≡ b = p.answer ∙ sym q.answer in
    (e, (same_left a b _ _ _ _ e p.packs_left q.packs_left, (same_left a b _ _ _ _ e p.items_left q.items_left, same_left a b _ _ _ _ e p.numbers_left q.numbers_left)))

-- What a call answers tells the code's results apart.
answer_once : OneToOne (answer_of {A = Unit {0}})
answer_once = result_once answer_of (λ x y e. refl) (λ r t e. refused_once track_once r t (cc) (cc)) (λ x r e. cc)

pub make_result_settled : (area frame : ℕ) (packs items old old' : List ℕ) (a b : Result (Unit {0}) (Refused TrackRefusal)) (track track' numbers numbers' : List ℕ)
    → Makes area frame packs items old old' (answer_of a) track numbers → Makes area frame packs items old old' (answer_of b) track' numbers'
    → (a ≡ b) × ((track ≡ track') × (numbers ≡ numbers'))
make_result_settled area frame packs items old old' a b track track' numbers numbers' p q =
    same_result answer_once a b (make_settled area frame packs items old old' _ _ track track' numbers numbers' p q)

pub read_result_settled : (area frame : ℕ) (track old old' old'' : List ℕ) (a b : Result (Unit {0}) (Refused TrackRefusal)) (packs packs' items items' numbers numbers' : List ℕ)
    → Reads area frame track old old' old'' (answer_of a) packs items numbers → Reads area frame track old old' old'' (answer_of b) packs' items' numbers'
    → (a ≡ b) × ((packs ≡ packs') × ((items ≡ items') × (numbers ≡ numbers')))
read_result_settled area frame track old old' old'' a b packs packs' items items' numbers numbers' p q =
    same_result answer_once a b (read_settled area frame track old old' old'' _ _ packs packs' items items' numbers numbers' p q)
