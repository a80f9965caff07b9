-- For each public call: two answers, and what is left in its lent slice, that meet its contract coincide; so do two
-- results of the code.
-- Assumes nothing.
use mathlib.Core.Path.{◌≡◌, refl, sym, ap, ◌∙◌}
use mathlib.Core.List.{List}
use Prim.Native.Nat.{ℕ}
use Rattle.std.specs.Prelude.{Result, Ok, Err}
use Rattle.answer.specs.declared.refusals.LoaderRefusal.{LoaderRefusal}
use Rattle.answer.specs.Answer.{if_accepted}
use Rattle.answer.proofs.Once.{OneToOne, loader_once, result_once, same_result}
use Rattle.volume.specs.declared.TapeType.{TapeType}
use Rattle.volume.specs.declared.TapeType.TheVariants.{A, B}
use Rattle.volume.specs.Information.{VolumeAnswer}
use Rattle.volume.specs.Information.{Makes, Reads, answered, told}

-- What two equal answers leave in a slice.
same_left : (a b : VolumeAnswer) (new old x y : List ℕ) → a ≡ b → x ≡ if_accepted (told a) new old → y ≡ if_accepted (told b) new old → x ≡ y
same_left a b new old x y e f g = f ∙ ap (λ (c : VolumeAnswer). if_accepted (told c) new old) e ∙ sym g

pub volume_make_settled : (fields old : List ℕ) (a b : VolumeAnswer) (volume volume' : List ℕ)
    → Makes fields old a volume → Makes fields old b volume' → (a ≡ b) × (volume ≡ volume')
volume_make_settled fields old a b volume volume' p q =
    let e : a ≡ b = p.answer ∙ sym q.answer in
    (e, same_left a b _ _ _ _ e p.volume_left q.volume_left)

pub volume_read_settled : (volume old : List ℕ) (a b : VolumeAnswer) (fields fields' : List ℕ)
    → Reads volume old a fields → Reads volume old b fields' → (a ≡ b) × (fields ≡ fields')
volume_read_settled volume old a b fields fields' p q =
    let e : a ≡ b = p.answer ∙ sym q.answer in
    (e, same_left a b _ _ _ _ e p.fields_left q.fields_left)

-- What a call answers tells the code's results apart.
answered_once : OneToOne answered
answered_once = result_once answered type_once (λ r t e. loader_once r t (cc)) apart
  where
    type_once : (x y : TapeType) → answered (Ok x) ≡ answered (Ok y) → x ≡ y
    type_once A A e = refl
    type_once A B e = cc
    type_once B A e = cc
    type_once B B e = refl

    apart : (x : TapeType) (r : LoaderRefusal) → answered (Ok x) ≡ answered (Err r) → ⊥
    apart A r e = cc
    apart B r e = cc

pub volume_make_result_settled : (fields old : List ℕ) (a b : Result TapeType LoaderRefusal) (volume volume' : List ℕ)
    → Makes fields old (answered a) volume → Makes fields old (answered b) volume' → (a ≡ b) × (volume ≡ volume')
volume_make_result_settled fields old a b volume volume' p q = same_result answered_once a b (volume_make_settled fields old _ _ volume volume' p q)

pub volume_read_result_settled : (volume old : List ℕ) (a b : Result TapeType LoaderRefusal) (fields fields' : List ℕ)
    → Reads volume old (answered a) fields → Reads volume old (answered b) fields' → (a ≡ b) × (fields ≡ fields')
volume_read_result_settled volume old a b fields fields' p q = same_result answered_once a b (volume_read_settled volume old _ _ fields fields' p q)
