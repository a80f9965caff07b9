-- The theorems of Volume Information of change request 2026-11, each with its sentence above it.
-- Assumes nothing.
use mathlib.Core.Path.{◌≡◌, sym, ap, ◌∙◌}
use mathlib.Core.List.{List}
use Prim.Native.Nat.{ℕ}
use lib.ListN.{length}
use Rattle.volume.specs.Information.{VolumeAnswer}
use Rattle.volume.specs.Information.{volume_of, fields_of, make_refusal, read_refusal, refusal_of, Makes, Reads}
use Rattle.volume.proofs.InformationLaws.{make_kept, read_kept, none_refused, filled, make_accepts, read_accepts, fields_made, zeros_before, zeros_behind, length_volume, length_fields, volume_again}

-- "reading .. gives it back": what making made is accepted, with the same type, and its fields come back.
pub volume_returned : (fields old volume : List ℕ) (a : VolumeAnswer) → Makes fields old a volume → refusal_of a ≡ 0
    → (lent : List ℕ) → length lent ≡ 37 → (b : VolumeAnswer) (fields' : List ℕ) → Reads volume lent b fields' → (b ≡ a) × (fields' ≡ fields)
volume_returned fields old volume a m z lent l b fields' r =
    let none = none_refused (make_refusal fields (length old)) fields a m.answer z in
    let k = make_kept fields (length old) none in
    let long = k.long.fields in
    let made : volume ≡ volume_of fields = filled (make_refusal fields (length old)) fields a (volume_of fields) old volume m.answer none m.volume_left in
    let back : fields_of volume ≡ fields = ap fields_of made ∙ fields_made fields long in
    let accepts : read_refusal volume (length lent) ≡ 0 =
    ap (λ (v : List ℕ). read_refusal v (length lent)) made
    ∙ read_accepts (volume_of fields) (length lent)
    (record { long = record { fields = l; volume = length_volume fields long }; before = zeros_before fields long; behind = zeros_behind fields long; bytes = rw (fields_made fields long) k.bytes }) in (
      r.answer ∙ rw (accepts, back, ← none) (sym m.answer),
      filled (read_refusal volume (length lent)) (fields_of volume) b (fields_of volume) lent fields' r.answer accepts r.fields_left ∙ back,
    )

-- "reading accepts exactly what making makes": a volume that is accepted is made again of the fields that reading gives.
pub volume_only_made : (volume lent fields : List ℕ) (a : VolumeAnswer) → Reads volume lent a fields → refusal_of a ≡ 0
    → (old : List ℕ) → length old ≡ 72 → (b : VolumeAnswer) (volume' : List ℕ) → Makes fields old b volume' → (b ≡ a) × (volume' ≡ volume)
volume_only_made volume lent fields a r z old l b volume' m =
    let none = none_refused (read_refusal volume (length lent)) (fields_of volume) a r.answer z in
    let k = read_kept volume (length lent) none in
    let long = k.long.volume in
    let given : fields ≡ fields_of volume = filled (read_refusal volume (length lent)) (fields_of volume) a (fields_of volume) lent fields r.answer none r.fields_left in
    let accepts : make_refusal fields (length old) ≡ 0 =
    ap (λ (f : List ℕ). make_refusal f (length old)) given
    ∙ make_accepts (fields_of volume) (length old) (record { long = record { fields = length_fields volume long; volume = l }; bytes = k.bytes }) in (
      m.answer ∙ rw (accepts, given, ← none) (sym r.answer),
      filled (make_refusal fields (length old)) fields b (volume_of fields) old volume' m.answer accepts m.volume_left
          ∙ ap volume_of given ∙ volume_again volume long k.before k.behind,
    )
