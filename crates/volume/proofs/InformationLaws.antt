-- Laws of Volume Information: the bytes that are made and taken apart, its rules as the code tests them, and what acceptance means.
-- Assumes nothing.
use mathlib.Core.Path.{◌≡◌, refl, sym, ap, ◌∙◌}
use mathlib.Core.Bool.{Bool, true, false, cond, not}
use mathlib.Core.List.{List, ◌++◌}
use Prim.Native.Nat.{ℕ, zero, suc, ◌+◌, ◌-◌, ◌≤◌, ◌<◌}
use native.Mathlib.Omega.{arith}
use borrow.Author.Tests.{eq-eqb, eqb-true, leb-true, not-false}
use lib.Dec.{eqb}
use lib.ListN.{length, get_or, take, drop, replicate, length-append, length-drop, length-replicate, take-append-drop}
use lib.Seq.{length-take-le, take_at, drop_at, drop-drop, get_or-take, get_or-drop}
use Rattle.answer.specs.Answer as answer
use Rattle.answer.specs.Answer.{if_accepted}
use Rattle.numbers.specs.Store.{put, zeros}
use Rattle.numbers.proofs.Stores.{put_put, put_whole, take_rest, zeros_are}
use Rattle.numbers.proofs.Tests.{both, passed}
use Rattle.std.specs.Prelude.{Err}
use Rattle.answer.specs.declared.refusals.LoaderRefusal.{LoaderRefusal}
use Rattle.answer.specs.Numbers.{loader_number}
use Rattle.answer.specs.NotZero.{loader_not_zero}
use Rattle.volume.specs.Information.{VolumeAnswer, answered}
use Rattle.volume.specs.Information.{TypeA, TypeB, Refused}
use Rattle.volume.specs.Information.{volume_length, fields_length, length_and_thickness, flags, volume_of, fields_of, lengths_kept, reserved_kept, thickness, thickness_kept}
use Rattle.volume.specs.Information.{byte_refusal, make_refusal, read_refusal, type_of, answer_of, refusal_of, told}

-- The volume, stored in three pieces.
module _ (fields old v₁ v₂ v₃ : List ℕ) (long : length old ≡ 72) (wide : length fields ≡ 37) where
  pub volume_stored : v₁ ≡ put old 0 (replicate 3 0) → v₂ ≡ put v₁ 3 fields → v₃ ≡ put v₂ 40 (replicate 32 0) → v₃ ≡ volume_of fields
  unfolding volume_of
  volume_stored e f g =
      let behind : 40 ≡ 3 + length fields = omega arith in
      let whole : length (replicate 3 0 ++ fields ++ replicate 32 0) ≡ length old = simp (length-append, length-replicate) (omega arith) in
      g ∙ rw (f, behind, put_put v₁ 3 fields (replicate 32 0), e, put_put old 0 (replicate 3 0) (fields ++ replicate 32 0))
      (put_whole old (replicate 3 0 ++ fields ++ replicate 32 0) whole)

-- The fields, stored at once.
pub fields_stored : (volume old f₁ : List ℕ) → length old ≡ 37 → length volume ≡ 72 → f₁ ≡ put old 0 (take (40 - 3) (drop 3 volume)) → f₁ ≡ fields_of volume
unfolding fields_of
fields_stored volume old f₁ wide long e =
    e ∙ put_whole old (take 37 (drop 3 volume)) (length-take-le 37 (drop 3 volume) (omega (arith, length-drop 3 volume)) ∙ sym wide)

-- What stands in a volume among its fields.
pub field_at : (volume : List ℕ) (i : ℕ) → i < 37 → get_or (fields_of volume) i 0 ≡ get_or volume (3 + i) 0
unfolding fields_of
field_at volume i less = get_or-take 37 (drop 3 volume) i 0 less ∙ get_or-drop 3 volume i 0

-- What making refuses, by its lengths and its bytes.
module _ (fields : List ℕ) (volume : ℕ) where
  pub make_bytes : length fields ≡ 37 → volume ≡ 72 → byte_refusal (get_or fields 2 0) (get_or fields 3 0) ≡ make_refusal fields volume
  unfolding make_refusal
  make_bytes e f = rw (eq-eqb (length fields) 37 e, eq-eqb volume 72 f)

-- What reading refuses, by its lengths, the reserved bytes and the others.
module _ (volume : List ℕ) (fields : ℕ) where
  pub read_before : fields ≡ 37 → length volume ≡ 72 → zeros (take 3 volume) ≡ false → 61 ≡ read_refusal volume fields
  unfolding read_refusal
  read_before e f g = rw (eq-eqb fields 37 e, eq-eqb (length volume) 72 f, g)

  pub read_behind : fields ≡ 37 → length volume ≡ 72 → zeros (take 3 volume) ≡ true → zeros (take (length volume - 40) (drop 40 volume)) ≡ false → 61 ≡ read_refusal volume fields
  unfolding read_refusal
  read_behind e f g h = rw (eq-eqb fields 37 e, eq-eqb (length volume) 72 f, g, sym (ap zeros (take_rest 40 volume)) ∙ h)

  pub read_bytes : fields ≡ 37 → length volume ≡ 72 → zeros (take 3 volume) ≡ true → zeros (take (length volume - 40) (drop 40 volume)) ≡ true
      → byte_refusal (get_or volume 5 0) (get_or volume 6 0) ≡ read_refusal volume fields
  unfolding read_refusal
  read_bytes e f g h = rw (eq-eqb fields 37 e, eq-eqb (length volume) 72 f, g, sym (ap zeros (take_rest 40 volume)) ∙ h, field_at volume 2 (omega arith), field_at volume 3 (omega arith))

-- What a call that refuses nothing has shown of its lengths.
pub record Lengths (f v : ℕ) : Type 0 where
  pub fields : f ≡ fields_length
  pub volume : v ≡ volume_length

lengths : (f v : ℕ) → lengths_kept f v ≡ true → Lengths f v
lengths f v e = let h = both (eqb f 37) (eqb v 72) e in record { fields = eqb-true f 37 h.0; volume = eqb-true v 72 h.1 }

pub record MakeKept (fields : List ℕ) (volume : ℕ) : Type 0 where
  pub long : Lengths (length fields) volume
  pub bytes : byte_refusal (length_and_thickness fields) (flags fields) ≡ 0

pub make_kept : (fields : List ℕ) (volume : ℕ) → make_refusal fields volume ≡ 0 → MakeKept fields volume
unfolding make_refusal
make_kept fields volume e =
    let p = passed (not (lengths_kept (length fields) volume)) 59 e in
    record { long = lengths (length fields) volume (not-false _ p.0); bytes = p.1 }

pub record ReadKept (volume : List ℕ) (fields : ℕ) : Type 0 where
  pub long : Lengths fields (length volume)
  pub before : zeros (take 3 volume) ≡ true
  pub behind : zeros (drop 40 volume) ≡ true
  pub bytes : byte_refusal (length_and_thickness (fields_of volume)) (flags (fields_of volume)) ≡ 0

pub read_kept : (volume : List ℕ) (fields : ℕ) → read_refusal volume fields ≡ 0 → ReadKept volume fields
unfolding read_refusal
read_kept volume fields e =
    let p = passed (not (lengths_kept fields (length volume))) 59 e in
    let q = passed (not (reserved_kept volume)) 60 p.1 in
    let r = both (zeros (take 3 volume)) (zeros (drop 40 volume)) (not-false _ q.0) in
    record { long = lengths fields (length volume) (not-false _ p.0); before = r.0; behind = r.1; bytes = q.1 }

-- What a call answers and leaves, where it refuses and where it does not.
pub refused_answer : (r : LoaderRefusal) (refusal : ℕ) (fields : List ℕ) → loader_number r ≡ refusal → answered (Err r) ≡ answer_of refusal fields
unfolding answer_of
refused_answer r refusal fields e = rw (← e, loader_not_zero r)

pub accepted_answer : (refusal : ℕ) (fields : List ℕ) (a : VolumeAnswer) → 0 ≡ refusal → a ≡ type_of (length_and_thickness fields) → a ≡ answer_of refusal fields
unfolding answer_of
accepted_answer refusal fields a e f = rw (← e) f

pub typed_left : (byte : ℕ) (new old : List ℕ) → if_accepted (told (type_of byte)) new old ≡ new
typed_left byte new old = by (eqb (thickness byte) 0) _ _ refl refl
  where
    by : (b : Bool) (x y : VolumeAnswer) → if_accepted (told x) new old ≡ new → if_accepted (told y) new old ≡ new → if_accepted (told (cond b x y)) new old ≡ new
    by true x y e f = e
    by false x y e f = f

pub accepted_left : (byte : ℕ) (a : VolumeAnswer) (new old after : List ℕ) → a ≡ type_of byte → after ≡ new → after ≡ if_accepted (told a) new old
accepted_left byte a new old after e f = f ∙ sym (ap (λ (b : VolumeAnswer). if_accepted (told b) new old) e ∙ typed_left byte new old)

-- A call that tells 0 refuses nothing, and fills its slice.
pub none_refused : (refusal : ℕ) (fields : List ℕ) (a : VolumeAnswer) → a ≡ answer_of refusal fields → refusal_of a ≡ 0 → refusal ≡ 0
unfolding answer_of
none_refused refusal fields a e z = by (eqb refusal 0) refl (sym (ap refusal_of e) ∙ z)
  where
    by : (b : Bool) → eqb refusal 0 ≡ b → refusal_of (cond b (type_of (length_and_thickness fields)) (Refused refusal)) ≡ 0 → refusal ≡ 0
    by true x h = eqb-true refusal 0 x
    by false x h = h

pub filled : (refusal : ℕ) (fields : List ℕ) (a : VolumeAnswer) (new old after : List ℕ) → a ≡ answer_of refusal fields → refusal ≡ 0 → after ≡ if_accepted (told a) new old → after ≡ new
unfolding answer_of
filled refusal fields a new old after e z f =
    let typed : a ≡ type_of (length_and_thickness fields) = e ∙ rw z in
    f ∙ ap (λ (b : VolumeAnswer). if_accepted (told b) new old) typed ∙ typed_left (length_and_thickness fields) new old

-- .. and its outcome is the two thickness bits.
pub thickness_most : (byte flags : ℕ) → byte_refusal byte flags ≡ 0 → thickness byte ≤ 1
unfolding byte_refusal
thickness_most byte flags k = leb-true (thickness byte) 1 (not-false _ (passed (not (thickness_kept byte)) 61 k).0)

pub type_told : (refusal : ℕ) (fields : List ℕ) → refusal ≡ 0 → byte_refusal (length_and_thickness fields) (flags fields) ≡ 0
    → told (answer_of refusal fields) ≡ answer.Accepted (thickness (length_and_thickness fields)) 0 0 0
unfolding answer_of
type_told refusal fields z k =
    rw (eq-eqb refusal 0 z) (by (thickness (length_and_thickness fields)) (thickness_most (length_and_thickness fields) (flags fields) k))
  where
    by : (bits : ℕ) → bits ≤ 1 → told (cond (eqb bits 0) TypeA TypeB) ≡ answer.Accepted bits 0 0 0
    by zero h = refl
    by (suc zero) h = refl
    by (suc (suc more)) h = absurd (omega arith)

-- Nothing is refused where all is kept.
pub make_accepts : (fields : List ℕ) (volume : ℕ) → MakeKept fields volume → make_refusal fields volume ≡ 0
make_accepts fields volume k = sym (make_bytes fields volume k.long.fields k.long.volume) ∙ k.bytes

pub read_accepts : (volume : List ℕ) (fields : ℕ) → ReadKept volume fields → read_refusal volume fields ≡ 0
unfolding read_refusal
read_accepts volume fields k = rw (eq-eqb fields 37 k.long.fields, eq-eqb (length volume) 72 k.long.volume, k.before, k.behind) k.bytes

-- A volume that is made, taken apart.
module _ (fields : List ℕ) (long : length fields ≡ 37) where
  pub fields_made : fields_of (volume_of fields) ≡ fields
  unfolding fields_of volume_of
  fields_made = take_at fields (replicate 32 0) 37 long

  pub zeros_before : zeros (take 3 (volume_of fields)) ≡ true
  unfolding volume_of
  zeros_before = refl

  pub zeros_behind : zeros (drop 40 (volume_of fields)) ≡ true
  unfolding volume_of
  zeros_behind = rw (drop_at fields (replicate 32 0) 37 long)

  pub length_volume : length (volume_of fields) ≡ 72
  unfolding volume_of
  length_volume = simp (length-append, length-replicate) (omega arith)

-- A volume between zeros.
module _ (volume : List ℕ) (long : length volume ≡ 72) where
  pub length_fields : length (fields_of volume) ≡ 37
  unfolding fields_of
  length_fields = length-take-le 37 (drop 3 volume) (omega (arith, length-drop 3 volume))

  pub volume_again : zeros (take 3 volume) ≡ true → zeros (drop 40 volume) ≡ true → volume_of (fields_of volume) ≡ volume
  unfolding fields_of volume_of
  volume_again before behind =
      let three : length (take 3 volume) ≡ 3 = length-take-le 3 volume (omega arith) in
      let rest : length (drop 40 volume) ≡ 32 = omega (arith, length-drop 40 volume) in
      let first : replicate 3 0 ≡ take 3 volume = ap (λ (n : ℕ). replicate n 0) (sym three) ∙ zeros_are (take 3 volume) before in
      let last : replicate 32 0 ≡ drop 37 (drop 3 volume) = ap (λ (n : ℕ). replicate n 0) (sym rest) ∙ zeros_are (drop 40 volume) behind ∙ sym (drop-drop 37 3 volume) in
      ap (λ (l : List ℕ). l ++ (take 37 (drop 3 volume) ++ replicate 32 0)) first
      ∙ ap (λ (l : List ℕ). take 3 volume ++ (take 37 (drop 3 volume) ++ l)) last
      ∙ ap (λ (l : List ℕ). take 3 volume ++ l) (take-append-drop 37 (drop 3 volume))
      ∙ take-append-drop 3 volume
