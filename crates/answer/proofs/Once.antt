-- No two refusals of a room have one number, and no two results of a call tell the same: so a contract that says what is told settles
-- the code's own result.
-- Assumes nothing.
use mathlib.Core.Path.{◌≡◌, refl, sym, ap, ◌∙◌}
use native.Mathlib.Omega.{arith}
use Rattle.std.specs.Prelude.{ℕ, ◌-◌, [], ◌∷◌, get_or, Result, Ok, Err, false, cond, eqb}
use Rattle.answer.specs.declared.Refused.{Refused}
use Rattle.answer.specs.declared.Outcome.{Outcome}
use Rattle.answer.specs.declared.refusals.Refusal.{Refusal}
use Rattle.answer.specs.declared.refusals.Refusal.TheVariants as refusal
use Rattle.answer.specs.declared.refusals.TrackRefusal.{TrackRefusal}
use Rattle.answer.specs.declared.refusals.TrackRefusal.TheVariants as track
use Rattle.answer.specs.declared.refusals.ThirdRefusal.{ThirdRefusal}
use Rattle.answer.specs.declared.refusals.ThirdRefusal.TheVariants as third
use Rattle.answer.specs.declared.refusals.LoaderRefusal.{LoaderRefusal}
use Rattle.answer.specs.declared.refusals.LoaderRefusal.TheVariants as loader
use Rattle.answer.specs.declared.refusals.BlocksRefusal.{BlocksRefusal}
use Rattle.answer.specs.declared.refusals.BlocksRefusal.TheVariants as blocks
use Rattle.answer.specs.Numbers.{refusal_number, track_number, third_number, loader_number, blocks_number}
use Rattle.answer.specs.Results.{number_of, refused, told_of}

-- What keeps all that it is given apart.
abbrev pub OneToOne : {A B : Type 0} → (A → B) → Type 0
OneToOne {A} {B} f = (a b : A) → f a ≡ f b → a ≡ b

-- So does what can be taken back.
from_back : {A B : Type 0} (f : A → B) (back : B → A) → ((a : A) → back (f a) ≡ a) → OneToOne f
from_back f back again a b e = sym (again a) ∙ ap back e ∙ again b

-- The refusal that has a number: a room's stand in their order, from its first number on. (Of any other number it is the room's first.)
abbrev refusal_of : ℕ → Refusal
refusal_of n =
    get_or
    (refusal.State ∷ refusal.Size ∷ refusal.First ∷ refusal.Group ∷ refusal.Number ∷ refusal.Entries ∷
    refusal.Rows ∷ refusal.Flag ∷ refusal.B4 ∷ refusal.Follow ∷ refusal.Count ∷ refusal.Room ∷
    refusal.Skip ∷ refusal.NoNumber ∷ refusal.RecordLength ∷ refusal.Rest ∷ refusal.Open ∷ refusal.Separator ∷
    refusal.ZeroPart ∷ refusal.AboveOne ∷ refusal.TooLong ∷ refusal.TotalDiffers ∷ refusal.OwedEarly ∷ refusal.Explanation ∷ [])
    (n - 1) refusal.State

abbrev track_of : ℕ → TrackRefusal
track_of n = get_or (track.Length ∷ track.Parity ∷ track.Sw1 ∷ track.Sw2 ∷ track.Close ∷ []) (n - 30) track.Length

abbrev third_of : ℕ → ThirdRefusal
third_of n = get_or (third.RowLength ∷ third.Row ∷ third.SameRow ∷ third.Hopeless ∷ []) (n - 40) third.RowLength

abbrev loader_of : ℕ → LoaderRefusal
loader_of n = get_or (loader.Length ∷ loader.Reserved ∷ loader.Thickness ∷ loader.Flags ∷ []) (n - 60) loader.Length

abbrev blocks_of : ℕ → BlocksRefusal
blocks_of n = cond (eqb n 50) blocks.BlockSize (cond (eqb n 51) blocks.BlockLength (blocks.Reader (refusal_of n)))

refusal_again : (r : Refusal) → refusal_of (refusal_number r) ≡ r
refusal_again r = grind arith

track_again : (r : TrackRefusal) → track_of (track_number r) ≡ r
track_again r = grind arith

third_again : (r : ThirdRefusal) → third_of (third_number r) ≡ r
third_again r = grind arith

loader_again : (r : LoaderRefusal) → loader_of (loader_number r) ≡ r
loader_again r = grind arith

blocks_again : (r : BlocksRefusal) → blocks_of (blocks_number r) ≡ r
blocks_again (blocks.Reader r) = grind arith
blocks_again blocks.BlockSize = refl
blocks_again blocks.BlockLength = refl

pub refusal_once : (a b : Refusal) → refusal_number a ≡ refusal_number b → a ≡ b
refusal_once = from_back refusal_number refusal_of refusal_again

pub track_once : (a b : TrackRefusal) → track_number a ≡ track_number b → a ≡ b
track_once = from_back track_number track_of track_again

pub third_once : (a b : ThirdRefusal) → third_number a ≡ third_number b → a ≡ b
third_once = from_back third_number third_of third_again

pub loader_once : (a b : LoaderRefusal) → loader_number a ≡ loader_number b → a ≡ b
loader_once = from_back loader_number loader_of loader_again

pub blocks_once : (a b : BlocksRefusal) → blocks_number a ≡ blocks_number b → a ≡ b
blocks_once = from_back blocks_number blocks_of blocks_again

-- Results, by what a map makes of an outcome and of a refusal.
pub result_once : {A R B : Type 0} (f : Result A R → B) → ((x y : A) → f (Ok x) ≡ f (Ok y) → x ≡ y)
    → ((r t : R) → f (Err r) ≡ f (Err t) → r ≡ t) → ((x : A) (r : R) → f (Ok x) ≡ f (Err r) → ⊥) → OneToOne f
result_once f done refuses apart (Ok x) (Ok y) e = ap Ok (done x y e)
result_once f done refuses apart (Ok x) (Err r) e = absurd (apart x r e)
result_once f done refuses apart (Err r) (Ok x) e = absurd (apart x r (sym e))
result_once f done refuses apart (Err r) (Err t) e = ap Err (refuses r t e)

-- A refusal with its place.
pub refused_once : {R : Type 0} {number : R → ℕ} → OneToOne number → (a b : Refused R) → number a.refusal ≡ number b.refusal → a.place ≡ b.place → a ≡ b
refused_once once a b e f = λ i. refused (once a.refusal b.refusal e i) (f i)

same_outcome : (x y : Outcome) → x.outcome ≡ y.outcome → x.number ≡ y.number → x.entries ≡ y.entries → x.taken ≡ y.taken → x ≡ y
same_outcome x y e f g h = λ i. record { outcome = e i; number = f i; entries = g i; taken = h i }

-- What is refused, by its number; and what a call tells.
pub number_once : {R : Type 0} (number : R → ℕ) → OneToOne number → ((r : R) → eqb (number r) 0 ≡ false) → OneToOne (number_of {A = Unit {0}} number)
number_once number once not_zero = result_once (number_of number) (λ x y e. refl) once (λ x r e. cc (not_zero r))

pub told_once : {R : Type 0} (number : R → ℕ) → OneToOne number → OneToOne (told_of number)
told_once number once = result_once (told_of number) (λ x y e. same_outcome x y (cc) (cc) (cc) (cc)) (λ r t e. refused_once once r t (cc) (cc)) (λ x r e. cc)

-- A result in the place of what it tells, beside what a call leaves.
pub same_result : {A B C : Type 0} {f : A → B} → OneToOne f → (a b : A) → (f a ≡ f b) × C → (a ≡ b) × C
same_result once a b (e, left) = (once a b e, left)
