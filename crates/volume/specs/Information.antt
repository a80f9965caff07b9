-- Source document 001, 16.4.2.2 and figure 46: Volume Information, what making and reading it answer, and what they leave.
-- Assumes nothing.
use Rattle.std.specs.Prelude.{ℕ, ◌+◌, ◌/◌, ◌%◌, ◌≡◌, List, ◌++◌, Bool, cond, not, ◌&&◌, eqb, leb, length, get_or, take, drop, replicate, Result, Ok, Err}
use Rattle.numbers.specs.Store.{zeros}
use Rattle.answer.specs.Answer.{Told}
use Rattle.answer.specs.Answer as answer
use Rattle.answer.specs.Answer.{refusal_told, if_accepted}
use Rattle.answer.specs.declared.refusals.LoaderRefusal.{LoaderRefusal}
use Rattle.answer.specs.Numbers.{loader_number}
use Rattle.volume.specs.declared.TapeType.{TapeType}
use Rattle.volume.specs.declared.TapeType.TheVariants as tape

-- What making and reading answer: the tape's type, or the number of the refusal.
pub data VolumeAnswer : Type 0 where
  TypeA : VolumeAnswer
  TypeB : VolumeAnswer
  Refused : (refusal : ℕ) → VolumeAnswer

-- What a result of the code answers.
abbrev pub answered : Result TapeType LoaderRefusal → VolumeAnswer
answered (Ok tape.A) = TypeA
answered (Ok tape.B) = TypeB
answered (Err refusal) = Refused (loader_number refusal)

-- 16.4.2.2: "This 72-byte field"
abbrev pub volume_length : ℕ
volume_length = 72

-- Figure 46, the fields that are not reserved, in its order: last read partition, last updated partition, length and thickness,
-- flags, last partition (one byte each), device area map (32).
abbrev pub fields_length : ℕ
fields_length = 37

-- Figure 46: "Reserved 3" before the fields, and "Reserved 32" behind them.
abbrev pub reserved_before : ℕ
reserved_before = 3

abbrev pub reserved_behind : ℕ
reserved_behind = 32

-- Figure 46: where "Length and Thickness Numbers" and "Flags" stand among the fields.
abbrev pub length_and_thickness : List ℕ → ℕ
length_and_thickness fields = get_or fields 2 0

abbrev pub flags : List ℕ → ℕ
flags fields = get_or fields 3 0

-- Figure 46: the volume that is made, its reserved fields "Set to all ZEROs".
unfoldable pub volume_of : List ℕ → List ℕ
volume_of fields = replicate reserved_before 0 ++ fields ++ replicate reserved_behind 0

-- What reading gives back: what stands between the reserved fields.
unfoldable pub fields_of : List ℕ → List ℕ
fields_of volume = take fields_length (drop reserved_before volume)

-- 60: both slices are of their lengths.
abbrev pub lengths_kept : (fields volume : ℕ) → Bool
lengths_kept fields volume = eqb fields fields_length && eqb volume volume_length

-- 61: "Reserved .. Set to all ZEROs", both of them.
abbrev pub reserved_kept : List ℕ → Bool
reserved_kept volume = zeros (take reserved_before volume) && zeros (drop (reserved_before + fields_length) volume)

-- 16.4.2.2.3: "Bit 8 and bit 7" of the byte.
abbrev pub thickness : ℕ → ℕ
thickness byte = byte / 64

-- 62: "00 Indicate Type A", "01 Indicate Type B", "Other settings of these bits are prohibited".
abbrev pub thickness_kept : ℕ → Bool
thickness_kept byte = leb (thickness byte) 1

-- 63: "Bit 6 to bit 8 shall be set to all ZEROs", "Bit 5 shall be set to ONE". Bits 1 to 4 are carried as found.
abbrev pub flags_kept : ℕ → Bool
flags_kept byte = eqb (byte / 32) 0 && eqb (byte / 16 % 2) 1

-- 62 and 63, in that order: the number of what the byte of length and thickness and the flags refuse, 0 if nothing.
unfoldable pub byte_refusal : (byte flags : ℕ) → ℕ
byte_refusal byte flags = cond (not (thickness_kept byte)) 62 (cond (not (flags_kept flags)) 63 0)

-- Making, from the fields and the length of the volume's slice: 60, 62, 63. There is no 61: the reserved bytes are its own.
unfoldable pub make_refusal : (fields : List ℕ) (volume : ℕ) → ℕ
make_refusal fields volume =
    cond (not (lengths_kept (length fields) volume)) 60 (byte_refusal (length_and_thickness fields) (flags fields))

-- Reading, from the volume and the length of the fields' slice: 60, 61, 62, 63.
unfoldable pub read_refusal : (volume : List ℕ) (fields : ℕ) → ℕ
read_refusal volume fields =
    cond (not (lengths_kept fields (length volume))) 60
    (cond (not (reserved_kept volume)) 61
    (byte_refusal (length_and_thickness (fields_of volume)) (flags (fields_of volume))))

-- 16.4.2.2.3: "00 Indicate Type A", and otherwise "01 Indicate Type B".
abbrev pub type_of : ℕ → VolumeAnswer
type_of byte = cond (eqb (thickness byte) 0) TypeA TypeB

-- A call's answer: the refusal, or the type that the fields say.
unfoldable pub answer_of : (refusal : ℕ) (fields : List ℕ) → VolumeAnswer
answer_of refusal fields = cond (eqb refusal 0) (type_of (length_and_thickness fields)) (Refused refusal)

-- What the firmware is told of each case: outcome 0 for Type A, 1 for Type B.
abbrev pub told : VolumeAnswer → Told
told TypeA = answer.Accepted 0 0 0 0
told TypeB = answer.Accepted 1 0 0 0
told (Refused refusal) = answer.RefusedAt refusal 0

-- Making Volume Information: what it answers, and what it leaves in the volume's slice in place of `old`.
pub record Makes (fields old : List ℕ) (a : VolumeAnswer) (volume : List ℕ) : Type 0 where
  pub answer : a ≡ answer_of (make_refusal fields (length old)) fields
  pub volume_left : volume ≡ if_accepted (told a) (volume_of fields) old

-- Reading Volume Information: what it answers, and what it leaves in the fields' slice in place of `old`.
pub record Reads (volume old : List ℕ) (a : VolumeAnswer) (fields : List ℕ) : Type 0 where
  pub answer : a ≡ answer_of (read_refusal volume (length old)) (fields_of volume)
  pub fields_left : fields ≡ if_accepted (told a) (fields_of volume) old

-- The refusal that an answer tells, 0 where the call is accepted.
abbrev pub refusal_of : VolumeAnswer → ℕ
refusal_of a = refusal_told (told a)
