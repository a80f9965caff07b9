-- Document 01, "The group": the seven kinds of entry, their flags, and bit b4.
-- Assumes nothing.
use Rattle.std.specs.Prelude.{ℕ, Option, Some, None, ◌+◌, ◌/◌, ◌%◌, List, [], ◌∷◌, Bool, true, false, cond, eqb}
use Rattle.group.specs.declared.Kind.{Kind}
use Rattle.group.specs.declared.Kind.TheVariants.{Total, Separator, Middle, Start, Last, Entire, Skip}

-- The table's column "kind".
abbrev pub kind_number : Kind → ℕ
kind_number Total = 1
kind_number Separator = 2
kind_number Middle = 3
kind_number Start = 4
kind_number Last = 5
kind_number Entire = 6
kind_number Skip = 7

-- The table's columns "flag, bit b4 = 0" and "b4 = 1".
abbrev pub flag_of : Kind → Bool → ℕ
flag_of Total false = 0x01
flag_of Total true = 0x09
flag_of Separator false = 0x07
flag_of Separator true = 0x0F
flag_of Middle false = 0x40
flag_of Middle true = 0x48
flag_of Start false = 0x42
flag_of Start true = 0x4A
flag_of Last false = 0x60
flag_of Last true = 0x68
flag_of Entire false = 0x63
flag_of Entire true = 0x6B
flag_of Skip false = 0x80
flag_of Skip true = 0x88

-- What a flag byte means: a kind and its bit b4, or nothing.
abbrev pub Meaning : Type 0
Meaning = Option (Kind × Bool)

abbrev pub kinds : List Kind
kinds = Total ∷ Separator ∷ Middle ∷ Start ∷ Last ∷ Entire ∷ Skip ∷ []

abbrev pub meaning_among : List Kind → ℕ → Meaning
meaning_among [] flag = None
meaning_among (k ∷ ks) flag =
    cond (eqb flag (flag_of k false)) (Some (k, false))
    (cond (eqb flag (flag_of k true)) (Some (k, true)) (meaning_among ks flag))

-- What a flag means: the kind that has it, with its b4. "No other flag is valid."
unfoldable pub meaning_of : ℕ → Meaning
meaning_of flag = meaning_among kinds flag

-- "b1 is the lowest bit": b4 is worth 8. Whether it is set in a flag, and the flag with it set.
abbrev pub b4_of : ℕ → Bool
b4_of flag = eqb (flag / 8 % 2) 1

abbrev pub with_b4 : ℕ → ℕ
with_b4 flag = cond (b4_of flag) flag (flag + 8)
