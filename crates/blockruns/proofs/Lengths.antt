-- The lengths that a layout's totals and entire pieces tell are those of its records, and the block rule is kept just where they
-- are all the block size.
-- Assumes nothing.
use Prim.Native.Nat.{ℕ, suc, ◌≤◌}
use native.Mathlib.Omega.{arith}
use mathlib.Core.List.{List, [], ◌∷◌, ◌++◌}
use mathlib.Core.Bool.{Bool, true, false, cond}
use mathlib.Core.Path.{◌≡◌, refl, ap, ◌∙◌}
use lib.Dec.{eqb}
use lib.ListN.{length}
use borrow.Author.Tests.{eqb-true, eq-eqb}
use Rattle.std.specs.Prelude.{Option, Some, None}
use Rattle.group.specs.declared.Kind.TheVariants.{Total, Separator, Middle, Start, Last, Entire, Skip}
use Rattle.group.proofs.FlagLaws.{meaning_of_flag}
use Rattle.layout.specs.Items.{Item, Laid, Tail, Piece, Token, Each, items, tokens, tail_tokens, middles, late_by, whole_of}
use Rattle.layout.specs.Items.Each.{each_none, each_more}
use Rattle.layout.specs.Items.Item.{record_item, separator_item}
use Rattle.layout.specs.Items.Laid.{laid_entire, laid_spanned, laid_separator, ended_early}
use Rattle.layout.specs.Items.Tail.{none_open, broken_inside, broken_owed}
use Rattle.layout.specs.Items.Piece.{a_total, a_separator, a_middle, a_start, a_last, an_entire}
use Rattle.layout.specs.Items.Token.{piece, group_end}
use Rattle.layout.specs.Layout.{kind_of, count_of, b4_after, plain_left, entries_of}
use Rattle.layout.proofs.Assembled.{pieces_in}
use Rattle.blockrule.specs.Bounds.{other_at}
use Rattle.blockruns.specs.Stated.{OfLength}

-- The counts of totals and entire pieces.
unfoldable pub lengths_of : List Piece → List ℕ
lengths_of [] = []
lengths_of (a_total n ∷ ps) = n ∷ lengths_of ps
lengths_of (a_separator v ∷ ps) = lengths_of ps
lengths_of (a_middle bs ∷ ps) = lengths_of ps
lengths_of (a_start bs ∷ ps) = lengths_of ps
lengths_of (a_last bs ∷ ps) = lengths_of ps
lengths_of (an_entire bs ∷ ps) = length bs ∷ lengths_of ps

-- The lengths of records.
unfoldable pub record_lengths : List Item → List ℕ
record_lengths [] = []
record_lengths (record_item bs ∷ is) = length bs ∷ record_lengths is
record_lengths (separator_item v ∷ is) = record_lengths is

lengths_middles : (ps : List (List ℕ)) (ts : List Token) → lengths_of (pieces_in (middles ps ts)) ≡ lengths_of (pieces_in ts)
unfolding lengths_of pieces_in middles
lengths_middles [] ts = refl
lengths_middles (p ∷ ps) ts = lengths_middles ps ts

lengths_late : (late : Bool) (ts : List Token) → lengths_of (pieces_in (late_by late ts)) ≡ lengths_of (pieces_in ts)
unfolding late_by pieces_in
lengths_late true ts = refl
lengths_late false ts = refl

-- "A total equals the sum of its parts": of laid items, what totals and entire pieces tell.
pub lengths_of_tokens : (ls : List Laid) (t : Tail) → lengths_of (pieces_in (tokens ls t)) ≡ record_lengths (items ls)
unfolding lengths_of record_lengths pieces_in tokens tail_tokens items
lengths_of_tokens [] none_open = refl
lengths_of_tokens [] (broken_inside p ps) = lengths_middles ps []
lengths_of_tokens [] (broken_owed p ps q) = lengths_middles ps (piece (a_last q) ∷ group_end ∷ [])
lengths_of_tokens (laid_entire bs ∷ ls) t = ap {B = List ℕ} (λ r. length bs ∷ r) (lengths_of_tokens ls t)
lengths_of_tokens (laid_spanned p ps q late ∷ ls) t =
    let n : ℕ = length (whole_of p ps q) in
    lengths_middles ps (piece (a_last q) ∷ late_by late (piece (a_total n) ∷ tokens ls t))
    ∙ lengths_late late (piece (a_total n) ∷ tokens ls t)
    ∙ ap {B = List ℕ} (λ r. n ∷ r) (lengths_of_tokens ls t)
lengths_of_tokens (laid_separator v ∷ ls) t = lengths_of_tokens ls t
lengths_of_tokens (ended_early ∷ ls) t = lengths_of_tokens ls t

pub lengths_append : (ps qs : List Piece) → lengths_of (ps ++ qs) ≡ lengths_of ps ++ lengths_of qs
unfolding lengths_of
lengths_append [] qs = refl
lengths_append (a_total n ∷ ps) qs = ap {B = List ℕ} (λ r. n ∷ r) (lengths_append ps qs)
lengths_append (a_separator v ∷ ps) qs = lengths_append ps qs
lengths_append (a_middle bs ∷ ps) qs = lengths_append ps qs
lengths_append (a_start bs ∷ ps) qs = lengths_append ps qs
lengths_append (a_last bs ∷ ps) qs = lengths_append ps qs
lengths_append (an_entire bs ∷ ps) qs = ap {B = List ℕ} (λ r. length bs ∷ r) (lengths_append ps qs)

-- Each of two lists.
pub each_join : {A : Type 0} {P : A → Type 0} {a b : List A} → Each P a → Each P b → Each P (a ++ b)
each_join each_none y = y
each_join (each_more h x) y = each_more h (each_join x y)

pub each_left : {A : Type 0} {P : A → Type 0} (a b : List A) → Each P (a ++ b) → Each P a
each_left [] b x = each_none
each_left (h ∷ a) b (each_more p x) = each_more p (each_left a b x)

pub each_right : {A : Type 0} {P : A → Type 0} (a b : List A) → Each P (a ++ b) → Each P b
each_right [] b x = x
each_right (h ∷ a) b (each_more p x) = each_right a b x

abbrev pub Is : ℕ → ℕ → Type 0
Is block n = n ≡ block

-- Records of one length.
pub lengths_of_records : {block : ℕ} (is : List Item) → Each (OfLength block) is → Each (Is block) (record_lengths is)
unfolding record_lengths
lengths_of_records [] x = each_none
lengths_of_records (record_item bs ∷ is) (each_more h x) = each_more h (lengths_of_records is x)
lengths_of_records (separator_item v ∷ is) (each_more h x) = lengths_of_records is x

pub records_of_lengths : {block : ℕ} (is : List Item) → Each (Is block) (record_lengths is) → Each (OfLength block) is
unfolding record_lengths
records_of_lengths [] x = each_none
records_of_lengths (record_item bs ∷ is) (each_more h x) = each_more h (records_of_lengths is x)
records_of_lengths (separator_item v ∷ is) x = each_more tt (records_of_lengths is x)

-- No entry of pieces breaks the block rule just where they tell the block size.
pub none_other : {block : ℕ} (plain over place : ℕ) (ps : List Piece) → Each (Is block) (lengths_of ps) → other_at block (entries_of plain over ps) place ≡ None
unfolding other_at entries_of lengths_of kind_of count_of
none_other plain over place [] x = rw (meaning_of_flag Skip (b4_after plain))
none_other {block} plain over place (a_total n ∷ ps) (each_more h x) = rw (meaning_of_flag Total (b4_after plain), eq-eqb n block h) (none_other (plain_left plain) over (suc place) ps x)
none_other plain over place (a_separator v ∷ ps) x = rw (meaning_of_flag Separator (b4_after plain)) (none_other (plain_left plain) over (suc place) ps x)
none_other plain over place (a_middle bs ∷ ps) x = rw (meaning_of_flag Middle (b4_after plain)) (none_other (plain_left plain) over (suc place) ps x)
none_other plain over place (a_start bs ∷ ps) x = rw (meaning_of_flag Start (b4_after plain)) (none_other (plain_left plain) over (suc place) ps x)
none_other plain over place (a_last bs ∷ ps) x = rw (meaning_of_flag Last (b4_after plain)) (none_other (plain_left plain) over (suc place) ps x)
none_other {block} plain over place (an_entire bs ∷ ps) (each_more h x) =
    rw (meaning_of_flag Entire (b4_after plain), eq-eqb (length bs) block h) (none_other (plain_left plain) over (suc place) ps x)

told : (n block place : ℕ) (rest : Option ℕ) → cond (eqb n block) rest (Some place) ≡ None → (n ≡ block) × (rest ≡ None)
told n block place rest e = by (eqb n block) refl e
  where
    by : (b : Bool) → eqb n block ≡ b → cond b rest (Some place) ≡ None → (n ≡ block) × (rest ≡ None)
    by true x h = (eqb-true n block x, h)
    by false x h = let z : ◌≡◌ {A = ℕ} 0 1 = cc in absurd (omega arith)

pub all_told : {block : ℕ} (plain over place : ℕ) (ps : List Piece) → other_at block (entries_of plain over ps) place ≡ None → Each (Is block) (lengths_of ps)
unfolding other_at entries_of lengths_of kind_of count_of
all_told plain over place [] e = each_none
all_told {block} plain over place (a_total n ∷ ps) e =
    let (h, r) = told n block place (other_at block (entries_of (plain_left plain) over ps) (suc place)) (rw (meaning_of_flag Total (b4_after plain)) at e) in
    each_more h (all_told (plain_left plain) over (suc place) ps r)
all_told plain over place (a_separator v ∷ ps) e = all_told (plain_left plain) over (suc place) ps (rw (meaning_of_flag Separator (b4_after plain)) at e)
all_told plain over place (a_middle bs ∷ ps) e = all_told (plain_left plain) over (suc place) ps (rw (meaning_of_flag Middle (b4_after plain)) at e)
all_told plain over place (a_start bs ∷ ps) e = all_told (plain_left plain) over (suc place) ps (rw (meaning_of_flag Start (b4_after plain)) at e)
all_told plain over place (a_last bs ∷ ps) e = all_told (plain_left plain) over (suc place) ps (rw (meaning_of_flag Last (b4_after plain)) at e)
all_told {block} plain over place (an_entire bs ∷ ps) e =
    let (h, r) = told (length bs) block place (other_at block (entries_of (plain_left plain) over ps) (suc place)) (rw (meaning_of_flag Entire (b4_after plain)) at e) in
    each_more h (all_told (plain_left plain) over (suc place) ps r)
