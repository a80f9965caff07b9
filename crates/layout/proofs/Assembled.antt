-- What the pieces of a layout's tokens finish and leave open is its items and the bytes so far, inside a record or owed: no
-- soundness is needed.
-- Assumes nothing.
use Prim.Native.Nat.{ℕ}
use mathlib.Core.List.{List, [], ◌∷◌, ◌++◌, map, append_assoc, append-nil}
use mathlib.Core.Bool.{Bool, true, false}
use mathlib.Core.Path.{◌≡◌, refl, ap, ◌∙◌}
use Rattle.group.specs.declared.Phase.{Phase}
use Rattle.group.specs.declared.Phase.TheVariants.{Free, Inside, Owed}
use Rattle.layout.specs.Items.{Item, Laid, Tail, Piece, Token, items, so_far, tokens, tail_tokens, middles, late_by, grouped, joined, whole_of}
use Rattle.layout.specs.Items.Item.{record_item, separator_item}
use Rattle.layout.specs.Items.Laid.{laid_entire, laid_spanned, laid_separator, ended_early}
use Rattle.layout.specs.Items.Tail.{none_open, broken_inside, broken_owed}
use Rattle.layout.specs.Items.Piece.{a_total, a_last}
use Rattle.layout.specs.Items.Token.{piece, group_end}
use Rattle.layout.specs.Reading.{items_after, begun_after, phase_after}

-- The pieces among tokens, the ends forgotten.
unfoldable pub pieces_in : List Token → List Piece
pieces_in [] = []
pieces_in (piece p ∷ ts) = p ∷ pieces_in ts
pieces_in (group_end ∷ ts) = pieces_in ts

-- The pieces of groups, one after the other.
unfoldable pub flat : List (List Piece) → List Piece
flat [] = []
flat (ps ∷ gs) = ps ++ flat gs

in_map : (ps : List Piece) (ts : List Token) → pieces_in (map piece ps ++ ts) ≡ ps ++ pieces_in ts
unfolding pieces_in
in_map [] ts = refl
in_map (p ∷ ps) ts = ap {B = List Piece} (λ r. p ∷ r) (in_map ps ts)

pub in_grouped : (gs : List (List Piece)) → pieces_in (grouped gs) ≡ flat gs
unfolding pieces_in grouped flat
in_grouped [] = refl
in_grouped (ps ∷ gs) = in_map ps (group_end ∷ grouped gs) ∙ ap {B = List Piece} (λ r. ps ++ r) (in_grouped gs)

-- Middles only add their bytes.
items_middles : (b : List ℕ) (ps : List (List ℕ)) (ts : List Token) → items_after b (pieces_in (middles ps ts)) ≡ items_after (b ++ joined ps) (pieces_in ts)
unfolding items_after pieces_in middles joined
items_middles b [] ts = rw append-nil
items_middles b (p ∷ ps) ts = rw (items_middles (b ++ p) ps ts, append_assoc)

begun_middles : (b : List ℕ) (ps : List (List ℕ)) (ts : List Token) → begun_after b (pieces_in (middles ps ts)) ≡ begun_after (b ++ joined ps) (pieces_in ts)
unfolding begun_after pieces_in middles joined
begun_middles b [] ts = rw append-nil
begun_middles b (p ∷ ps) ts = rw (begun_middles (b ++ p) ps ts, append_assoc)

in_late : (l : Bool) (ts : List Token) → pieces_in (late_by l ts) ≡ pieces_in ts
unfolding pieces_in late_by
in_late true ts = refl
in_late false ts = refl

-- A spanned record's bytes, whatever its total says.
items_spanned : (p : List ℕ) (ps : List (List ℕ)) (q : List ℕ) (l : Bool) (n : ℕ) (ts : List Token) →
    items_after p (pieces_in (middles ps (piece (a_last q) ∷ late_by l (piece (a_total n) ∷ ts)))) ≡ record_item (whole_of p ps q) ∷ items_after [] (pieces_in ts)
unfolding items_after pieces_in whole_of
items_spanned p ps q l n ts = rw (items_middles p ps (piece (a_last q) ∷ late_by l (piece (a_total n) ∷ ts)), in_late)

begun_spanned : (p : List ℕ) (ps : List (List ℕ)) (q : List ℕ) (l : Bool) (n : ℕ) (ts : List Token) →
    begun_after p (pieces_in (middles ps (piece (a_last q) ∷ late_by l (piece (a_total n) ∷ ts)))) ≡ begun_after [] (pieces_in ts)
unfolding begun_after pieces_in
begun_spanned p ps q l n ts = rw (begun_middles p ps (piece (a_last q) ∷ late_by l (piece (a_total n) ∷ ts)), in_late)

pub items_of_tokens : (ls : List Laid) (t : Tail) → items_after [] (pieces_in (tokens ls t)) ≡ items ls
unfolding items_after pieces_in tokens items tail_tokens whole_of
items_of_tokens [] none_open = refl
items_of_tokens [] (broken_inside p ps) = items_middles p ps []
items_of_tokens [] (broken_owed p ps q) = items_middles p ps (piece (a_last q) ∷ group_end ∷ [])
items_of_tokens (laid_entire r ∷ ls) t = ap {B = List Item} (λ i. record_item r ∷ i) (items_of_tokens ls t)
items_of_tokens (laid_spanned p ps q l ∷ ls) t = items_spanned p ps q l _ (tokens ls t) ∙ ap {B = List Item} (λ i. record_item (whole_of p ps q) ∷ i) (items_of_tokens ls t)
items_of_tokens (laid_separator v ∷ ls) t = ap {B = List Item} (λ i. separator_item v ∷ i) (items_of_tokens ls t)
items_of_tokens (ended_early ∷ ls) t = items_of_tokens ls t

pub begun_of_tokens : (ls : List Laid) (t : Tail) → begun_after [] (pieces_in (tokens ls t)) ≡ so_far t
unfolding begun_after pieces_in tokens tail_tokens so_far whole_of
begun_of_tokens [] none_open = refl
begun_of_tokens [] (broken_inside p ps) = begun_middles p ps []
begun_of_tokens [] (broken_owed p ps q) = begun_middles p ps (piece (a_last q) ∷ group_end ∷ [])
begun_of_tokens (laid_entire r ∷ ls) t = begun_of_tokens ls t
begun_of_tokens (laid_spanned p ps q l ∷ ls) t = begun_spanned p ps q l _ (tokens ls t) ∙ begun_of_tokens ls t
begun_of_tokens (laid_separator v ∷ ls) t = begun_of_tokens ls t
begun_of_tokens (ended_early ∷ ls) t = begun_of_tokens ls t

-- The phase in which a run leaves its reader, by what is open at its end.
abbrev pub phase_of_tail : Tail → Phase
phase_of_tail none_open = Free
phase_of_tail (broken_inside p ps) = Inside
phase_of_tail (broken_owed p ps q) = Owed

phase_middles : (ps : List (List ℕ)) (ts : List Token) → phase_after Inside (pieces_in (middles ps ts)) ≡ phase_after Inside (pieces_in ts)
unfolding phase_after pieces_in middles
phase_middles [] ts = refl
phase_middles (p ∷ ps) ts = phase_middles ps ts

phase_spanned : (ps : List (List ℕ)) (q : List ℕ) (l : Bool) (n : ℕ) (ts : List Token) →
    phase_after Inside (pieces_in (middles ps (piece (a_last q) ∷ late_by l (piece (a_total n) ∷ ts)))) ≡ phase_after Free (pieces_in ts)
unfolding phase_after pieces_in
phase_spanned ps q l n ts = rw (phase_middles ps (piece (a_last q) ∷ late_by l (piece (a_total n) ∷ ts)), in_late)

pub phase_of_tokens : (ls : List Laid) (t : Tail) → phase_after Free (pieces_in (tokens ls t)) ≡ phase_of_tail t
unfolding phase_after pieces_in tokens tail_tokens
phase_of_tokens [] none_open = refl
phase_of_tokens [] (broken_inside p ps) = phase_middles ps []
phase_of_tokens [] (broken_owed p ps q) = phase_middles ps (piece (a_last q) ∷ group_end ∷ [])
phase_of_tokens (laid_entire r ∷ ls) t = phase_of_tokens ls t
phase_of_tokens (laid_spanned p ps q l ∷ ls) t = phase_spanned ps q l _ (tokens ls t) ∙ phase_of_tokens ls t
phase_of_tokens (laid_separator v ∷ ls) t = phase_of_tokens ls t
phase_of_tokens (ended_early ∷ ls) t = phase_of_tokens ls t
