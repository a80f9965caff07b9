-- The pieces with which blocks begin are, in order, the first bytes of a run's records.
-- Assumes nothing.
use Prim.Native.Nat.{ℕ, suc, ◌≤◌}
use native.Mathlib.Omega.{arith}
use mathlib.Core.List.{List, [], ◌∷◌, ◌++◌, append_assoc, append-nil}
use mathlib.Core.Bool.{Bool, true, false, false≢true}
use mathlib.Core.Path.{◌≡◌, refl, sym, ap, ◌∙◌, subst}
use lib.ListN.{length, length-append, take, drop}
use lib.Seq.{drop-append_seam, take-append_seam}
use Rattle.layout.specs.Items.{Laid, Tail, Piece, Token, Each, SoundLaid, SoundTail, items, so_far, tokens, tail_tokens, middles, late_by, joined, whole_of}
use Rattle.layout.specs.Items.Each.{each_more}
use Rattle.layout.specs.Items.Laid.{laid_entire, laid_spanned, laid_separator, ended_early}
use Rattle.layout.specs.Items.Tail.{none_open, broken_inside, broken_owed}
use Rattle.layout.specs.Items.SoundLaid.{sound_entire, sound_spanned}
use Rattle.layout.specs.Items.SoundTail.{sound_inside, sound_owed}
use Rattle.layout.specs.Items.Piece.{a_total, a_separator, a_middle, a_start, a_last, an_entire}
use Rattle.layout.specs.Items.Token.{piece, group_end}
use Rattle.layout.specs.Layout.{data_of, user_data}
use Rattle.layout.proofs.Assembled.{pieces_in, flat}
use Rattle.blockplaces.specs.Places.{begins_block, begun, begun_in, records_of, opened}

-- The bytes of the pieces with which blocks begin.
unfoldable pub firsts : List Piece → List (List ℕ)
firsts [] = []
firsts (a_total n ∷ ps) = firsts ps
firsts (a_separator v ∷ ps) = firsts ps
firsts (a_middle bs ∷ ps) = firsts ps
firsts (a_start bs ∷ ps) = bs ∷ firsts ps
firsts (a_last bs ∷ ps) = firsts ps
firsts (an_entire bs ∷ ps) = bs ∷ firsts ps

-- Each of some bytes begins the record in its place.
pub data Heads : List (List ℕ) → List (List ℕ) → Type 0 where
  heads_none : Heads [] []
  heads_more : {p r : List ℕ} {ps rs : List (List ℕ)} (more : List ℕ) → r ≡ p ++ more → 1 ≤ length p → Heads ps rs → Heads (p ∷ ps) (r ∷ rs)

firsts_middles : (ps : List (List ℕ)) (ts : List Token) → firsts (pieces_in (middles ps ts)) ≡ firsts (pieces_in ts)
unfolding firsts pieces_in middles
firsts_middles [] ts = refl
firsts_middles (p ∷ ps) ts = firsts_middles ps ts

firsts_late : (late : Bool) (ts : List Token) → firsts (pieces_in (late_by late ts)) ≡ firsts (pieces_in ts)
unfolding pieces_in late_by
firsts_late true ts = refl
firsts_late false ts = refl

firsts_spanned : (ps : List (List ℕ)) (q : List ℕ) (late : Bool) (n : ℕ) (ts : List Token) →
    firsts (pieces_in (middles ps (piece (a_last q) ∷ late_by late (piece (a_total n) ∷ ts)))) ≡ firsts (pieces_in ts)
unfolding firsts pieces_in
firsts_spanned ps q late n ts = firsts_middles ps (piece (a_last q) ∷ late_by late (piece (a_total n) ∷ ts)) ∙ firsts_late late (piece (a_total n) ∷ ts)

opened_some : (l : List ℕ) → 1 ≤ length l → opened l ≡ l ∷ []
unfolding opened
opened_some [] h = absurd (omega arith)
opened_some (x ∷ l) h = refl

one_head : (p more : List ℕ) (ps : List (List ℕ)) (r : List ℕ) → r ≡ p ++ more → 1 ≤ length p → ps ≡ [] → Heads (p ∷ ps) (opened r)
one_head p more ps r e some none =
    let long : 1 ≤ length r = omega (arith, ap length e, length-append p more) in
    rw (none, opened_some r long) (heads_more more e some heads_none)

pub heads_of_tokens : {size : ℕ} (ls : List Laid) (t : Tail) → Each (SoundLaid size) ls → SoundTail size t → Heads (firsts (pieces_in (tokens ls t))) (records_of (items ls) ++ opened (so_far t))
unfolding firsts pieces_in tokens tail_tokens items records_of opened so_far whole_of
heads_of_tokens [] none_open x y = heads_none
heads_of_tokens [] (broken_inside p ps) x (sound_inside a b h) = one_head p (joined ps) _ (p ++ joined ps) refl a (firsts_middles ps [])
heads_of_tokens [] (broken_owed p ps q) x (sound_owed a b c h m) = one_head p (joined ps ++ q) _ (whole_of p ps q) (append_assoc p (joined ps) q) a (firsts_middles ps (piece (a_last q) ∷ group_end ∷ []))
heads_of_tokens (laid_entire bs ∷ ls) t (each_more (sound_entire a h) x) y = heads_more [] (sym (append-nil bs)) a (heads_of_tokens ls t x y)
heads_of_tokens (laid_spanned p ps q late ∷ ls) t (each_more (sound_spanned a b c h k) x) y =
    heads_more (joined ps ++ q) (append_assoc p (joined ps) q) a
    (subst (λ (f : List (List ℕ)). Heads f (records_of (items ls) ++ opened (so_far t))) (sym (firsts_spanned ps q late (length (whole_of p ps q)) (tokens ls t))) (heads_of_tokens ls t x y))
heads_of_tokens (laid_separator v ∷ ls) t (each_more s x) y = heads_of_tokens ls t x y
heads_of_tokens (ended_early ∷ ls) t (each_more s x) y = heads_of_tokens ls t x y

-- One of them.
pub record Picked (p : List ℕ) (rs : List (List ℕ)) (k : ℕ) : Type 0 where
  pub earlier : List (List ℕ)
  pub more : List ℕ
  pub later : List (List ℕ)
  pub is : rs ≡ earlier ++ ((p ++ more) ∷ later)
  pub counted : length earlier ≡ k
  pub some : 1 ≤ length p

pub pick : {rs : List (List ℕ)} (before : List (List ℕ)) (p : List ℕ) (behind : List (List ℕ)) → Heads (before ++ (p ∷ behind)) rs → Picked p rs (length before)
pick [] p behind (heads_more {rs} more e some h) =
    record { earlier = []; more = more; later = rs; is = ap {B = List (List ℕ)} (λ r. r ∷ rs) e; counted = refl; some = some }
pick (a ∷ before) p behind (heads_more {r} {rs} more e some h) =
    let q = pick before p behind h in
    record { earlier = r ∷ q.earlier; more = q.more; later = q.later; is = ap {B = List (List ℕ)} (λ l. r ∷ l) q.is; counted = ap suc q.counted; some = q.some }

firsts_append : (ps qs : List Piece) → firsts (ps ++ qs) ≡ firsts ps ++ firsts qs
unfolding firsts
firsts_append [] qs = refl
firsts_append (a_total n ∷ ps) qs = firsts_append ps qs
firsts_append (a_separator v ∷ ps) qs = firsts_append ps qs
firsts_append (a_middle bs ∷ ps) qs = firsts_append ps qs
firsts_append (a_start bs ∷ ps) qs = ap {B = List (List ℕ)} (λ r. bs ∷ r) (firsts_append ps qs)
firsts_append (a_last bs ∷ ps) qs = firsts_append ps qs
firsts_append (an_entire bs ∷ ps) qs = ap {B = List (List ℕ)} (λ r. bs ∷ r) (firsts_append ps qs)

pub firsts_begun : (ps : List Piece) → length (firsts ps) ≡ begun ps
unfolding firsts begun
firsts_begun [] = refl
firsts_begun (a_total n ∷ ps) = firsts_begun ps
firsts_begun (a_separator v ∷ ps) = firsts_begun ps
firsts_begun (a_middle bs ∷ ps) = firsts_begun ps
firsts_begun (a_start bs ∷ ps) = ap suc (firsts_begun ps)
firsts_begun (a_last bs ∷ ps) = firsts_begun ps
firsts_begun (an_entire bs ∷ ps) = ap suc (firsts_begun ps)

pub firsts_in : (groups : List (List Piece)) → length (firsts (flat groups)) ≡ begun_in groups
unfolding firsts flat begun_in
firsts_in [] = refl
firsts_in (ps ∷ gs) = ap length (firsts_append ps (flat gs)) ∙ omega (arith, length-append (firsts ps) (firsts (flat gs)), firsts_begun ps, firsts_in gs)

first_of : (p : Piece) (ps : List Piece) → begins_block p ≡ true → firsts (p ∷ ps) ≡ data_of p ∷ firsts ps
unfolding firsts data_of
first_of (a_total n) ps h = absurd (false≢true h)
first_of (a_separator v) ps h = absurd (false≢true h)
first_of (a_middle bs) ps h = absurd (false≢true h)
first_of (a_start bs) ps h = refl
first_of (a_last bs) ps h = absurd (false≢true h)
first_of (an_entire bs) ps h = refl

flat_append : (before : List (List Piece)) (ps : List Piece) (behind : List (List Piece)) → flat (before ++ (ps ∷ behind)) ≡ flat before ++ (ps ++ flat behind)
unfolding flat
flat_append [] ps behind = refl
flat_append (qs ∷ before) ps behind = ap {B = List Piece} (λ r. qs ++ r) (flat_append before ps behind) ∙ sym (append_assoc qs (flat before) (ps ++ flat behind))

-- The blocks of groups, from a piece on with which one begins.
pub firsts_from : (before behind : List (List Piece)) (left : List Piece) (first : Piece) (right : List Piece) → begins_block first ≡ true →
    firsts (flat (before ++ ((left ++ (first ∷ right)) ∷ behind))) ≡ (firsts (flat before) ++ firsts left) ++ (data_of first ∷ firsts (right ++ flat behind))
firsts_from before behind left first right h =
    ap firsts (flat_append before (left ++ (first ∷ right)) behind)
    ∙ firsts_append (flat before) ((left ++ (first ∷ right)) ++ flat behind)
    ∙ ap (λ (l : List Piece). firsts (flat before) ++ firsts l) (append_assoc left (first ∷ right) (flat behind))
    ∙ ap (λ (l : List (List ℕ)). firsts (flat before) ++ l) (firsts_append left (first ∷ (right ++ flat behind)))
    ∙ ap (λ (l : List (List ℕ)). firsts (flat before) ++ (firsts left ++ l)) (first_of first (right ++ flat behind) h)
    ∙ sym (append_assoc (firsts (flat before)) (firsts left) (data_of first ∷ firsts (right ++ flat behind)))

pub user_append : (ps qs : List Piece) → user_data (ps ++ qs) ≡ user_data ps ++ user_data qs
unfolding user_data
user_append [] qs = refl
user_append (p ∷ ps) qs = ap (λ (l : List ℕ). data_of p ++ l) (user_append ps qs) ∙ sym (append_assoc (data_of p) (user_data ps) (user_data qs))

-- A piece's bytes stand where the data before it ends.
piece_stands : (left : List Piece) (first : Piece) (right : List Piece) (rest : List ℕ) →
    take (length (data_of first)) (drop (length (user_data left)) (user_data (left ++ (first ∷ right)) ++ rest)) ≡ data_of first
unfolding user_data
piece_stands left first right rest =
    rw (user_append left (first ∷ right), append_assoc (user_data left) (data_of first ++ user_data right) rest, append_assoc (data_of first) (user_data right) rest)
    (simp (drop-append_seam, take-append_seam))

pub stands_at : (bytes : List ℕ) (ps left : List Piece) (first : Piece) (right : List Piece) (offset : ℕ) (rest : List ℕ) → bytes ≡ user_data ps ++ rest → ps ≡ left ++ (first ∷ right) →
    offset ≡ length (user_data left) → take (length (data_of first)) (drop offset bytes) ≡ data_of first
stands_at bytes ps left first right offset rest e f h = rw (e, f, h) (piece_stands left first right rest)

-- As many records as blocks.
pub heads_many : {ps rs : List (List ℕ)} → Heads ps rs → length ps ≡ length rs
heads_many heads_none = refl
heads_many (heads_more more e some h) = ap suc (heads_many h)
