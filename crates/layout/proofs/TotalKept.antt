-- In a run that a writer closed, the total of every record that spans groups stands where it must, or is still owed.
-- Assumes nothing.
use Prim.Native.Nat.{ℕ, ◌+◌, ◌≤◌}
use native.Mathlib.Omega.{arith}
use mathlib.Core.List.{List, [], ◌∷◌, ◌++◌, map, append_assoc, map-append}
use mathlib.Core.Bool.{Bool, true, false, ◌||◌, false≢true}
use mathlib.Core.Path.{◌≡◌, refl, sym, ap, ◌∙◌, subst}
use lib.ListN.{length, length-append}
use lib.Dec.{eqb}
use Rattle.group.specs.declared.Kind.TheVariants.{Total, Skip}
use Rattle.group.specs.declared.Phase.{Phase}
use Rattle.group.specs.declared.Phase.TheVariants as phase
use Rattle.group.specs.Flags.{kind_number}
use Rattle.entry.specs.declared.Stand.{Stand}
use Rattle.entry.specs.declared.Stand.TheVariants.{Free, AfterPart, Inside, AfterLast, Owed}
use Rattle.counts.specs.Counts.{is_among}
use Rattle.entry.specs.Rules.{may_follow, stand_after, stand_at, phase_after}
use Rattle.laying.specs.Laying.{Desk}
use Rattle.layout.specs.Items.{Piece, Token, grouped}
use Rattle.layout.specs.Items.Token.{piece, group_end}
use Rattle.layout.specs.Items.Piece.{a_total, a_separator, a_middle, a_start, a_last, an_entire}
use Rattle.layout.specs.Layout.{Image, kind_of, count_of}
use Rattle.layout.specs.Reading.{begun_after}
use Rattle.layout.specs.Writing.{Account, Wrote}
use Rattle.layout.specs.WritingStated.{begun_in, TotalStands, EndInLast, TotalsKept}
use Rattle.layout.specs.WritingStated.TotalStands.{in-its-group, first_in_next, still_owed}
use Rattle.layout.proofs.Assembled.{pieces_in, flat, in_grouped}
use Rattle.layout.proofs.Grammar.{Fits, Walk, Between}
use Rattle.layout.proofs.Grammar.Between.{b_free, b_inside, b_owed}
use Rattle.layout.proofs.Grammar.Walk.{stop, step, leap}
use Rattle.layout.proofs.Held.{begun_append, grouped_append}
use Rattle.layout.proofs.Accounts.{Hand}
use Rattle.layout.proofs.Returned.{at_close}

-- A walk cut in two.
record Cut (size : ℕ) (to : Stand) (n : ℕ) (at : Stand) (s r : ℕ) (ts us : List Token) : Type 0 where
  mid : Stand
  sum : ℕ
  reached : ℕ
  front : Walk size mid sum at s r ts
  back : Walk size to n mid sum reached us

cut : {size : ℕ} {to : Stand} {n : ℕ} (ts us : List Token) {at : Stand} {s r : ℕ} → Walk size to n at s r (ts ++ us) → Cut size to n at s r ts us
cut [] us w = record { mid = _; sum = _; reached = _; front = stop; back = w }
cut (piece p ∷ ts) us (step f w) = let c = cut ts us w in record { mid = c.mid; sum = c.sum; reached = c.reached; front = step f c.front; back = c.back }
cut (group_end ∷ ts) us (leap h w) = let c = cut ts us w in record { mid = c.mid; sum = c.sum; reached = c.reached; front = leap h c.front; back = c.back }

-- The sum is the length of the bytes so far, wherever a walk stands.
sum_is : {size : ℕ} {to : Stand} {n : ℕ} {at : Stand} {s r : ℕ} {ts : List Token} (b : List ℕ) → Walk size to n at s r ts → s ≡ length b → n ≡ length (begun_after b (pieces_in ts))
unfolding begun_after pieces_in kind_of count_of
sum_is b stop e = e
sum_is b (step {p = a_total m} f w) e = sum_is [] w refl
sum_is b (step {p = a_separator v} f w) e = sum_is [] w refl
sum_is b (step {p = a_middle bs} f w) e = sum_is (b ++ bs) w (simp length-append (omega arith))
sum_is b (step {p = a_start bs} f w) e = sum_is bs w refl
sum_is b (step {p = a_last bs} f w) e = sum_is (b ++ bs) w (simp length-append (omega arith))
sum_is b (step {p = an_entire bs} f w) e = sum_is [] w refl
sum_is b (leap h w) e = sum_is b w e

-- Where a walk of nothing ends.
nowhere : {size : ℕ} {to at : Stand} {n s r : ℕ} → Walk size to n at s r [] → at ≡ to
nowhere stop = refl

-- What stands first in a walk, and what is behind an end.
fits_first : {size : ℕ} {to mid : Stand} {n m r : ℕ} {p : Piece} {ts : List Token} → Walk size to n mid m r (piece p ∷ ts) → Fits mid m p
fits_first (step f w) = f

behind_end : {size : ℕ} {to mid : Stand} {n m r : ℕ} {ts : List Token} → Walk size to n mid m r (group_end ∷ ts) → (may_follow mid Skip ≡ true) × Walk size to n (stand_at (phase_after mid)) m 0 ts
behind_end (leap h w) = (h.follows, w)

-- Tokens and bytes of groups that are cut.
grouped_cut : (before after : List (List Piece)) (left right : List Piece) (p : Piece) →
    grouped (before ++ ((left ++ (p ∷ right)) ∷ after)) ≡ grouped before ++ (map piece left ++ (piece p ∷ (map piece right ++ (group_end ∷ grouped after))))
unfolding grouped
grouped_cut before after left right p =
    rw (grouped_append before ((left ++ (p ∷ right)) ∷ after), map-append piece left (p ∷ right), append_assoc (map piece left) (piece p ∷ map piece right) (group_end ∷ grouped after))

pieces_map : (ps : List Piece) → pieces_in (map piece ps) ≡ ps
unfolding pieces_in
pieces_map [] = refl
pieces_map (p ∷ ps) = ap {B = List Piece} (λ r. p ∷ r) (pieces_map ps)

begun_in_lem : (b : List ℕ) (gs : List (List Piece)) → begun_in b gs ≡ begun_after b (flat gs)
unfolding begun_in flat begun_after
begun_in_lem b [] = refl
begun_in_lem b (g ∷ gs) = begun_in_lem (begun_after b g) gs ∙ sym (begun_append b g (flat gs))

begun_cut : (b : List ℕ) (before : List (List Piece)) (left : List Piece) (q : List ℕ) → begun_in b (before ++ ((left ++ (a_last q ∷ [])) ∷ [])) ≡ begun_after (begun_in b before) left ++ q
unfolding begun_in begun_after
begun_cut b [] left q = begun_append b left (a_last q ∷ [])
begun_cut b (g ∷ gs) left q = begun_cut (begun_after b g) gs left q

-- What may stand after a last part, or where its total is owed: only its total.
data OnlyTotal (m : ℕ) : Piece → Type 0 where
  only_total : {k : ℕ} → k ≡ m → OnlyTotal m (a_total k)

after_last : (m : ℕ) (p : Piece) → Fits AfterLast m p → OnlyTotal m p
unfolding may_follow kind_of count_of
after_last m (a_total k) f = only_total f.kept
after_last m (a_separator v) f = absurd (false≢true f.follows)
after_last m (a_middle bs) f = absurd (false≢true f.follows)
after_last m (a_start bs) f = absurd (false≢true f.follows)
after_last m (a_last bs) f = absurd (false≢true f.follows)
after_last m (an_entire bs) f = absurd (false≢true f.follows)

-- What may follow where a total is owed may follow a last part.
or_more : (a b : Bool) → a || false ≡ true → a || b ≡ true
or_more true b h = refl
or_more false b h = absurd (false≢true h)

where_owed : (m : ℕ) (p : Piece) → Fits Owed m p → OnlyTotal m p
unfolding may_follow
where_owed m p f = after_last m p (record { follows = or_more (eqb (kind_number (kind_of p)) (kind_number Total)) (is_among (kind_of p) (Skip ∷ [])) f.follows; kept = f.kept; small = f.small })

-- A run that ends owed leaves nothing to offer.
none_asked : (a : Account) (f : Phase) → Owed ≡ stand_at f → Hand f a → a.asked ≡ []
none_asked a phase.Free e h = let z : ◌≡◌ {A = ℕ} 0 1 = cc in absurd (omega arith)
none_asked a phase.Inside e h = let z : ◌≡◌ {A = ℕ} 0 1 = cc in absurd (omega arith)
none_asked a phase.Owed e h = h

module _ (a : Account) {m : ℕ} (whole : List ℕ) (e : m ≡ length whole) where
  stands_there : {p : Piece} (right : List Piece) (after : List (List Piece)) → OnlyTotal m p → TotalStands a whole (p ∷ right) after
  stands_there right after (only_total h) = in-its-group (h ∙ e)

  stands_next : {p : Piece} (right : List Piece) (after : List (List Piece)) → OnlyTotal m p → TotalStands a whole [] ((p ∷ right) ∷ after)
  stands_next right after (only_total h) = first_in_next (h ∙ e)

  total_follows : {size n r : ℕ} (f : Phase) (right : List Piece) (after : List (List Piece)) → Hand f a → Walk size (stand_at f) n AfterLast m r (map piece right ++ (group_end ∷ grouped after)) →
      (right ≡ [] → after ≡ [] → a.begun ≡ whole) → TotalStands a whole right after
  unfolding grouped may_follow
  total_follows f (p ∷ right) after hand w b = stands_there right after (after_last m p (fits_first w))
  total_follows f [] [] hand w b = still_owed (b refl refl) (none_asked a f (nowhere (behind_end w).1) hand)
  total_follows f [] ([] ∷ gs) hand w b = absurd (false≢true (behind_end (behind_end w).1).0)
  total_follows f [] ((p ∷ ps) ∷ gs) hand w b = stands_next ps gs (where_owed m p (fits_first (behind_end w).1))

-- A walk goes on behind a last part, wherever that stood.
behind_last : {size : ℕ} {to mid : Stand} {n m r : ℕ} {q : List ℕ} {ts : List Token} → Walk size to n mid m r (piece (a_last q) ∷ ts) → Walk size to n AfterLast (m + length q) (r + length q) ts
unfolding kind_of count_of
behind_last (step g w) = w

-- Each last part of the groups.
last_total : {size n : ℕ} (a : Account) (f : Phase) (groups before after : List (List Piece)) (left right : List Piece) (q : List ℕ) → Hand f a → Walk size (stand_at f) n Free 0 0 (grouped groups) →
    begun_after [] (flat groups) ≡ a.begun → groups ≡ before ++ ((left ++ (a_last q ∷ right)) ∷ after) → TotalStands a (begun_after (begun_in [] before) left ++ q) right after
last_total a f groups before after left right q hand w b e =
    let tokens : grouped groups ≡ grouped before ++ (map piece left ++ (piece (a_last q) ∷ (map piece right ++ (group_end ∷ grouped after)))) =
    ap grouped e ∙ grouped_cut before after left right (a_last q) in
    let one = cut (grouped before) (map piece left ++ (piece (a_last q) ∷ (map piece right ++ (group_end ∷ grouped after)))) (rw tokens at w) in
    let two = cut (map piece left) (piece (a_last q) ∷ (map piece right ++ (group_end ∷ grouped after))) one.back in
    let begun : begun_after [] (pieces_in (grouped before)) ≡ begun_in [] before = rw (in_grouped before, begun_in_lem [] before) in
    let first : one.sum ≡ length (begun_in [] before) = sum_is [] one.front refl ∙ ap length begun in
    let second : two.sum ≡ length (begun_after (begun_in [] before) left) =
    sum_is (begun_in [] before) two.front first ∙ ap (λ (ps : List Piece). length (begun_after (begun_in [] before) ps)) (pieces_map left) in
    let whole : two.sum + length q ≡ length (begun_after (begun_in [] before) left ++ q) = simp length-append (omega arith) in
    let open' : right ≡ [] → after ≡ [] → a.begun ≡ begun_after (begun_in [] before) left ++ q =
    λ r s. sym b ∙ sym (begun_in_lem [] groups) ∙ ap (begun_in []) (e ∙ rw (r, s)) ∙ begun_cut [] before left q in
    total_follows a (begun_after (begun_in [] before) left ++ q) whole f right after hand (behind_last two.back) open'

-- A list is empty or has a last.
data Snoc {A : Type 0} : List A → Type 0 where
  none : Snoc []
  some : (l : List A) (x : A) → Snoc (l ++ (x ∷ []))

snoc : {A : Type 0} (l : List A) → Snoc l
snoc [] = none
snoc {A} (y ∷ l) = by (snoc l)
  where
    by : {k : List A} → Snoc k → Snoc (y ∷ k)
    by none = some [] y
    by (some k x) = some (y ∷ k) x

-- A walk over whole groups ends between groups.
between_at : (at : Stand) → Between (stand_at (phase_after at))
between_at Free = b_free
between_at AfterPart = b_inside
between_at Inside = b_inside
between_at AfterLast = b_owed
between_at Owed = b_owed

still_between : {size : ℕ} {to : Stand} {n : ℕ} (gs : List (List Piece)) {at : Stand} {s r : ℕ} → Between at → Walk size to n at s r (grouped gs) → Between to
unfolding grouped
still_between [] b w = subst Between (nowhere w) b
still_between (g ∷ gs) b w =
    let c = cut (map piece g) (group_end ∷ grouped gs) w in
    still_between gs (between_at c.mid) (behind_end c.back).1

-- An end after whole groups leaves no total owed.
empty_end : {mid : Stand} → Between mid → may_follow mid Skip ≡ true → stand_at (phase_after mid) ≡ Owed → ⊥
unfolding may_follow
empty_end b_free h e = let z : ◌≡◌ {A = ℕ} 0 1 = cc in absurd (omega arith)
empty_end b_inside h e = false≢true h
empty_end b_owed h e = false≢true h

-- A piece behind which the total is owed is a last part.
owed_by : (mid : Stand) (before : List (List Piece)) (left : List Piece) (p : Piece) → stand_at (phase_after (stand_after mid (kind_of p))) ≡ Owed → EndInLast (before ++ ((left ++ (p ∷ [])) ∷ []))
unfolding kind_of
owed_by mid before left (a_total n) e = let z : ◌≡◌ {A = ℕ} 0 1 = cc in absurd (omega arith)
owed_by mid before left (a_separator v) e = let z : ◌≡◌ {A = ℕ} 0 1 = cc in absurd (omega arith)
owed_by mid before left (a_middle bs) e = let z : ◌≡◌ {A = ℕ} 0 1 = cc in absurd (omega arith)
owed_by mid before left (a_start bs) e = let z : ◌≡◌ {A = ℕ} 0 1 = cc in absurd (omega arith)
owed_by mid before left (a_last q) e = record { before = before; left = left; last_part = q; ends = refl }
owed_by mid before left (an_entire bs) e = let z : ◌≡◌ {A = ℕ} 0 1 = cc in absurd (omega arith)

behind_piece : {size : ℕ} {mid : Stand} {m r : ℕ} {p : Piece} {to : Stand} {n : ℕ} → Walk size to n mid m r (piece p ∷ group_end ∷ []) → stand_at (phase_after (stand_after mid (kind_of p))) ≡ to
behind_piece (step f (leap h w)) = nowhere w

end_in_last : {size n : ℕ} (groups : List (List Piece)) → Walk size Owed n Free 0 0 (grouped groups) → EndInLast groups
unfolding grouped
end_in_last {size} {n} groups = by (snoc groups)
  where
    last_group : (before : List (List Piece)) {ps : List Piece} → Snoc ps → Walk size Owed n Free 0 0 (grouped (before ++ (ps ∷ []))) → EndInLast (before ++ (ps ∷ []))
    last_group before none w =
        let c = cut (grouped before) (group_end ∷ []) (rw (grouped_append before ([] ∷ [])) at w) in
        let (may, rest) = behind_end c.back in
        absurd (empty_end (still_between before b_free c.front) may (nowhere rest))
    last_group before (some left p) w =
        let one = cut (grouped before) (map piece left ++ (piece p ∷ group_end ∷ [])) (rw (grouped_cut before [] left [] p) at w) in
        let two = cut (map piece left) (piece p ∷ group_end ∷ []) one.back in
        owed_by two.mid before left p (behind_piece two.back)

    by : {gs : List (List Piece)} → Snoc gs → Walk size Owed n Free 0 0 (grouped gs) → EndInLast gs
    by none w = let e : Free ≡ Owed = nowhere w in let z : ◌≡◌ {A = ℕ} 0 1 = cc in absurd (omega arith)
    by (some before ps) w = last_group before (snoc ps) w

-- All bytes taken of a record that is not finished: its total is owed.
all_taken_lem : {size n : ℕ} (a : Account) (f : Phase) (groups : List (List Piece)) → Hand f a → Walk size (stand_at f) n Free 0 0 (grouped groups) → 1 ≤ length a.begun → a.asked ≡ [] → EndInLast groups
all_taken_lem a phase.Free groups hand w begun taken = absurd (omega (arith, ap length hand))
all_taken_lem a phase.Inside groups hand w begun taken = absurd (omega (arith, ap length taken))
all_taken_lem a phase.Owed groups hand w begun taken = end_in_last groups w

-- In a run the writer closed, every record that spans groups and whose bytes were all taken has its total laid, in its last
-- part's group or as the first entry of the next, or is still owed at the run's end.
pub totals_kept : {size first : ℕ} {w : Desk} {run : List Image} {closed now : Account} → Wrote size first w run closed now → TotalsKept size first run closed
totals_kept {closed} x =
    let c = at_close x in
    record {
      groups = c.groups;
      plain = c.plain;
      images = c.images;
      total = λ before after left right q e. last_total closed c.phase c.groups before after left right q c.hand c.walks c.breaks e;
      all_taken = all_taken_lem closed c.phase c.groups c.hand c.walks;
    }
