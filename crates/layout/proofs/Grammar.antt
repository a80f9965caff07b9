-- The grammar of tokens, by the reader's own tables, and that it takes exactly the tokens of sound laid items.
-- Assumes nothing.
use Prim.Native.Nat.{ℕ, ◌+◌, ◌-◌, ◌≤◌}
use native.Mathlib.Omega.{arith}
use native.Mathlib.Nat.{add-zero}
use mathlib.Core.List.{List, [], ◌∷◌, ◌++◌, append-nil}
use mathlib.Core.Bool.{Bool, true, false, false≢true}
use mathlib.Core.Path.{◌≡◌, refl, ap}
use lib.ListN.{length, length-append}
use borrow.Author.Tests.{leb-true, le-leb}
use Rattle.group.specs.declared.Kind.TheVariants.{Skip}
use Rattle.group.specs.Sizes.{longest_record, most_owing}
use Rattle.entry.specs.declared.Stand.{Stand}
use Rattle.entry.specs.declared.Stand.TheVariants.{Free, AfterPart, Inside, AfterLast, Owed}
use Rattle.entry.specs.Rules.{may_follow, may_owe, stand_after, sum_after, reached_after, stand_at, phase_after}
use Rattle.counts.proofs.Counts.{CountKept}
use Rattle.layout.specs.Items.{Laid, Tail, Piece, Token, tokens, tail_tokens, middles, late_by, joined, whole_of, Each, Part, MayOwe, LateKept, SoundLaid, SoundTail}
use Rattle.layout.specs.Items.Each.{each_none, each_more}
use Rattle.layout.specs.Items.SoundLaid.{sound_entire, sound_spanned, sound_separator, sound_early}
use Rattle.layout.specs.Items.SoundTail.{sound_none, sound_inside, sound_owed}
use Rattle.layout.specs.Items.Laid.{laid_entire, laid_spanned, laid_separator, ended_early}
use Rattle.layout.specs.Items.Tail.{none_open, broken_inside, broken_owed}
use Rattle.layout.specs.Items.Piece.{a_total, a_separator, a_middle, a_start, a_last, an_entire}
use Rattle.layout.specs.Items.Token.{piece, group_end}
use Rattle.layout.specs.Layout.{kind_of, count_of}

-- A piece may stand at a stand, after parts that add to sum.
pub record Fits (at : Stand) (sum : ℕ) (p : Piece) : Type 0 where
  pub follows : may_follow at (kind_of p) ≡ true
  pub kept : CountKept (kind_of p) sum (count_of p)
  pub small : count_of p ≤ longest_record

-- A group may end at a stand, with so much of its data reached: a skip may follow, and owes no total too early.
pub record Ends (size : ℕ) (at : Stand) (reached : ℕ) : Type 0 where
  pub follows : may_follow at Skip ≡ true
  pub owes : may_owe at (size - reached) ≡ true

-- The tokens lead from a stand, a sum and the group's data reached to the stand `to` and the sum `n`.
pub data Walk (size : ℕ) (to : Stand) (n : ℕ) : Stand → ℕ → ℕ → List Token → Type 0 where
  stop : {reached : ℕ} → Walk size to n to n reached []
  step : {at : Stand} {sum reached : ℕ} {p : Piece} {ts : List Token} →
      Fits at sum p → Walk size to n (stand_after at (kind_of p)) (sum_after (kind_of p) sum (count_of p)) (reached_after (kind_of p) reached (count_of p)) ts →
      Walk size to n at sum reached (piece p ∷ ts)
  leap : {at : Stand} {sum reached : ℕ} {ts : List Token} →
      Ends size at reached → Walk size to n (stand_at (phase_after at)) sum 0 ts → Walk size to n at sum reached (group_end ∷ ts)

-- From sound laid items to a walk.
module _ {size : ℕ} {to : Stand} {n : ℕ} where
  at_entire : {reached : ℕ} {r : List ℕ} {ts : List Token} → Part r → length r ≤ longest_record → Walk size to n Free 0 (reached + length r) ts → Walk size to n Free 0 reached (piece (an_entire r) ∷ ts)
  unfolding may_follow kind_of count_of
  at_entire {r} p h w = step {p = an_entire r} (record { follows = refl; kept = (p, h); small = h }) w

  at_separator : {reached v : ℕ} {ts : List Token} → v ≤ 1 → Walk size to n Free 0 reached ts → Walk size to n Free 0 reached (piece (a_separator v) ∷ ts)
  unfolding may_follow kind_of count_of
  at_separator {v} h w = step {sum = 0} {p = a_separator v} (record { follows = refl; kept = h; small = omega arith }) w

  at_early : {reached : ℕ} {ts : List Token} → Walk size to n Free 0 0 ts → Walk size to n Free 0 reached (group_end ∷ ts)
  unfolding may_follow
  at_early w = leap (record { follows = refl; owes = refl }) w

  at_start : {reached : ℕ} {p : List ℕ} {ts : List Token} → Part p → length p ≤ (longest_record - 1) → Walk size to n Inside (length p) 0 ts → Walk size to n Free 0 reached (piece (a_start p) ∷ group_end ∷ ts)
  unfolding may_follow kind_of count_of
  at_start {p} part h w = step {p = a_start p} (record { follows = refl; kept = (part, h); small = omega arith }) (leap (record { follows = refl; owes = refl }) w)

  at_middle : {s : ℕ} {p : List ℕ} {ts : List Token} → Part p → s + length p ≤ (longest_record - 1) → Walk size to n Inside (s + length p) 0 ts → Walk size to n Inside s 0 (piece (a_middle p) ∷ group_end ∷ ts)
  unfolding may_follow kind_of count_of
  at_middle {s} {p} part h w = step {p = a_middle p} (record { follows = refl; kept = (part, h); small = omega arith }) (leap (record { follows = refl; owes = refl }) w)

  at_last : {s : ℕ} {q : List ℕ} {ts : List Token} → Part q → s + length q ≤ longest_record → Walk size to n AfterLast (s + length q) (0 + length q) ts → Walk size to n Inside s 0 (piece (a_last q) ∷ ts)
  unfolding may_follow kind_of count_of
  at_last {s} {q} part h w = step {p = a_last q} (record { follows = refl; kept = (part, h); small = omega arith }) w

  -- A group that ends with a last part, where its total may be owed.
  at_owed : {s : ℕ} {ts : List Token} (q : List ℕ) → MayOwe size q → Walk size to n Owed s 0 ts → Walk size to n AfterLast s (0 + length q) (group_end ∷ ts)
  unfolding may_follow
  at_owed q h w = leap (record { follows = refl; owes = le-leb (size - (0 + length q)) most_owing (omega arith) }) w

  at_total : {s k : ℕ} {ts : List Token} (q : List ℕ) (l : Bool) → LateKept size q l → k ≡ s → s ≤ longest_record → ((reached : ℕ) → Walk size to n Free 0 reached ts) →
      Walk size to n AfterLast s (0 + length q) (late_by l (piece (a_total k) ∷ ts))
  unfolding may_follow kind_of count_of late_by
  at_total {s} {k} q true late e h w = at_owed q late (step {sum = s} {p = a_total k} (record { follows = refl; kept = e; small = omega arith }) (w 0))
  at_total {s} {k} q false late e h w = step {sum = s} {p = a_total k} (record { follows = refl; kept = e; small = omega arith }) (w (0 + length q))

  at_middles : {s : ℕ} {ps : List (List ℕ)} {ts : List Token} → Each Part ps → s + length (joined ps) ≤ (longest_record - 1) → Walk size to n Inside (s + length (joined ps)) 0 ts → Walk size to n Inside s 0 (middles ps ts)
  unfolding middles joined
  at_middles {s} each_none h w = rw add-zero at w
  at_middles {s} (each_more {a = p} {l = ps} part rest) h w =
      let e : s + length (p ++ joined ps) ≡ s + length p + length (joined ps) = simp length-append (omega arith) in
      at_middle part (omega arith) (at_middles {s = s + length p} rest (omega arith) (rw e at w))

unfoldable pub tail_stand : Tail → Stand
tail_stand none_open = Free
tail_stand (broken_inside p ps) = Inside
tail_stand (broken_owed p ps q) = Owed

unfoldable pub tail_sum : Tail → ℕ
tail_sum none_open = 0
tail_sum (broken_inside p ps) = length p + length (joined ps)
tail_sum (broken_owed p ps q) = length p + length (joined ps) + length q

length_whole : (p : List ℕ) (ps : List (List ℕ)) (q : List ℕ) → length (whole_of p ps q) ≡ length p + length (joined ps) + length q
unfolding whole_of
length_whole p ps q = simp length-append (omega arith)

-- From any place of a group: what of its data is reached says nothing of what may stand while free.
pub walk_tail : {size : ℕ} {t : Tail} → SoundTail size t → (reached : ℕ) → Walk size (tail_stand t) (tail_sum t) Free 0 reached (tail_tokens t)
unfolding tail_stand tail_sum tail_tokens
walk_tail sound_none reached = stop
walk_tail (sound_inside {p} {ps} a b h) reached =
    let e : length (p ++ joined ps) ≡ length p + length (joined ps) = length-append p (joined ps) in
    at_start a (omega arith) (at_middles b (omega arith) stop)
walk_tail (sound_owed {p} {ps} {q} a b c h m) reached =
    let e : length (whole_of p ps q) ≡ length p + length (joined ps) + length q = length_whole p ps q in
    at_start a (omega arith) (at_middles b (omega arith) (at_last c (omega arith) (at_owed q (omega arith) stop)))

pub walk_laid : {size : ℕ} {ls : List Laid} {t : Tail} → Each (SoundLaid size) ls → SoundTail size t → (reached : ℕ) → Walk size (tail_stand t) (tail_sum t) Free 0 reached (tokens ls t)
unfolding tokens
walk_laid each_none t reached = walk_tail t reached
walk_laid (each_more (sound_entire {bs} a h) ls) t reached = at_entire a h (walk_laid ls t (reached + length bs))
walk_laid (each_more (sound_spanned {p} {ps} {q} {late = l} a b c h m) ls) t reached =
    let e : length (whole_of p ps q) ≡ length p + length (joined ps) + length q = length_whole p ps q in
    at_start a (omega arith) (at_middles b (omega arith) (at_last c (omega arith) (at_total q l m e (omega arith) (walk_laid ls t))))
walk_laid (each_more (sound_separator h) ls) t reached = at_separator h (walk_laid ls t reached)
walk_laid (each_more sound_early ls) t reached = at_early (walk_laid ls t 0)

-- From a walk to sound laid items. What has been read of an open record, at each stand, and of a group's data where it matters.
pub data Open (size : ℕ) : Stand → ℕ → ℕ → Type 0 where
  o_free : {r : ℕ} → Open size Free 0 r
  o_start : {s r : ℕ} (p : List ℕ) → Part p → length p ≤ (longest_record - 1) → s ≡ length p → Open size AfterPart s r
  o_middle : {s r : ℕ} (p : List ℕ) (ps : List (List ℕ)) (m : List ℕ) → Part p → Each Part ps → Part m →
      s ≤ (longest_record - 1) → s ≡ length p + length (joined ps) + length m → Open size AfterPart s r
  o_inside : {s r : ℕ} (p : List ℕ) (ps : List (List ℕ)) → Part p → Each Part ps → s ≤ (longest_record - 1) → s ≡ length p + length (joined ps) → r ≡ 0 → Open size Inside s r
  o_ended : {s r : ℕ} (p : List ℕ) (ps : List (List ℕ)) (q : List ℕ) → Part p → Each Part ps → Part q →
      s ≤ longest_record → s ≡ length p + length (joined ps) + length q → r ≡ length q → Open size AfterLast s r
  o_owed : {s r : ℕ} (p : List ℕ) (ps : List (List ℕ)) (q : List ℕ) → Part p → Each Part ps → Part q →
      s ≤ longest_record → s ≡ length p + length (joined ps) + length q → MayOwe size q → Open size Owed s r

-- The tokens of what has been read, and then others.
unfoldable pub before : {size : ℕ} {at : Stand} {s r : ℕ} → Open size at s r → List Token → List Token
before o_free ts = ts
before (o_start p a h e) ts = piece (a_start p) ∷ ts
before (o_middle p ps m a b c h e) ts = piece (a_start p) ∷ group_end ∷ middles ps (piece (a_middle m) ∷ ts)
before (o_inside p ps a b h e z) ts = piece (a_start p) ∷ group_end ∷ middles ps ts
before (o_ended p ps q a b c h e z) ts = piece (a_start p) ∷ group_end ∷ middles ps (piece (a_last q) ∷ ts)
before (o_owed p ps q a b c h e m) ts = piece (a_start p) ∷ group_end ∷ middles ps (piece (a_last q) ∷ group_end ∷ ts)

-- Sound laid items with these tokens.
pub record Found (size : ℕ) (ts : List Token) : Type 0 where
  pub laid : List Laid
  pub tail : Tail
  pub sound : Each (SoundLaid size) laid
  pub sound_tail : SoundTail size tail
  pub shows : tokens laid tail ≡ ts

pub record Next (size : ℕ) {at : Stand} {s r : ℕ} (o : Open size at s r) (t : Token) (at' : Stand) (s' r' : ℕ) : Type 0 where
  pub opens : Open size at' s' r'
  pub back : (ts : List Token) → Found size (before opens ts) → Found size (before o (t ∷ ts))

each_snoc : {ps : List (List ℕ)} (m : List ℕ) → Each Part ps → Part m → Each Part (ps ++ (m ∷ []))
each_snoc m each_none h = each_more h each_none
each_snoc m (each_more a r) h = each_more a (each_snoc m r h)

middles_snoc : (ps : List (List ℕ)) (m : List ℕ) (ts : List Token) → middles (ps ++ (m ∷ [])) ts ≡ middles ps (piece (a_middle m) ∷ group_end ∷ ts)
unfolding middles
middles_snoc [] m ts = refl
middles_snoc (p ∷ ps) m ts = ap {B = List Token} (λ r. piece (a_middle p) ∷ group_end ∷ r) (middles_snoc ps m ts)

length_snoc : (ps : List (List ℕ)) (m : List ℕ) → length (joined (ps ++ (m ∷ []))) ≡ length (joined ps) + length m
unfolding joined
length_snoc [] m = simp append-nil (omega arith)
length_snoc (p ∷ ps) m = simp (length-append, length_snoc ps m) (omega arith)

not_begun : (s : ℕ) (p : Piece) → Fits AfterPart s p → ⊥
unfolding may_follow kind_of
not_begun s (a_total n) f = false≢true f.follows
not_begun s (a_separator n) f = false≢true f.follows
not_begun s (a_middle bs) f = false≢true f.follows
not_begun s (a_start bs) f = false≢true f.follows
not_begun s (a_last bs) f = false≢true f.follows
not_begun s (an_entire bs) f = false≢true f.follows

found_entire : (size : ℕ) {r : List ℕ} {ts : List Token} → Part r → length r ≤ longest_record → Found size ts → Found size (piece (an_entire r) ∷ ts)
unfolding tokens
found_entire size {r} a h f = record { laid = laid_entire r ∷ f.laid; tail = f.tail; sound = each_more (sound_entire a h) f.sound; sound_tail = f.sound_tail; shows = ap {B = List Token} (λ x. piece (an_entire r) ∷ x) f.shows }

found_separator : (size : ℕ) {v : ℕ} {ts : List Token} → v ≤ 1 → Found size ts → Found size (piece (a_separator v) ∷ ts)
unfolding tokens
found_separator size {v} h f = record { laid = laid_separator v ∷ f.laid; tail = f.tail; sound = each_more (sound_separator h) f.sound; sound_tail = f.sound_tail; shows = ap {B = List Token} (λ x. piece (a_separator v) ∷ x) f.shows }

found_early : (size : ℕ) {ts : List Token} → Found size ts → Found size (group_end ∷ ts)
unfolding tokens
found_early size f = record { laid = ended_early ∷ f.laid; tail = f.tail; sound = each_more sound_early f.sound; sound_tail = f.sound_tail; shows = ap {B = List Token} (λ x. group_end ∷ x) f.shows }

found_spanned : (size : ℕ) (p : List ℕ) (ps : List (List ℕ)) (q : List ℕ) (l : Bool) (n : ℕ) (ts : List Token) → LateKept size q l → Part p → Each Part ps → Part q → length p + length (joined ps) + length q ≤ longest_record →
    n ≡ length p + length (joined ps) + length q → Found size ts → Found size (piece (a_start p) ∷ group_end ∷ middles ps (piece (a_last q) ∷ late_by l (piece (a_total n) ∷ ts)))
unfolding tokens
found_spanned size p ps q l n ts late a b c h e f =
    let w : length (whole_of p ps q) ≡ length p + length (joined ps) + length q = length_whole p ps q in
    let m : n ≡ length (whole_of p ps q) = omega arith in
    record { laid = laid_spanned p ps q l ∷ f.laid; tail = f.tail; sound = each_more (sound_spanned {p = p} {ps = ps} {q = q} {late = l} a b c (omega arith) late) f.sound; sound_tail = f.sound_tail; shows = rw (m, f.shows) }

pub take_piece : (size : ℕ) {at : Stand} {s r : ℕ} (o : Open size at s r) (p : Piece) → Fits at s p →
    Next size o (piece p) (stand_after at (kind_of p)) (sum_after (kind_of p) s (count_of p)) (reached_after (kind_of p) r (count_of p))
unfolding may_follow kind_of count_of before late_by
take_piece size o_free (a_total n) f = absurd (false≢true f.follows)
take_piece size o_free (a_separator n) f = record { opens = o_free; back = λ ts r. found_separator size f.kept r }
take_piece size o_free (a_middle bs) f = absurd (false≢true f.follows)
take_piece size o_free (a_start bs) f = let (h, i) = f.kept in record { opens = o_start bs h i refl; back = λ ts r. r }
take_piece size o_free (a_last bs) f = absurd (false≢true f.follows)
take_piece size o_free (an_entire bs) f = record { opens = o_free; back = λ ts r. found_entire size f.kept.0 f.small r }
take_piece size {s} (o_start p a h e) x f = absurd (not_begun s x f)
take_piece size {s} (o_middle p ps m a b c h e) x f = absurd (not_begun s x f)
take_piece size {s} {r} (o_inside p ps a b h e z) (a_total n) f = absurd (false≢true f.follows)
take_piece size {s} {r} (o_inside p ps a b h e z) (a_separator n) f = absurd (false≢true f.follows)
take_piece size {s} {r} (o_inside p ps a b h e z) (a_middle bs) f = let (i, j) = f.kept in record { opens = o_middle p ps bs a b i j (omega arith); back = λ ts r. r }
take_piece size {s} {r} (o_inside p ps a b h e z) (a_start bs) f = absurd (false≢true f.follows)
take_piece size {s} {r} (o_inside p ps a b h e z) (a_last bs) f = let (i, j) = f.kept in record { opens = o_ended {r = r + length bs} p ps bs a b i j (omega arith) (omega arith); back = λ ts r. r }
take_piece size {s} {r} (o_inside p ps a b h e z) (an_entire bs) f = absurd (false≢true f.follows)
take_piece size {s} (o_ended p ps q a b c h e z) (a_total n) f = record { opens = o_free; back = λ ts r. found_spanned size p ps q false n ts tt a b c (omega arith) (omega (arith, f.kept)) r }
take_piece size {s} (o_ended p ps q a b c h e z) (a_separator n) f = absurd (false≢true f.follows)
take_piece size {s} (o_ended p ps q a b c h e z) (a_middle bs) f = absurd (false≢true f.follows)
take_piece size {s} (o_ended p ps q a b c h e z) (a_start bs) f = absurd (false≢true f.follows)
take_piece size {s} (o_ended p ps q a b c h e z) (a_last bs) f = absurd (false≢true f.follows)
take_piece size {s} (o_ended p ps q a b c h e z) (an_entire bs) f = absurd (false≢true f.follows)
take_piece size {s} (o_owed p ps q a b c h e m) (a_total n) f = record { opens = o_free; back = λ ts r. found_spanned size p ps q true n ts m a b c (omega arith) (omega (arith, f.kept)) r }
take_piece size {s} (o_owed p ps q a b c h e m) (a_separator n) f = absurd (false≢true f.follows)
take_piece size {s} (o_owed p ps q a b c h e m) (a_middle bs) f = absurd (false≢true f.follows)
take_piece size {s} (o_owed p ps q a b c h e m) (a_start bs) f = absurd (false≢true f.follows)
take_piece size {s} (o_owed p ps q a b c h e m) (a_last bs) f = absurd (false≢true f.follows)
take_piece size {s} (o_owed p ps q a b c h e m) (an_entire bs) f = absurd (false≢true f.follows)

pub take_end : (size : ℕ) {at : Stand} {s r : ℕ} (o : Open size at s r) → Ends size at r → Next size o group_end (stand_at (phase_after at)) s 0
unfolding may_follow before joined middles
take_end size o_free f = record { opens = o_free; back = λ ts r. found_early size r }
take_end size {s} (o_start p a h e) f = record { opens = o_inside {s = s} p [] a each_none (omega arith) (omega arith) refl; back = λ ts r. r }
take_end size {s} (o_middle p ps m a b c h e) f = record { opens = o_inside {s = s} p (ps ++ (m ∷ [])) a (each_snoc m b c) h (omega (arith, length_snoc ps m)) refl; back = λ ts r. rw (middles_snoc ps m ts) at r }
take_end size (o_inside p ps a b h e z) f = absurd (false≢true f.follows)
take_end size {r} (o_ended p ps q a b c h e z) f = record { opens = o_owed p ps q a b c h e (omega (arith, z, leb-true (size - r) most_owing f.owes)); back = λ ts r. r }
take_end size (o_owed p ps q a b c h e m) f = absurd (false≢true f.follows)

-- The stands between groups.
pub data Between : Stand → Type 0 where
  b_free : Between Free
  b_inside : Between Inside
  b_owed : Between Owed

found_end : (size : ℕ) {at : Stand} {s r : ℕ} → Between at → (o : Open size at s r) → Found size (before o [])
unfolding before tokens tail_tokens
found_end size b_free o_free = record { laid = []; tail = none_open; sound = each_none; sound_tail = sound_none; shows = refl }
found_end size b_inside (o_inside p ps a b h e z) =
    record { laid = []; tail = broken_inside p ps; sound = each_none; sound_tail = sound_inside {p = p} {ps = ps} a b (simp length-append (omega arith)); shows = refl }
found_end size b_owed (o_owed p ps q a b c h e m) =
    record { laid = []; tail = broken_owed p ps q; sound = each_none; sound_tail = sound_owed {p = p} {ps = ps} {q = q} a b c (omega (arith, length_whole p ps q)) m; shows = refl }

pub find : (size : ℕ) {to : Stand} {n : ℕ} {at : Stand} {s r : ℕ} {ts : List Token} → Between to → (o : Open size at s r) → Walk size to n at s r ts → Found size (before o ts)
find size b o stop = found_end size b o
find size b o (step {p} {ts} f w) = (take_piece size o p f).back ts (find size b (take_piece size o p f).opens w)
find size b o (leap {ts} h w) = (take_end size o h).back ts (find size b (take_end size o h).opens w)

pub walk_found : (size : ℕ) {to : Stand} {n : ℕ} {ts : List Token} → Between to → Walk size to n Free 0 0 ts → Found size ts
unfolding before
walk_found size b w = find size b o_free w
