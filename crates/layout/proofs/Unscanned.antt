-- From a scan that reaches its end to the pieces that it went over.
-- Assumes nothing.
use Prim.Native.Nat.{ℕ, zero, suc, ◌+◌, ◌-◌, ◌≤◌, ◌<◌}
use native.Mathlib.Omega.{arith}
use mathlib.Core.List.{List, [], ◌∷◌, ◌++◌, map}
use mathlib.Core.Bool.{Bool, true, false, not, false≢true, true≢false}
use mathlib.Core.Path.{◌≡◌, refl, sym, ap, ap₂, ◌∙◌, subst}
use lib.ListN.{length, length-append, length-take, length-drop, take, drop}
use lib.Seq.{take-add, drop-drop}
use lib.Dec.{leb}
use borrow.Author.Tests.{leb-true, eqb-true, not-true}
use Rattle.group.specs.declared.Entry.{Entry}
use Rattle.group.specs.declared.Kind.{Kind}
use Rattle.group.specs.declared.Kind.TheVariants.{Total, Separator, Middle, Start, Last, Entire, Skip}
use Rattle.group.specs.Flags.{Meaning}
use Rattle.std.specs.Prelude.{Some, None}
use Rattle.group.specs.Entries.{entry}
use Rattle.group.specs.Flags.{flag_of, meaning_of}
use Rattle.numbers.proofs.Tests.{both}
use Rattle.group.proofs.FlagLaws.{flag_of_meaning}
use Rattle.group.proofs.EntryLaws.{Small}
use Rattle.entry.specs.declared.Stand.{Stand}
use Rattle.entry.specs.declared.Cursor.{Cursor}
use Rattle.entry.specs.ScanEnd.{Reached}
use Rattle.entry.specs.Rules.{may_follow, is_skip, stand_at, phase_after, advance, b4_kept, reached_after, room_kept, entry_fault}
use Rattle.entry.specs.Scan.{after, scan}
use Rattle.entry.proofs.Faults.{Kept, kept, unknown_fault}
use Rattle.entry.proofs.Scans.{went_on}
use Rattle.layout.specs.Items.{Piece, Token}
use Rattle.layout.specs.Items.Piece.{a_total, a_separator, a_middle, a_start, a_last, an_entire}
use Rattle.layout.specs.Items.Token.{piece, group_end}
use Rattle.layout.specs.Layout.{kind_of, count_of, data_of, user_data, b4_after, plain_left, entries_of}
use Rattle.layout.proofs.Grammar.{Fits, Walk}
use Rattle.layout.proofs.Grammar.Walk.{step, leap}
use Rattle.layout.proofs.Decode.{plain_past, data_after}

-- An entry that was passed: the kind and the b4 that its flag means, and the rules that it keeps.
pub record Meant (size limit : ℕ) (last : Bool) (c : Cursor) (e : Entry) (d : Cursor) : Type 0 where
  pub kind : Kind
  pub warned : Bool
  pub flags : e.flag ≡ flag_of kind warned
  pub kept : Kept size limit last c kind warned e.count
  pub leads : advance c kind warned e.count ≡ d

meant : (size limit : ℕ) (last : Bool) (c : Cursor) (e : Entry) → entry_fault size limit last c (meaning_of e.flag) e.count ≡ 0 →
    Meant size limit last c e (after c (meaning_of e.flag) e.count)
meant size limit last c e h = by (meaning_of e.flag) refl h
  where
    by : (m : Meaning) → meaning_of e.flag ≡ m → entry_fault size limit last c m e.count ≡ 0 → Meant size limit last c e (after c m e.count)
    by None f h = absurd (unknown_fault size limit last c e.count h)
    by (Some (k, w)) f h = record { kind = k; warned = w; flags = flag_of_meaning e.flag k w f; kept = kept size limit last c k w e.count h; leads = refl }

-- The piece of an entry that is no skip, with its bytes from the group.
record Made (g : List ℕ) (reached : ℕ) (k : Kind) (count : ℕ) : Type 0 where
  pub made : Piece
  pub kinds : kind_of made ≡ k
  pub counts : count_of made ≡ count
  pub shows : data_of made ≡ take (length (data_of made)) (drop reached g)

enough : (g : List ℕ) (reached count limit : ℕ) → leb (reached + count) limit ≡ true → limit ≤ length g → length (take count (drop reached g)) ≡ count
enough g reached count limit h l = simp (length-take, length-drop) (omega (arith, leb-true (reached + count) limit h))

again : (count : ℕ) (l : List ℕ) → length (take count l) ≡ count → take count l ≡ take (length (take count l)) l
again count l h = ap (λ (n : ℕ). take n l) (sym h)

make : (g : List ℕ) (reached count limit : ℕ) (k : Kind) → limit ≤ length g → is_skip k ≡ false → room_kept k reached count limit ≡ true → Made g reached k count
unfolding kind_of count_of data_of
make g reached count limit Total l s h = record { made = a_total count; kinds = refl; counts = refl; shows = refl }
make g reached count limit Separator l s h = record { made = a_separator count; kinds = refl; counts = refl; shows = refl }
make g reached count limit Middle l s h =
    let e = enough g reached count limit h l in
    record { made = a_middle (take count (drop reached g)); kinds = refl; counts = e; shows = again count (drop reached g) e }
make g reached count limit Start l s h =
    let e = enough g reached count limit h l in
    record { made = a_start (take count (drop reached g)); kinds = refl; counts = e; shows = again count (drop reached g) e }
make g reached count limit Last l s h =
    let e = enough g reached count limit h l in
    record { made = a_last (take count (drop reached g)); kinds = refl; counts = e; shows = again count (drop reached g) e }
make g reached count limit Entire l s h =
    let e = enough g reached count limit h l in
    record { made = an_entire (take count (drop reached g)); kinds = refl; counts = e; shows = again count (drop reached g) e }
make g reached count limit Skip l s h = absurd (true≢false s)

-- In how many entries b4 is clear, with one entry more.
record Plain (warned : Bool) (left : ℕ) : Type 0 where
  pub plain : ℕ
  pub warns : b4_after plain ≡ warned
  pub leaves : plain_left plain ≡ left

plain_before : (warned : Bool) (left : ℕ) → b4_kept warned (b4_after left) ≡ true → Plain warned left
unfolding b4_after plain_left
plain_before true zero h = record { plain = zero; warns = refl; leaves = refl }
plain_before true (suc n) h = absurd (false≢true h)
plain_before false left h = record { plain = suc left; warns = refl; leaves = refl }

-- b4 may be clear in no entry more.
pub none_plain : (warned : Bool) → b4_kept warned (b4_after 0) ≡ true
unfolding b4_after
none_plain true = refl
none_plain false = refl

-- What a scan that reaches d from c went over: the entries are those of pieces that the grammar takes.
pub record Pictured (size limit left : ℕ) (g : List ℕ) (es : List Entry) (c d : Cursor) : Type 0 where
  pub pieces : List Piece
  pub plain : ℕ
  pub warns : b4_kept c.warned (b4_after plain) ≡ true
  pub past : plain - suc (length pieces) ≡ left
  pub same : entries_of plain (size - (c.reached + length (user_data pieces))) pieces ≡ es
  pub walks : (to : Stand) (n : ℕ) (rest : List Token) → Walk size to n (stand_at (phase_after d.stand)) d.sum 0 rest → Walk size to n c.stand c.sum c.reached (map piece pieces ++ (group_end ∷ rest))
  pub fits : c.reached + length (user_data pieces) ≤ limit
  pub shows : user_data pieces ≡ take (length (user_data pieces)) (drop c.reached g)

is_skip_lem : (k : Kind) → is_skip k ≡ true → k ≡ Skip
is_skip_lem Total h = absurd (false≢true h)
is_skip_lem Separator h = absurd (false≢true h)
is_skip_lem Middle h = absurd (false≢true h)
is_skip_lem Start h = absurd (false≢true h)
is_skip_lem Last h = absurd (false≢true h)
is_skip_lem Entire h = absurd (false≢true h)
is_skip_lem Skip h = refl

entry_same : (e : Entry) (f n : ℕ) → e.flag ≡ f → e.count ≡ n → entry f n ≡ e
entry_same e f n p q = λ i. record { flag = sym p i; count = sym q i }

-- At the skip.
module _ (size limit : ℕ) (g : List ℕ) (e : Entry) (c d : Cursor) (warned : Bool) (l : c.reached ≤ limit) (flags : e.flag ≡ flag_of Skip warned)
    (kept : Kept size limit true c Skip warned e.count) (leads : advance c Skip warned e.count ≡ d) where
  skip_counts : e.count ≡ size - c.reached
  skip_counts = eqb-true e.count (size - c.reached) kept.skip

  skip_walks : (to : Stand) (n : ℕ) (rest : List Token) → Walk size to n (stand_at (phase_after d.stand)) d.sum 0 rest → Walk size to n c.stand c.sum c.reached (group_end ∷ rest)
  skip_walks to n rest w =
      leap (record { follows = (both (may_follow c.stand Skip) (is_skip Skip) kept.follow).0; owes = rw skip_counts at kept.owed })
      (subst (λ (x : Cursor). Walk size to n (stand_at (phase_after x.stand)) x.sum 0 rest) (sym leads) w)

  skip_pictured : (left : ℕ) → Plain warned left → Pictured size limit left g (e ∷ []) c d
  unfolding entries_of user_data
  skip_pictured left pl =
      record {
        pieces = [];
        plain = pl.plain;
        warns = rw pl.warns kept.b4;
        past = omega (arith, plain_past pl.plain 0, pl.leaves);
        same = rw pl.warns (ap {B = List Entry} (λ x. x ∷ []) (entry_same e (flag_of Skip warned) (size - (c.reached + 0)) flags (omega (arith, skip_counts))));
        walks = skip_walks;
        fits = omega arith;
        shows = refl;
      }

at_skip : (size limit left : ℕ) (g : List ℕ) (e : Entry) (c d : Cursor) → c.reached ≤ limit → b4_kept d.warned (b4_after left) ≡ true → Meant size limit true c e d → Pictured size limit left g (e ∷ []) c d
at_skip size limit left g e c d l w m =
    let k : m.kind ≡ Skip = is_skip_lem m.kind (both (may_follow c.stand m.kind) (is_skip m.kind) m.kept.follow).1 in
    skip_pictured size limit g e c d m.warned l (rw k at m.flags) (rw k at m.kept) (rw k at m.leads) left (plain_before m.warned left (rw (ap (λ (x : Cursor). x.warned) m.leads) w))

two_parts : (g x y : List ℕ) (at next : ℕ) → next ≡ at + length x → x ≡ take (length x) (drop at g) → y ≡ take (length y) (drop next g) → x ++ y ≡ take (length (x ++ y)) (drop at g)
two_parts g x y at next e p q =
    ap₂ (λ (s t : List ℕ). s ++ t) p (q ∙ ap (λ (k : ℕ). take (length y) (drop k g)) e) ∙ sym (rw (length-append x y, take-add (length x) (length y) (drop at g), drop-drop))

-- At a piece.
module _ (size limit left : ℕ) (g : List ℕ) (e : Entry) (es : List Entry) (c d f : Cursor) (p : Piece) (warned : Bool) (flags : e.flag ≡ flag_of (kind_of p) warned) (counts : e.count ≡ count_of p)
    (small : e.count < 16777216) (kept : Kept size limit false c (kind_of p) warned (count_of p)) (leads : advance c (kind_of p) warned (count_of p) ≡ d)
    (shown : data_of p ≡ take (length (data_of p)) (drop c.reached g)) (q : Pictured size limit left g es d f) where
  piece_moves : d.reached ≡ c.reached + length (data_of p)
  piece_moves = sym (ap (λ (x : Cursor). x.reached) leads) ∙ data_after p c.reached

  piece_fits : Fits c.stand c.sum p
  piece_fits = record { follows = (both (may_follow c.stand (kind_of p)) (not (is_skip (kind_of p))) kept.follow).0; kept = kept.counted; small = omega arith }

  piece_walks : (to : Stand) (n : ℕ) (rest : List Token) → Walk size to n (stand_at (phase_after f.stand)) f.sum 0 rest →
      Walk size to n c.stand c.sum c.reached (piece p ∷ (map piece q.pieces ++ (group_end ∷ rest)))
  piece_walks to n rest w = step piece_fits (subst (λ (x : Cursor). Walk size to n x.stand x.sum x.reached (map piece q.pieces ++ (group_end ∷ rest))) (sym leads) (q.walks to n rest w))

  piece_adds : length (data_of p ++ user_data q.pieces) ≡ length (data_of p) + length (user_data q.pieces)
  piece_adds = length-append (data_of p) (user_data q.pieces)

  piece_over : size - (c.reached + length (data_of p ++ user_data q.pieces)) ≡ size - (d.reached + length (user_data q.pieces))
  piece_over = omega (arith, piece_moves, piece_adds)

  piece_pictured : Plain warned q.plain → Pictured size limit left g (e ∷ es) c f
  unfolding entries_of user_data
  piece_pictured pl =
      record {
        pieces = p ∷ q.pieces;
        plain = pl.plain;
        warns = rw pl.warns kept.b4;
        past = omega (arith, plain_past pl.plain (suc (length q.pieces)), pl.leaves, q.past);
        same = rw (pl.warns, pl.leaves, piece_over, q.same) (ap {B = List Entry} (λ x. x ∷ es) (entry_same e (flag_of (kind_of p) warned) (count_of p) flags counts));
        walks = piece_walks;
        fits = omega (arith, piece_moves, piece_adds, q.fits);
        shows = two_parts g (data_of p) (user_data q.pieces) c.reached d.reached piece_moves shown q.shows;
      }

at_piece : (size limit left : ℕ) (g : List ℕ) (e : Entry) (es : List Entry) (c d f : Cursor) → e.count < 16777216 → limit ≤ length g → Meant size limit false c e d →
    Pictured size limit left g es d f → Pictured size limit left g (e ∷ es) c f
at_piece size limit left g e es c d f small l m q =
    let no : is_skip m.kind ≡ false = not-true (is_skip m.kind) (both (may_follow c.stand m.kind) (not (is_skip m.kind)) m.kept.follow).1 in
    let mk = make g c.reached e.count limit m.kind l no m.kept.room in
    piece_pictured size limit left g e es c d f mk.made m.warned (rw mk.kinds m.flags) (sym mk.counts) small
    (rw (mk.kinds, mk.counts) m.kept) (rw (mk.kinds, mk.counts) m.leads) mk.shows q
    (plain_before m.warned q.plain (rw (ap (λ (x : Cursor). x.warned) m.leads) q.warns))

moves_within : (size limit : ℕ) (last : Bool) (c : Cursor) (e : Entry) (d : Cursor) → Meant size limit last c e d → d.reached ≤ limit
moves_within size limit last c e d m =
    subst (λ (x : Cursor). x.reached ≤ limit) m.leads (leb-true (reached_after m.kind c.reached e.count) limit m.kept.room)

reached_same : {c d : Cursor} → Reached c ≡ Reached d → c ≡ d
reached_same h = cc

pub unscan : (size limit left : ℕ) (g : List ℕ) (e : Entry) (es : List Entry) (place : ℕ) (c d : Cursor) → limit ≤ length g → c.reached ≤ limit → Small (e ∷ es) → b4_kept d.warned (b4_after left) ≡ true →
    scan size limit (e ∷ es) place c ≡ Reached d → Pictured size limit left g (e ∷ es) c d
unfolding scan
unscan size limit left g e [] place c d l a s w h =
    let next = after c (meaning_of e.flag) e.count in
    let o = went_on (entry_fault size limit true c (meaning_of e.flag) e.count) place c d (Reached next) h in
    at_skip size limit left g e c d a w (subst (Meant size limit true c e) (reached_same o.1) (meant size limit true c e o.0))
unscan size limit left g e (x ∷ es) place c d l a s w h =
    let next = after c (meaning_of e.flag) e.count in
    let o = went_on (entry_fault size limit false c (meaning_of e.flag) e.count) place c d (scan size limit (x ∷ es) (suc place) next) h in
    let m = meant size limit false c e o.0 in
    at_piece size limit left g e (x ∷ es) c next d s.0 l m (unscan size limit left g x es (suc place) next d l (moves_within size limit false c e next m) s.1 w o.1)
