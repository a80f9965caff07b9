-- What a desk and a run hold: the pieces of the groups closed and of the open group; and what b4, laying and closing do to it.
-- Assumes nothing.
use Prim.Native.Nat.{ℕ, suc, ◌+◌, ◌-◌, ◌≤◌}
use native.Mathlib.Omega.{arith}
use mathlib.Core.List.{List, [], ◌∷◌, ◌++◌, map, append_assoc, append-nil, map-append}
use mathlib.Core.Bool.{Bool, true, false, false≢true, ◌||◌}
use mathlib.Core.Path.{◌≡◌, refl, ap, ◌∙◌, subst}
use lib.ListN.{length, length-append}
use Rattle.group.specs.declared.Phase.{Phase}
use Rattle.group.specs.Sizes.{information_length, last_number}
use Rattle.entry.specs.declared.Stand.{Stand}
use Rattle.entry.specs.declared.Stand.TheVariants.{Free}
use Rattle.entry.specs.Rules.{stand_after, sum_after, reached_after, stand_at, phase_after}
use Rattle.laying.specs.Laying.{Desk, desk, lay_entry, lay_data, lay_part, moved, lay_skip, zero_gap, shut, warn_state}
use Rattle.laying.specs.Bounds.{span}
use Rattle.layout.specs.Items.{Item, Piece, Token, grouped}
use Rattle.layout.specs.Items.Token.{piece, group_end}
use Rattle.layout.specs.Items.Item.{record_item, separator_item}
use Rattle.layout.specs.Items.Piece.{a_total, a_separator, a_middle, a_start, a_last, an_entire}
use Rattle.layout.specs.Layout.{Image, Pictures, Run, kind_of, count_of, data_of, user_data}
use Rattle.layout.specs.Layout.Run.{run_none, run_more}
use Rattle.layout.specs.Reading.{items_after, begun_after}
use Rattle.layout.specs.Writing.{image_of}
use Rattle.layout.proofs.Assembled.{flat}
use Rattle.layout.proofs.Grammar.{Fits, Ends, Walk}
use Rattle.layout.proofs.Grammar.Walk.{stop, step, leap}
use Rattle.layout.proofs.Decode.{data_after}
use Rattle.layout.proofs.Buffer.{Flagged, Through, Buffered, buffered_entry, buffered_part, buffered_shut, buffered_fresh, length_snoc}
use Rattle.layout.proofs.Buffer.Flagged.{clear, set}
use Rattle.layout.proofs.Buffer.Through.{all_clear, no_more}

-- At the end of a list: a walk, the tokens, the pieces, the run.

walk_piece : {size : ℕ} {to : Stand} {n : ℕ} {at : Stand} {s r : ℕ} {ts : List Token} (p : Piece) → Walk size to n at s r ts → Fits to n p →
    Walk size (stand_after to (kind_of p)) (sum_after (kind_of p) n (count_of p)) at s r (ts ++ (piece p ∷ []))
walk_piece p stop f = step f stop
walk_piece p (step g w) f = step g (walk_piece p w f)
walk_piece p (leap h w) f = leap h (walk_piece p w f)

-- The data of the group that tokens leave open, where so much of it was reached before them.
unfoldable reached_in : ℕ → List Token → ℕ
reached_in reached [] = reached
reached_in reached (piece p ∷ ts) = reached_in (reached_after (kind_of p) reached (count_of p)) ts
reached_in reached (group_end ∷ ts) = reached_in 0 ts

walk_end : {size : ℕ} {to : Stand} {n : ℕ} {at : Stand} {s r : ℕ} {ts : List Token} → Walk size to n at s r ts → Ends size to (reached_in r ts) → Walk size (stand_at (phase_after to)) n at s r (ts ++ (group_end ∷ []))
unfolding reached_in
walk_end stop f = leap f stop
walk_end (step g w) f = step g (walk_end w f)
walk_end (leap h w) f = leap h (walk_end w f)

reached_pieces : (reached : ℕ) (ps : List Piece) → reached_in reached (map piece ps) ≡ reached + length (user_data ps)
unfolding reached_in user_data
reached_pieces reached [] = omega arith
reached_pieces reached (p ∷ ps) =
    reached_pieces (reached_after (kind_of p) reached (count_of p)) ps ∙ omega (arith, data_after p reached, length-append (data_of p) (user_data ps))

reached_end : (reached : ℕ) (ps : List Piece) (ts : List Token) → reached_in reached (map piece ps ++ (group_end ∷ ts)) ≡ reached_in 0 ts
unfolding reached_in
reached_end reached [] ts = refl
reached_end reached (p ∷ ps) ts = reached_end (reached_after (kind_of p) reached (count_of p)) ps ts

reached_groups : (gs : List (List Piece)) (ts : List Token) → reached_in 0 (grouped gs ++ ts) ≡ reached_in 0 ts
unfolding grouped
reached_groups [] ts = refl
reached_groups (ps ∷ gs) ts = rw (append_assoc (map piece ps) (group_end ∷ grouped gs) ts) (reached_end 0 ps (grouped gs ++ ts) ∙ reached_groups gs ts)

pub grouped_append : (gs hs : List (List Piece)) → grouped (gs ++ hs) ≡ grouped gs ++ grouped hs
unfolding grouped
grouped_append [] hs = refl
grouped_append (g ∷ gs) hs = rw (grouped_append gs hs, append_assoc (map piece g) (group_end ∷ grouped gs) (grouped hs))

grouped_snoc : (gs : List (List Piece)) (ps : List Piece) → grouped (gs ++ (ps ∷ [])) ≡ grouped gs ++ map piece ps ++ (group_end ∷ [])
unfolding grouped
grouped_snoc gs ps = rw (grouped_append gs (ps ∷ []), append_assoc (grouped gs) (map piece ps) (group_end ∷ []))

flat_snoc : (gs : List (List Piece)) (ps : List Piece) → flat (gs ++ (ps ∷ [])) ≡ flat gs ++ ps
unfolding flat
flat_snoc [] ps = append-nil ps
flat_snoc (g ∷ gs) ps = rw (flat_snoc gs ps, append_assoc)

items_append : (o : List ℕ) (ps qs : List Piece) → items_after o (ps ++ qs) ≡ items_after o ps ++ items_after (begun_after o ps) qs
unfolding items_after begun_after
items_append o [] qs = refl
items_append o (a_total n ∷ ps) qs = ap {B = List Item} (λ r. record_item o ∷ r) (items_append [] ps qs)
items_append o (a_separator v ∷ ps) qs = ap {B = List Item} (λ r. separator_item v ∷ r) (items_append [] ps qs)
items_append o (a_middle bs ∷ ps) qs = items_append (o ++ bs) ps qs
items_append o (a_start bs ∷ ps) qs = items_append bs ps qs
items_append o (a_last bs ∷ ps) qs = items_append (o ++ bs) ps qs
items_append o (an_entire bs ∷ ps) qs = ap {B = List Item} (λ r. record_item bs ∷ r) (items_append [] ps qs)

pub begun_append : (o : List ℕ) (ps qs : List Piece) → begun_after o (ps ++ qs) ≡ begun_after (begun_after o ps) qs
unfolding begun_after
begun_append o [] qs = refl
begun_append o (a_total n ∷ ps) qs = begun_append [] ps qs
begun_append o (a_separator v ∷ ps) qs = begun_append [] ps qs
begun_append o (a_middle bs ∷ ps) qs = begun_append (o ++ bs) ps qs
begun_append o (a_start bs ∷ ps) qs = begun_append bs ps qs
begun_append o (a_last bs ∷ ps) qs = begun_append (o ++ bs) ps qs
begun_append o (an_entire bs ∷ ps) qs = begun_append [] ps qs

-- The entries of a run.
unfoldable pub entries_in : List Image → ℕ
entries_in [] = 0
entries_in (g ∷ gs) = g.entries + entries_in gs

entries_snoc : (run : List Image) (g : Image) → entries_in (run ++ (g ∷ [])) ≡ entries_in run + g.entries
unfolding entries_in
entries_snoc [] g = omega arith
entries_snoc (h ∷ run) g = omega (arith, entries_snoc run g)

run_snoc : {size plain number left : ℕ} {groups : List (List Piece)} {run : List Image} {ps : List Piece} {g : Image} → Run size plain number groups run →
    g.number ≡ number + length groups → g.number ≤ last_number → left ≡ plain - entries_in run → Pictures size left ps g → Run size plain number (groups ++ (ps ∷ [])) (run ++ (g ∷ []))
unfolding entries_in
run_snoc {size} {plain} {number} {left} {ps} {g} run_none e h z f =
    let i : g.number ≡ number = omega arith in
    let j : number ≤ last_number = omega arith in
    let k : left ≡ plain = omega arith in
    run_more j i (subst (λ (n : ℕ). Pictures size n ps g) k f) run_none
run_snoc (run_more a b f r) e h z g = run_more a b f (run_snoc r (omega arith) h (omega arith) g)

-- Where b4 begins: in no group that is closed so far, or in one of them; by b4 as the open group began.
pub data Begins (size first : ℕ) (groups : List (List Piece)) (run : List Image) : Bool → Type 0 where
  not_yet : ((more : ℕ) → Run size (entries_in run + more) first groups run) → Begins size first groups run false
  already : (before : ℕ) → before ≤ entries_in run → Run size before first groups run → Begins size first groups run true

-- .. with the open group shut.
begins_shut : {size first entries plain : ℕ} {groups : List (List Piece)} {run : List Image} {ps : List Piece} {g : Image} {before warned : Bool} → Begins size first groups run before →
    Flagged warned plain entries → (before ≡ true → (warned ≡ true) × (plain ≡ 0)) → g.entries ≡ entries + 1 → g.number ≡ first + length groups → g.number ≤ last_number →
    ((past : ℕ) → Through entries warned plain past → Pictures size past ps g) → Begins size first (groups ++ (ps ∷ [])) (run ++ (g ∷ [])) warned
begins_shut {size} {first} {entries} {groups} {run} {ps} {g} (not_yet r) clear c n a b f =
    not_yet (λ more.
    let all = entries_snoc run g in
    let e : entries_in run + (suc entries + more) ≡ entries_in (run ++ (g ∷ [])) + more = omega arith in
    subst (λ (k : ℕ). Run size k first (groups ++ (ps ∷ [])) (run ++ (g ∷ []))) e (run_snoc (r (suc entries + more)) a b (omega arith) (f (suc entries + more) (all_clear (omega arith)))))
begins_shut {entries} {plain} {run} {g} (not_yet r) (set h) c n a b f =
    already (entries_in run + plain) (omega (arith, entries_snoc run g)) (run_snoc (r plain) a b (omega arith) (f plain no_more))
begins_shut (already k h r) clear c n a b f = absurd (false≢true (c refl).0)
begins_shut {plain} {run} {g} (already k h r) (set i) c n a b f =
    let none = (c refl).1 in
    already k (omega (arith, entries_snoc run g)) (run_snoc r a b (omega arith) (f plain no_more))

-- The run, and in how many of its entries b4 is clear.
pub record Closed (size first : ℕ) (groups : List (List Piece)) (run : List Image) : Type 0 where
  pub plain : ℕ
  pub images : Run size plain first groups run

pub closed_run : {size first : ℕ} {groups : List (List Piece)} {run : List Image} {b : Bool} → Begins size first groups run b → Closed size first groups run
closed_run {run} (not_yet r) = record { plain = entries_in run + 0; images = r 0 }
closed_run (already before h r) = record { plain = before; images = r }

-- What is held: the pieces of the groups closed and of the open group are lawful so far, lead to a stand and a sum, finish
-- these items and leave these bytes begun; the run pictures the ones, the buffer the others.
pub record Held (first : ℕ) (at : Stand) (sum : ℕ) (w : Desk) (run : List Image) (finished : List Item) (begun : List ℕ) : Type 0 where
  pub groups : List (List Piece)
  pub pieces : List Piece
  pub numbered : w.state.next ≡ first + length groups
  pub walks : Walk w.state.size at sum Free 0 0 (grouped groups ++ map piece pieces)
  pub finishes : items_after [] (flat groups ++ pieces) ≡ finished
  pub breaks : begun_after [] (flat groups ++ pieces) ≡ begun
  pub before : Bool
  pub begins : Begins w.state.size first groups run before
  pub stands : Buffered w.state.size w.state.filled w.state.entries before w.state.warned w.group pieces

flagged_warn : {b : Bool} {plain n : ℕ} (c : Bool) → Flagged b plain n → Flagged (c || b) plain n
flagged_warn {n} true clear = set {plain = n} {n = n} (omega arith)
flagged_warn false clear = clear
flagged_warn true (set h) = set h
flagged_warn false (set h) = set h

carried_warn : {before b : Bool} {plain : ℕ} (c : Bool) → (before ≡ true → (b ≡ true) × (plain ≡ 0)) → before ≡ true → (c || b ≡ true) × (plain ≡ 0)
carried_warn true h x = (refl, (h x).1)
carried_warn false h x = h x

module _ {first sum : ℕ} {at : Stand} {w : Desk} {run : List Image} {finished : List Item} {begun : List ℕ} where
  pub held_warn : (b : Bool) → Held first at sum w run finished begun → Held first at sum (desk (warn_state b w.state) w.group) run finished begun
  unfolding warn_state
  held_warn b h =
      let s = h.stands in
      record {
        groups = h.groups;
        pieces = h.pieces;
        numbered = h.numbered;
        walks = h.walks;
        finishes = h.finishes;
        breaks = h.breaks;
        before = h.before;
        begins = h.begins;
        stands = record { plain = s.plain; flagged = flagged_warn b s.flagged; carried = carried_warn b s.carried; counted = s.counted; reached = s.reached; shape = s.shape };
      }

  pub held_moved : (p : Phase) (m rest : ℕ) → Held first at sum w run finished begun → Held first at sum (moved p m rest w) run finished begun
  unfolding moved
  held_moved p m rest h = record { groups = h.groups; pieces = h.pieces; numbered = h.numbered; walks = h.walks; finishes = h.finishes; breaks = h.breaks; before = h.before; begins = h.begins; stands = h.stands }

  -- One piece more of the open group.
  module _ (p : Piece) (h : Held first at sum w run finished begun) (f : Fits at sum p) where
    walks_on : Walk w.state.size (stand_after at (kind_of p)) (sum_after (kind_of p) sum (count_of p)) Free 0 0 (grouped h.groups ++ map piece (h.pieces ++ (p ∷ [])))
    walks_on = rw (map-append piece h.pieces (p ∷ []), ← append_assoc (grouped h.groups) (map piece h.pieces) (piece p ∷ [])) (walk_piece p h.walks f)

    items_on : items_after [] (flat h.groups ++ (h.pieces ++ (p ∷ []))) ≡ finished ++ items_after begun (p ∷ [])
    items_on = rw (← append_assoc (flat h.groups) h.pieces (p ∷ []), items_append [] (flat h.groups ++ h.pieces) (p ∷ []), h.finishes, h.breaks)

    begun_on : begun_after [] (flat h.groups ++ (h.pieces ++ (p ∷ []))) ≡ begun_after begun (p ∷ [])
    begun_on = rw (← append_assoc (flat h.groups) h.pieces (p ∷ []), begun_append [] (flat h.groups ++ h.pieces) (p ∷ []), h.breaks)

    pub held_entry : data_of p ≡ [] → span w.state.filled (w.state.entries + 1) ≤ w.state.size →
        Held first (stand_after at (kind_of p)) (sum_after (kind_of p) sum (count_of p)) (lay_entry (kind_of p) (count_of p) w) run (finished ++ items_after begun (p ∷ [])) (begun_after begun (p ∷ []))
    unfolding lay_entry
    held_entry e room = record { groups = h.groups; pieces = h.pieces ++ (p ∷ []); numbered = h.numbered; walks = walks_on; finishes = items_on; breaks = begun_on; before = h.before; begins = h.begins; stands = buffered_entry p e room h.stands }

    pub held_part : count_of p ≡ length (data_of p) → span (w.state.filled + length (data_of p)) (w.state.entries + 1) ≤ w.state.size →
        Held first (stand_after at (kind_of p)) (sum_after (kind_of p) sum (count_of p)) (lay_part (kind_of p) (data_of p) w) run (finished ++ items_after begun (p ∷ [])) (begun_after begun (p ∷ []))
    unfolding lay_part lay_data lay_entry
    held_part e room = record { groups = h.groups; pieces = h.pieces ++ (p ∷ []); numbered = h.numbered; walks = walks_on; finishes = items_on; breaks = begun_on; before = h.before; begins = h.begins; stands = rw e at (buffered_part p room h.stands) }

  -- The group is shut, and the next call comes with another buffer.
  pub held_shut : (information g : List ℕ) → Held first at sum w run finished begun → Ends w.state.size at w.state.filled → w.state.next ≤ last_number → information_length ≤ w.state.size →
      span w.state.filled (w.state.entries + 1) ≤ w.state.size → length information ≡ information_length → length g ≡ w.state.size →
      Held first (stand_at (phase_after at)) sum (desk (shut w).state g)
      (run ++ (image_of w.state.next (w.state.entries + 1) (shut w).group information ∷ [])) finished begun
  unfolding shut zero_gap lay_skip lay_entry image_of
  held_shut information g h may low big room l m =
      let more = length_snoc h.groups h.pieces in
      let n = h.numbered in
      let filled : reached_in 0 (grouped h.groups ++ map piece h.pieces) ≡ w.state.filled =
      reached_groups h.groups (map piece h.pieces) ∙ reached_pieces 0 h.pieces ∙ omega (arith, h.stands.reached) in
      record {
        groups = h.groups ++ (h.pieces ∷ []);
        pieces = [];
        numbered = rw more (omega arith);
        walks = rw (append-nil (grouped (h.groups ++ (h.pieces ∷ []))), grouped_snoc h.groups h.pieces) (walk_end h.walks (rw filled may));
        finishes = rw (append-nil (flat (h.groups ++ (h.pieces ∷ []))), flat_snoc h.groups h.pieces) h.finishes;
        breaks = rw (append-nil (flat (h.groups ++ (h.pieces ∷ []))), flat_snoc h.groups h.pieces) h.breaks;
        before = w.state.warned;
        begins = begins_shut h.begins h.stands.flagged h.stands.carried refl n low (λ past t. buffered_shut w.state.next information l room h.stands t);
        stands = buffered_fresh w.state.warned big m;
      }
