-- The theorems on where a block begins in a run, as they are cited, each under the request's words for it.
-- Assumes nothing.
use Prim.Native.Nat.{ℕ, ◌-◌, ◌≤◌, ◌<◌}
use native.Mathlib.Omega.{arith}
use mathlib.Core.List.{List, [], ◌∷◌, ◌++◌}
use mathlib.Core.Path.{◌≡◌, sym, ap, ◌∙◌, subst}
use mathlib.Core.Logic.{◌↔◌}
use lib.ListN.{length, length-append}
use Rattle.numbers.specs.Numbers.{in_bytes}
use Rattle.numbers.proofs.Tests.{within}
use Rattle.group.specs.Sizes.{longest_record}
use Rattle.entry.specs.declared.Stand.{Stand}
use Rattle.entry.specs.declared.Stand.TheVariants.{Free}
use Rattle.rows.specs.Rows.{rows_from}
use Rattle.reader.specs.declared.Reader.{Reader}
use Rattle.reader.specs.Answer.{group_rows}
use Rattle.std.specs.Prelude.{Some, None}
use Rattle.seek.specs.Find.{find_call}
use Rattle.layout.specs.Items.{Item, Piece, Each, tokens, grouped}
use Rattle.layout.specs.Layout.{Image, Pictures, Run, Lays, data_of, user_data, entries_of}
use Rattle.layout.specs.Layout.Run.{run_more}
use Rattle.layout.proofs.Assembled.{pieces_in, flat, in_grouped}
use Rattle.layout.proofs.Grammar.{Walk, tail_stand, tail_sum}
use Rattle.layout.proofs.Decode.{SmallPiece, adds_up, entries_back}
use Rattle.layout.proofs.Complete.{past, walk_of}
use Rattle.blockplaces.specs.Places.{begun, begun_in, BeginsAt, records_of, opened, BlockAt, begun_rows, Somewhere}
use Rattle.blockplaces.proofs.Found.{at_same, found_is, answered_at, at_answered, elsewhere}
use Rattle.blockplaces.proofs.Heads.{Heads, firsts, user_append, heads_of_tokens, pick, firsts_begun, firsts_in, firsts_from, stands_at, heads_many}
use Rattle.blockplaces.proofs.Places.{rows_begun, block_in, counted_in_lem, one_group}

-- The first bytes of a run's records are those of the pieces with which blocks begin.
heads_read : {size first : ℕ} {i : List Item} {b : List ℕ} {run : List Image} (l : Lays size first i b run) → Heads (firsts (flat l.groups)) (records_of i ++ opened b)
heads_read {i} {b} l =
    let e : pieces_in (tokens l.laid l.tail) ≡ flat l.groups = ap pieces_in l.groups_of ∙ in_grouped l.groups in
    let h = heads_of_tokens l.laid l.tail l.sound l.sound_tail in
    rw (e, l.finishes, l.breaks) at h

-- One group of a run: its pieces are small, and its bytes picture them.
record Group (size : ℕ) (ps : List Piece) (g : Image) : Type 0 where
  pub plain : ℕ
  pub pictured : Pictures size plain ps g
  pub small : Each SmallPiece ps

group_at : {size n : ℕ} {to : Stand} {g : Image} {ps : List Piece} (beginning rest : List Image) (before behind : List (List Piece)) → length before ≡ length beginning →
    {from number sum reached : ℕ} {at : Stand} → Run size from number (before ++ (ps ∷ behind)) (beginning ++ (g ∷ rest)) → Walk size to n at sum reached (grouped (before ++ (ps ∷ behind))) → Group size ps g
unfolding grouped
group_at {ps} [] rest [] behind e (run_more {plain} a b f r) w = record { plain = plain; pictured = f; small = (past ps (grouped behind) w).small }
group_at [] rest (qs ∷ before) behind e r w = absurd (omega arith)
group_at (h ∷ beginning) rest [] behind e r w = absurd (omega arith)
group_at {ps} (h ∷ beginning) rest (qs ∷ before) behind e (run_more a b f r) w =
    group_at beginning rest before behind (omega arith) r (past qs (grouped (before ++ (ps ∷ behind))) w).goes

-- Its rows are those of its pieces.
rows_are : {size : ℕ} {g : Image} {ps : List Piece} (s : Reader) → s.size ≡ size → size ≤ longest_record → (q : Group size ps g) →
    group_rows s g.bytes g.entries ≡ rows_from 0 (entries_of q.plain (size - length (user_data ps)) ps)
unfolding group_rows
rows_are s e h q = rw e (ap (rows_from 0) (entries_back q.pictured h q.small))

-- "From a group's rows, any at all, and the number of blocks begun before it": of any group g of a lawful run, with the pieces
-- ps in its layout. Its rows are those of any reader with the run's L, and begunIn before blocks begin in the groups before it.
module _ {size first : ℕ} {i : List Item} {b : List ℕ} {run : List Image} (l : Lays size first i b run) (beginning rest : List Image) (g : Image) (before behind : List (List Piece))
    (ps : List Piece) (parts : run ≡ beginning ++ (g ∷ rest)) (groups : l.groups ≡ before ++ (ps ∷ behind)) (place : length before ≡ length beginning) (s : Reader) (sizes : s.size ≡ size) where
  this_group : Group size ps g
  this_group =
      group_at beginning rest before behind place
      (subst (λ (x : List (List Piece)). Run size l.plain first x (beginning ++ (g ∷ rest))) groups (subst (λ (x : List Image). Run size l.plain first l.groups x) parts l.images))
      (subst (λ (x : List (List Piece)). Walk size (tail_stand l.tail) (tail_sum l.tail) Free 0 0 (grouped x)) groups (walk_of l))

  -- "the profile answers the offset in the row of block b, counting whole start and entire rows alone": exactly where block k,
  -- counted from 0 over the run, begins in this group.
  pub block_found : (k offset : ℕ) → (find_call (in_bytes (group_rows s g.bytes g.entries)) (begun_in before) k ≡ Some offset) ↔ BeginsAt ps (begun_in before) k offset
  block_found k offset =
      let (least, most) = within 64 size 126632 l.sized in
      let q = this_group in
      let e = ap (λ (r : List ℕ). find_call (in_bytes r) (begun_in before) k) (rows_are {ps = ps} s sizes (omega arith) q)
      ∙ found_is ps q.plain (size - length (user_data ps)) (begun_in before) k (omega (arith, adds_up q.pictured)) in
      (λ x. answered_at ps (begun_in before) k offset (sym e ∙ x), λ x. e ∙ at_answered ps (begun_in before) k offset x)

  -- "or that b doesn't begin there": exactly where block k begins at no offset of this group.
  pub block_elsewhere : (k : ℕ) → (find_call (in_bytes (group_rows s g.bytes g.entries)) (begun_in before) k ≡ None) ↔ ((offset : ℕ) → BeginsAt ps (begun_in before) k offset → ⊥)
  block_elsewhere k = elsewhere (find_call (in_bytes (group_rows s g.bytes g.entries)) (begun_in before) k) ps (begun_in before) k (block_found k)

  -- An offset is one of the group's.
  pub block_within : (k offset : ℕ) → BeginsAt ps (begun_in before) k offset → offset ≤ size
  block_within k offset r =
      let all : length (user_data ps) ≡ length (user_data r.left ++ user_data (r.first ∷ r.right)) = ap (λ (x : List Piece). length (user_data x)) r.stands ∙ ap length (user_append r.left (r.first ∷ r.right)) in
      omega (arith, all, length-append (user_data r.left) (user_data (r.first ∷ r.right)), r.reached, adds_up this_group.pictured)

  -- "Blocks are numbered from 0 as they begin." What is answered of k is where the bytes of the run's k-th record begin, counted
  -- from 0 over its finished records and then the one broken off. They stand there whole, or a first part of them.
  pub block_stands : (k offset : ℕ) → find_call (in_bytes (group_rows s g.bytes g.entries)) (begun_in before) k ≡ Some offset → BlockAt g (records_of i ++ opened b) k offset
  block_stands k offset e =
      let r = (block_found k offset).0 e in
      let q = this_group in
      let heads : Heads (firsts (flat l.groups)) (records_of i ++ opened b) = heads_read l in
      let pieces : l.groups ≡ before ++ ((r.left ++ (r.first ∷ r.right)) ∷ behind) = groups ∙ ap (λ (x : List Piece). before ++ (x ∷ behind)) r.stands in
      let from : firsts (flat l.groups) ≡ (firsts (flat before) ++ firsts r.left) ++ (data_of r.first ∷ firsts (r.right ++ flat behind)) =
      ap (λ (x : List (List Piece)). firsts (flat x)) pieces ∙ firsts_from before behind r.left r.first r.right r.begins in
      let p = pick (firsts (flat before) ++ firsts r.left) (data_of r.first) (firsts (r.right ++ flat behind))
      (subst (λ (x : List (List ℕ)). Heads x (records_of i ++ opened b)) from heads) in
      record {
        earlier = p.earlier;
        part = data_of r.first;
        more = p.more;
        later = p.later;
        is = p.is;
        counted = p.counted ∙ omega (arith, length-append (firsts (flat before)) (firsts r.left), firsts_in before, firsts_begun r.left, r.counted);
        some = p.some;
        stands = stands_at g.bytes ps r.left r.first r.right offset _ q.pictured.stands r.stands r.reached;
      }

  -- "the number of blocks begun before it": what the caller counts in this group's rows is what begins in it, and with that the
  -- number begun before the next group is made.
  pub block_counted : begun_rows (group_rows s g.bytes g.entries) ≡ begun ps
  block_counted =
      let (least, most) = within 64 size 126632 l.sized in
      let q = this_group in
      ap begun_rows (rows_are {ps = ps} s sizes (omega arith) q) ∙ rows_begun ps q.plain (size - length (user_data ps)) 0

-- "Blocks are numbered from 0 as they begin." Every record that a lawful run begins, finished or broken off, is found: it has a
-- group, and find answers its offset there.
pub block_somewhere : {size first : ℕ} {i : List Item} {b : List ℕ} {run : List Image} (l : Lays size first i b run) (s : Reader) → s.size ≡ size → (k : ℕ) → k < length (records_of i ++ opened b) →
    (w : Somewhere run l.groups k) × (find_call (in_bytes (group_rows s w.group.bytes w.group.entries)) (begun_in w.before) k ≡ Some w.offset)
block_somewhere l s sizes k h =
    let many = heads_many (heads_read l) in
    let w = block_in l.images k (omega (arith, firsts_in l.groups)) in
    (w, (block_found l w.beginning w.rest w.group w.before w.behind w.pieces w.parts w.piled w.place s sizes k w.offset).1 w.there)

-- "Blocks are numbered from 0 as they begin." Block k begins in one place of a run alone: in one group, and there at one offset.
pub block_once : {size first : ℕ} {i : List Item} {b : List ℕ} {run : List Image} (l : Lays size first i b run) (before behind before' behind' : List (List Piece)) (ps ps' : List Piece) →
    l.groups ≡ before ++ (ps ∷ behind) → l.groups ≡ before' ++ (ps' ∷ behind') → (k offset offset' : ℕ) → BeginsAt ps (begun_in before) k offset → BeginsAt ps' (begun_in before') k offset' →
    (length before ≡ length before') × (offset ≡ offset')
block_once l before behind before' behind' ps ps' e e' k offset offset' r r' =
    let (least, most) = counted_in_lem r in
    let (least', most') = counted_in_lem r' in
    let (same, pieces) = one_group 0 k before before' ps ps' behind behind' (sym e ∙ e') (omega arith) (omega arith) (omega arith) (omega arith) in
    let there : BeginsAt ps (begun_in before) k offset' =
    subst (λ (x : List Piece). BeginsAt x (begun_in before) k offset') (sym pieces) (subst (λ (x : List (List Piece)). BeginsAt ps' (begun_in x) k offset') (sym same) r') in
    (ap length same, at_same (sym (at_answered ps (begun_in before) k offset r) ∙ at_answered ps (begun_in before) k offset' there))
