-- Each block that a run begins has its group; and what the caller counts in rows is what begins in their pieces.
-- Assumes nothing.
use Prim.Native.Nat.{ℕ, zero, suc, ◌+◌, ◌-◌, ◌≤◌, ◌<◌}
use native.Mathlib.Omega.{arith}
use mathlib.Core.List.{List, [], ◌∷◌, ◌++◌}
use mathlib.Core.Bool.{Bool, true, false, cond}
use mathlib.Core.Path.{◌≡◌, refl, sym, ap, ◌∙◌}
use lib.Dec.{ltb}
use lib.ListN.{length}
use borrow.Author.Tests.{ltb-true, ltb-false}
use Rattle.group.specs.declared.Kind.TheVariants.{Skip}
use Rattle.group.proofs.FlagLaws.{meaning_of_flag}
use Rattle.entry.specs.Rules.{reached_after}
use Rattle.rows.specs.Rows.{rows_from}
use Rattle.layout.specs.Items.{Piece}
use Rattle.layout.specs.Layout.{Image, Run, kind_of, count_of, user_data, b4_after, plain_left, entries_of}
use Rattle.layout.specs.Layout.Run.{run_none, run_more}
use Rattle.blockplaces.specs.Places.{begins_block, begun, begun_in, BeginsAt, begun_rows, Somewhere}
use Rattle.blockplaces.proofs.Found.{begins_kind}

pub rows_begun : (ps : List Piece) (plain over reached : ℕ) → begun_rows (rows_from reached (entries_of plain over ps)) ≡ begun ps
unfolding rows_from entries_of begun_rows begun
rows_begun [] plain over reached = rw (meaning_of_flag Skip (b4_after plain))
rows_begun (p ∷ ps) plain over reached =
    rw (meaning_of_flag (kind_of p) (b4_after plain), rows_begun ps (plain_left plain) over (reached_after (kind_of p) reached (count_of p)))
    (ap (λ (x : Bool). cond x (suc (begun ps)) (begun ps)) (begins_kind p))

-- The k-th block of pieces.
located : (ps : List Piece) (k : ℕ) → k < begun ps → (offset : ℕ) × BeginsAt ps 0 k offset
unfolding begun user_data
located [] k h = absurd (omega arith)
located (p ∷ ps) k h = by (located ps) (begins_block p) refl k h
  where
    here : begins_block p ≡ true → (k : ℕ) → k ≡ 0 → (offset : ℕ) × BeginsAt (p ∷ ps) 0 k offset
    here b k z = (0, record { left = []; first = p; right = ps; stands = refl; begins = b; counted = omega arith; reached = refl })

    later : (j k : ℕ) → cond (begins_block p) (suc j) j ≡ k → (offset : ℕ) × BeginsAt ps 0 j offset → (offset : ℕ) × BeginsAt (p ∷ ps) 0 k offset
    later j k e (offset, r) =
        let c : j ≡ begun r.left = omega (arith, r.counted) in
        let d : k ≡ begun (p ∷ r.left) = sym e ∙ ap (λ (n : ℕ). cond (begins_block p) (suc n) n) c in (
          length (user_data (p ∷ r.left)),
          record { left = p ∷ r.left; first = r.first; right = r.right; stands = ap {B = List Piece} (λ l. p ∷ l) r.stands; begins = r.begins; counted = omega arith; reached = refl },
        )

    by : ((j : ℕ) → j < begun ps → (offset : ℕ) × BeginsAt ps 0 j offset) → (x : Bool) → begins_block p ≡ x → (k : ℕ) → k < cond x (suc (begun ps)) (begun ps) →
        (offset : ℕ) × BeginsAt (p ∷ ps) 0 k offset
    by more true x zero h = here x zero refl
    by more true x (suc j) h = later j (suc j) (rw x) (more j (omega arith))
    by more false x k h = later k k (rw x) (more k h)

-- The group of the k-th block of a run.
pub block_in : {size plain number : ℕ} {groups : List (List Piece)} {run : List Image} → Run size plain number groups run → (k : ℕ) → k < begun_in groups → Somewhere run groups k
unfolding begun_in
block_in run_none k h = absurd (omega arith)
block_in (run_more {ps} {pss} {g} {gs} a b f r) k h = by (λ j. block_in r j) (ltb k (begun ps)) refl
  where
    by : ((j : ℕ) → j < begun_in pss → Somewhere gs pss j) → (x : Bool) → ltb k (begun ps) ≡ x → Somewhere (g ∷ gs) (ps ∷ pss) k
    by more true x =
        let (offset, there) = located ps k (ltb-true k (begun ps) x) in
        record { beginning = []; group = g; rest = gs; before = []; pieces = ps; behind = pss; offset = offset; parts = refl; piled = refl; place = refl; there = there }
    by more false x =
        let least = ltb-false k (begun ps) x in
        let q = more (k - begun ps) (omega arith) in
        let t = q.there in
        record {
          beginning = g ∷ q.beginning;
          group = q.group;
          rest = q.rest;
          before = ps ∷ q.before;
          pieces = q.pieces;
          behind = q.behind;
          offset = q.offset;
          parts = ap {B = List Image} (λ l. g ∷ l) q.parts;
          piled = ap {B = List (List Piece)} (λ l. ps ∷ l) q.piled;
          place = ap suc q.place;
          there = record { left = t.left; first = t.first; right = t.right; stands = t.stands; begins = t.begins; counted = omega (arith, t.counted); reached = t.reached };
        }

-- A group begins more blocks than the pieces before one of its own.
begun_more : (left : List Piece) (first : Piece) (right : List Piece) → begins_block first ≡ true → begun left < begun (left ++ (first ∷ right))
unfolding begun
begun_more [] first right h = rw h (omega arith)
begun_more (p ∷ left) first right h = by (begun_more left first right h) (begins_block p)
  where
    by : begun left < begun (left ++ (first ∷ right)) → (x : Bool) → cond x (suc (begun left)) (begun left) < cond x (suc (begun (left ++ (first ∷ right)))) (begun (left ++ (first ∷ right)))
    by more true = omega arith
    by more false = more

pub counted_in_lem : {ps : List Piece} {before k offset : ℕ} → BeginsAt ps before k offset → (before ≤ k) × (k < before + begun ps)
counted_in_lem {ps} {before} {k} r =
    let more : begun r.left < begun ps = rw r.stands (begun_more r.left r.first r.right r.begins) in
    (omega (arith, r.counted), omega (arith, r.counted))

-- One group alone has a given number among those of its blocks.
pub one_group : (from k : ℕ) (before before' : List (List Piece)) (ps ps' : List Piece) (behind behind' : List (List Piece)) → before ++ (ps ∷ behind) ≡ before' ++ (ps' ∷ behind') →
    from + begun_in before ≤ k → k < from + begun_in before + begun ps → from + begun_in before' ≤ k → k < from + begun_in before' + begun ps' → (before ≡ before') × (ps ≡ ps')
unfolding begun_in
one_group from k [] [] ps ps' behind behind' e a b c d = (refl, cc)
one_group from k [] (q ∷ before') ps ps' behind behind' e a b c d =
    let same : ps ≡ q = cc in
    absurd (omega (arith, ap begun same))
one_group from k (q ∷ before) [] ps ps' behind behind' e a b c d =
    let same : q ≡ ps' = cc in
    absurd (omega (arith, ap begun same))
one_group from k (q ∷ before) (q' ∷ before') ps ps' behind behind' e a b c d =
    let same : q ≡ q' = cc in
    let rest : before ++ (ps ∷ behind) ≡ before' ++ (ps' ∷ behind') = cc in
    let many = ap begun same in
    let (groups, pieces) = one_group (from + begun q) k before before' ps ps' behind behind' rest (omega arith) (omega arith) (omega arith) (omega arith) in
    (cc, pieces)
