-- Where a block begins by a group's rows, and by the pieces that the group pictures.
-- Assumes nothing.
use Prim.Native.Nat.{ℕ, suc, ◌+◌, ◌-◌, ◌/◌, ◌^◌, ◌≤◌, ◌<◌}
use native.Mathlib.Omega.{arith}
use mathlib.Core.List.{List, [], ◌∷◌, ◌++◌, append_assoc}
use mathlib.Core.Bool.{Bool, true, false, cond}
use mathlib.Core.Path.{◌≡◌, refl, sym, ap, ◌∙◌}
use mathlib.Core.Logic.{◌↔◌}
use lib.Dec.{eqb, ltb}
use lib.ListN.{length, length-append}
use borrow.Author.Tests.{eqb-true, eqb-false, ne_eqb, le-ltb, ltb-false}
use Rattle.numbers.specs.Numbers.{number_at, bytes_of, in_bytes}
use Rattle.numbers.proofs.NumberLaws.{length_bytes, number_from, number_of_bytes}
use Rattle.numbers.proofs.InBytes.{length_in_bytes}
use Rattle.group.specs.declared.Kind.TheVariants.{Skip}
use Rattle.group.specs.Flags.{kind_number}
use Rattle.group.proofs.FlagLaws.{meaning_of_flag}
use Rattle.entry.specs.Rules.{reached_after}
use Rattle.rows.specs.Rows.{rows_from}
use Rattle.rows.proofs.Filling.{length_rows}
use Rattle.layout.specs.Items.{Piece}
use Rattle.layout.specs.Items.Piece.{a_total, a_separator, a_middle, a_start, a_last, an_entire}
use Rattle.layout.specs.Layout.{kind_of, count_of, data_of, user_data, b4_after, plain_left, entries_of}
use Rattle.layout.proofs.Decode.{data_after, length_entries}
use Rattle.std.specs.Prelude.{Option, Some, None}
use Rattle.seek.specs.Find.{begins, beginning, find_call}
use Rattle.blockplaces.specs.Places.{begins_block, begun, BeginsAt}

-- Where the b-th block, counted from 0, of pieces begins, after so many bytes.
unfoldable pub placed : ℕ → List Piece → ℕ → Option ℕ
placed reached [] b = None
placed reached (p ∷ ps) b =
    cond (begins_block p) (cond (eqb b 0) (Some reached) (placed (reached + length (data_of p)) ps (b - 1)))
    (placed (reached + length (data_of p)) ps b)

-- A row's first two numbers.
module _ (pre ns : List ℕ) (kind offset count at : ℕ) (here : length pre ≡ at) where
  first_is : kind < 256 ^ 4 → number_at 4 (pre ++ in_bytes (kind ∷ offset ∷ count ∷ ns)) at ≡ kind
  unfolding in_bytes
  first_is small = number_from 4 pre (in_bytes (kind ∷ offset ∷ count ∷ ns)) at here ∙ number_of_bytes 4 kind (in_bytes (offset ∷ count ∷ ns)) small

  second_is : offset < 256 ^ 4 → number_at 4 (pre ++ in_bytes (kind ∷ offset ∷ count ∷ ns)) (at + 4) ≡ offset
  unfolding in_bytes
  second_is small =
      let long : length (pre ++ bytes_of 4 kind) ≡ at + 4 = simp length-append (omega (arith, length_bytes 4 kind)) in
      ap (λ (l : List ℕ). number_at 4 l (at + 4)) (sym (append_assoc pre (bytes_of 4 kind) (in_bytes (offset ∷ count ∷ ns))))
      ∙ number_from 4 (pre ++ bytes_of 4 kind) (in_bytes (offset ∷ count ∷ ns)) (at + 4) long
      ∙ number_of_bytes 4 offset (in_bytes (count ∷ ns)) small

  -- One row.
  turn : (left b : ℕ) → kind < 256 ^ 4 → offset < 256 ^ 4 →
      beginning (pre ++ in_bytes (kind ∷ offset ∷ count ∷ ns)) at (suc left) b
      ≡ cond (begins kind) (cond (eqb b 0) (Some offset) (beginning (pre ++ in_bytes (kind ∷ offset ∷ count ∷ ns)) (at + 12) left (b - 1)))
      (beginning (pre ++ in_bytes (kind ∷ offset ∷ count ∷ ns)) (at + 12) left b)
  unfolding beginning
  turn left b k o = rw (first_is k, second_is o)

  -- The rows behind it.
  abbrev past : List ℕ
  past = pre ++ in_bytes (kind ∷ offset ∷ count ∷ [])

  past_long : length past ≡ at + 12
  past_long = simp length-append (omega (arith, length_in_bytes (kind ∷ offset ∷ count ∷ [])))

  past_is : past ++ in_bytes ns ≡ pre ++ in_bytes (kind ∷ offset ∷ count ∷ ns)
  unfolding in_bytes
  past_is = simp append_assoc

pub begins_kind : (p : Piece) → begins (kind_number (kind_of p)) ≡ begins_block p
unfolding kind_of
begins_kind (a_total n) = refl
begins_kind (a_separator v) = refl
begins_kind (a_middle bs) = refl
begins_kind (a_start bs) = refl
begins_kind (a_last bs) = refl
begins_kind (an_entire bs) = refl

kind_small : (p : Piece) → kind_number (kind_of p) < 256 ^ 4
unfolding kind_of
kind_small (a_total n) = omega arith
kind_small (a_separator v) = omega arith
kind_small (a_middle bs) = omega arith
kind_small (a_start bs) = omega arith
kind_small (a_last bs) = omega arith
kind_small (an_entire bs) = omega arith

none_left : (rows : List ℕ) (at b : ℕ) → beginning rows at 0 b ≡ None
unfolding beginning
none_left rows at b = refl

-- By a group's rows, as by its pieces.
by_rows : (pre : List ℕ) (ps : List Piece) (plain over reached at b : ℕ) → length pre ≡ at → reached + length (user_data ps) ≤ 16777215 →
    beginning (pre ++ in_bytes (rows_from reached (entries_of plain over ps))) at (suc (length ps)) b ≡ placed reached ps b
unfolding rows_from entries_of user_data placed
by_rows pre [] plain over reached at b here small =
    rw (meaning_of_flag Skip (b4_after plain)) (turn pre [] 7 reached over at here 0 b (omega arith) (omega arith) ∙ none_left (pre ++ in_bytes (7 ∷ reached ∷ over ∷ [])) (at + 12) b)
by_rows pre (p ∷ ps) plain over reached at b here small =
    let k : ℕ = kind_number (kind_of p) in
    let next : ℕ = reached_after (kind_of p) reached (count_of p) in
    let ns : List ℕ = rows_from next (entries_of (plain_left plain) over ps) in
    let adds : length (data_of p ++ user_data ps) ≡ length (data_of p) + length (user_data ps) = length-append (data_of p) (user_data ps) in
    let moved : next ≡ reached + length (data_of p) = data_after p reached in
    let later : (c : ℕ) → beginning (pre ++ in_bytes (k ∷ reached ∷ count_of p ∷ ns)) (at + 12) (suc (length ps)) c ≡ placed (reached + length (data_of p)) ps c =
    λ c. ap (λ (l : List ℕ). beginning l (at + 12) (suc (length ps)) c) (sym (past_is pre ns k reached (count_of p) at here))
    ∙ by_rows (past pre ns k reached (count_of p) at here) ps (plain_left plain) over next (at + 12) c (past_long pre ns k reached (count_of p) at here) (omega arith)
    ∙ ap (λ (r : ℕ). placed r ps c) moved in
    rw (meaning_of_flag (kind_of p) (b4_after plain))
    (turn pre ns k reached (count_of p) at here (suc (length ps)) b (kind_small p) (omega arith)
    ∙ rw (begins_kind p, later (b - 1), later b))

-- What find answers of a group's rows, by its pieces.
pub found_is : (ps : List Piece) (plain over before b : ℕ) → length (user_data ps) ≤ 16777215 →
    find_call (in_bytes (rows_from 0 (entries_of plain over ps))) before b ≡ cond (ltb b before) None (placed 0 ps (b - before))
unfolding find_call
found_is ps plain over before b small =
    let rows : List ℕ = in_bytes (rows_from 0 (entries_of plain over ps)) in
    let long : length rows / 12 ≡ suc (length ps) =
    omega (arith, length_in_bytes (rows_from 0 (entries_of plain over ps)), length_rows 0 (entries_of plain over ps), length_entries plain over ps) in
    rw (long, by_rows [] ps plain over 0 0 (b - before) refl (omega arith))

-- A block of pieces, after so many bytes.
record Begins (reached : ℕ) (ps : List Piece) (b offset : ℕ) : Type 0 where
  pub left : List Piece
  pub first : Piece
  pub right : List Piece
  pub stands : ps ≡ left ++ (first ∷ right)
  pub begins : begins_block first ≡ true
  pub counted : b ≡ begun left
  pub told : offset ≡ reached + length (user_data left)

-- .. with a piece more before them.
behind : (reached : ℕ) (p : Piece) (ps : List Piece) (b c offset : ℕ) → cond (begins_block p) (suc b) b ≡ c → Begins (reached + length (data_of p)) ps b offset → Begins reached (p ∷ ps) c offset
unfolding begun user_data
behind reached p ps b c offset e r =
    record {
      left = p ∷ r.left;
      first = r.first;
      right = r.right;
      stands = ap {B = List Piece} (λ l. p ∷ l) r.stands;
      begins = r.begins;
      counted = sym e ∙ ap (λ (n : ℕ). cond (begins_block p) (suc n) n) r.counted;
      told = omega (arith, r.told, length-append (data_of p) (user_data r.left));
    }

pub at_same : {x y : ℕ} → Some x ≡ Some y → x ≡ y
at_same h = cc

apart : {x : ℕ} → None ≡ Some x → ⊥
apart h = let z : ◌≡◌ {A = ℕ} 0 1 = cc in absurd (omega arith)

begins_there : (reached : ℕ) (ps : List Piece) (b offset : ℕ) → placed reached ps b ≡ Some offset → Begins reached ps b offset
unfolding placed begun user_data
begins_there reached [] b offset e = absurd (apart e)
begins_there reached (p ∷ ps) b offset e = by (λ c. begins_there (reached + length (data_of p)) ps c offset) (begins_block p) refl (eqb b 0) refl e
  where
    by : ((c : ℕ) → placed (reached + length (data_of p)) ps c ≡ Some offset → Begins (reached + length (data_of p)) ps c offset) →
        (x : Bool) → begins_block p ≡ x → (y : Bool) → eqb b 0 ≡ y →
        cond x (cond y (Some reached) (placed (reached + length (data_of p)) ps (b - 1))) (placed (reached + length (data_of p)) ps b) ≡ Some offset → Begins reached (p ∷ ps) b offset
    by more true x true y h =
        record { left = []; first = p; right = ps; stands = refl; begins = x; counted = eqb-true b 0 y; told = omega (arith, at_same h) }
    by more true x false y h =
        let some : suc (b - 1) ≡ b = omega (arith, eqb-false b 0 y) in
        behind reached p ps (b - 1) b offset (rw x some) (more (b - 1) h)
    by more false x y z h = behind reached p ps b b offset (rw x) (more b h)

there_begins : (reached : ℕ) (left : List Piece) (first : Piece) (right : List Piece) → begins_block first ≡ true →
    placed reached (left ++ (first ∷ right)) (begun left) ≡ Some (reached + length (user_data left))
unfolding placed begun user_data
there_begins reached [] first right h = rw h (ap Some (omega arith))
there_begins reached (p ∷ left) first right h = by (there_begins (reached + length (data_of p)) left first right h ∙ ap Some adds) (begins_block p)
  where
    adds : reached + length (data_of p) + length (user_data left) ≡ reached + length (data_of p ++ user_data left)
    adds = omega (arith, length-append (data_of p) (user_data left))

    by : placed (reached + length (data_of p)) (left ++ (first ∷ right)) (begun left) ≡ Some (reached + length (data_of p ++ user_data left)) → (x : Bool) →
        cond x (cond (eqb (cond x (suc (begun left)) (begun left)) 0) (Some reached) (placed (reached + length (data_of p)) (left ++ (first ∷ right)) (cond x (suc (begun left)) (begun left) - 1)))
        (placed (reached + length (data_of p)) (left ++ (first ∷ right)) (cond x (suc (begun left)) (begun left))) ≡ Some (reached + length (data_of p ++ user_data left))
    by rest true =
        let less : suc (begun left) - 1 ≡ begun left = omega arith in
        rw (ne_eqb (suc (begun left)) 0 (λ z. omega arith), less) rest
    by rest false = rest

-- The answer of find, both ways.
abbrev answer_of : List Piece → ℕ → ℕ → Option ℕ
answer_of ps before b = cond (ltb b before) None (placed 0 ps (b - before))

pub answered_at : (ps : List Piece) (before b offset : ℕ) → answer_of ps before b ≡ Some offset → BeginsAt ps before b offset
answered_at ps before b offset e = by (ltb b before) refl e
  where
    by : (x : Bool) → ltb b before ≡ x → cond x None (placed 0 ps (b - before)) ≡ Some offset → BeginsAt ps before b offset
    by true x h = absurd (apart h)
    by false x h =
        let r = begins_there 0 ps (b - before) offset h in
        record {
          left = r.left;
          first = r.first;
          right = r.right;
          stands = r.stands;
          begins = r.begins;
          counted = omega (arith, r.counted, ltb-false b before x);
          reached = omega (arith, r.told);
        }

pub at_answered : (ps : List Piece) (before b offset : ℕ) → BeginsAt ps before b offset → answer_of ps before b ≡ Some offset
at_answered ps before b offset r =
    let c : b - before ≡ begun r.left = omega (arith, r.counted) in
    let o : 0 + length (user_data r.left) ≡ offset = omega (arith, r.reached) in
    rw (le-ltb b before (omega (arith, r.counted)), c, r.stands) (there_begins 0 r.left r.first r.right r.begins ∙ ap Some o)

-- .. and where it is nowhere in them.
pub elsewhere : (c : Option ℕ) (ps : List Piece) (before b : ℕ) → ((offset : ℕ) → (c ≡ Some offset) ↔ BeginsAt ps before b offset) →
    (c ≡ None) ↔ ((offset : ℕ) → BeginsAt ps before b offset → ⊥)
elsewhere c ps before b f = (λ e offset r. apart (sym e ∙ (f offset).1 r), by c f)
  where
    by : (c : Option ℕ) → ((offset : ℕ) → (c ≡ Some offset) ↔ BeginsAt ps before b offset) → ((offset : ℕ) → BeginsAt ps before b offset → ⊥) → c ≡ None
    by (Some o) f h = absurd (h o ((f o).0 refl))
    by None f h = refl
