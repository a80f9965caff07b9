-- The scan over the entries of pieces that the grammar takes: it reaches the end of the group.
-- Assumes nothing.
use Prim.Native.Nat.{ℕ, zero, suc, ◌+◌, ◌-◌, ◌≤◌}
use native.Mathlib.Omega.{arith}
use mathlib.Core.List.{List, [], ◌∷◌, ◌++◌, map}
use mathlib.Core.Bool.{Bool, true, false, cond, not}
use mathlib.Core.Path.{◌≡◌, refl, sym, ap, ◌∙◌}
use lib.ListN.{length, length-append}
use lib.Dec.{eqb}
use borrow.Author.Tests.{le-leb, eq-eqb}
use Rattle.group.specs.declared.Entry.{Entry}
use Rattle.group.specs.declared.Kind.{Kind}
use Rattle.group.specs.declared.Kind.TheVariants.{Skip}
use Rattle.group.specs.Entries.{entry}
use Rattle.group.specs.Flags.{flag_of}
use Rattle.numbers.proofs.Tests.{and}
use Rattle.group.proofs.FlagLaws.{meaning_of_flag}
use Rattle.entry.specs.declared.Stand.{Stand}
use Rattle.entry.specs.declared.Cursor.{Cursor}
use Rattle.entry.specs.ScanEnd.{Reached}
use Rattle.entry.specs.Rules.{may_follow, is_skip, may_owe, stand_at, phase_after, advance, b4_kept, reached_after}
use Rattle.entry.specs.Scan.{is_last, scan}
use Rattle.entry.proofs.Faults.{Kept, no_fault}
use Rattle.layout.specs.Items.{Piece, Token}
use Rattle.layout.specs.Items.Piece.{a_total, a_separator, a_middle, a_start, a_last, an_entire}
use Rattle.layout.specs.Items.Token.{piece, group_end}
use Rattle.layout.specs.Layout.{kind_of, count_of, data_of, user_data, b4_after, plain_left, entries_of}
use Rattle.layout.proofs.Grammar.{Fits, Ends, Walk, Open, take_piece, take_end}
use Rattle.layout.proofs.Grammar.Walk.{step, leap}
use Rattle.layout.proofs.Decode.{plain_past, data_after}

-- No piece is a skip.
pub no_skip : (p : Piece) → is_skip (kind_of p) ≡ false
unfolding kind_of
no_skip (a_total n) = refl
no_skip (a_separator n) = refl
no_skip (a_middle n) = refl
no_skip (a_start n) = refl
no_skip (a_last n) = refl
no_skip (an_entire n) = refl

-- b4 stays set.
still : (plain : ℕ) → b4_kept (b4_after plain) (b4_after (plain_left plain)) ≡ true
unfolding b4_after plain_left
still zero = refl
still (suc plain) = refl

-- .. into the next group.
warns_on : (plain left : ℕ) → left ≡ plain - 1 → b4_kept (b4_after plain) (b4_after left) ≡ true
unfolding plain_left
warns_on zero left e = rw e (still zero)
warns_on (suc plain) left e =
    let f : left ≡ plain = omega arith in
    rw f (still (suc plain))

-- The rules of a skip and of a piece, kept.
skip_kept_lem : (size limit : ℕ) (c : Cursor) (warned : Bool) (over : ℕ) → b4_kept c.warned warned ≡ true → Ends size c.stand c.reached → c.reached ≤ limit → over ≡ size - c.reached →
    Kept size limit true c Skip warned over
skip_kept_lem size limit c warned over w h l e =
    record {
      b4 = w;
      follow = and {a = may_follow c.stand Skip} {b = is_skip Skip} h.follows refl;
      counted = tt;
      room = le-leb c.reached limit l;
      skip = eq-eqb over (size - c.reached) e;
      owed = rw e h.owes;
    }

piece_kept : (size limit : ℕ) (c : Cursor) (warned : Bool) (p : Piece) → b4_kept c.warned warned ≡ true → Fits c.stand c.sum p → c.reached + length (data_of p) ≤ limit →
    Kept size limit false c (kind_of p) warned (count_of p)
piece_kept size limit c warned p w f h =
    record {
      b4 = w;
      follow = and {a = may_follow c.stand (kind_of p)} {b = not (is_skip (kind_of p))} f.follows (ap not (no_skip p));
      counted = f.kept;
      room = le-leb (reached_after (kind_of p) c.reached (count_of p)) limit (omega (arith, data_after p c.reached));
      skip = ap (λ (b : Bool). cond b (eqb (count_of p) (size - c.reached)) true) (no_skip p);
      owed = ap (λ (b : Bool). cond b (may_owe c.stand (count_of p)) true) (no_skip p);
    }

-- An entry whose rules are kept is passed, and the scan goes on behind it.
pub scan_on : (size limit : ℕ) (es : List Entry) (place : ℕ) (c : Cursor) (k : Kind) (warned : Bool) (count : ℕ) → Kept size limit (is_last es) c k warned count →
    scan size limit (entry (flag_of k warned) count ∷ es) place c ≡ scan size limit es (suc place) (advance c k warned count)
unfolding scan
scan_on size limit es place c k warned count h = rw (meaning_of_flag k warned, no_fault size limit (is_last es) c k warned count h)

-- A scan that reaches the end of the entries, and where the tokens behind it lead to.
pub record Reaches (size limit : ℕ) (es : List Entry) (place : ℕ) (c : Cursor) (left : ℕ) (to : Stand) (n : ℕ) (rest : List Token) : Type 0 where
  pub end : Cursor
  pub scans : scan size limit es place c ≡ Reached end
  pub goes : Walk size to n (stand_at (phase_after end.stand)) end.sum 0 rest
  pub opens : Open size (stand_at (phase_after end.stand)) end.sum 0
  pub warns : b4_kept end.warned (b4_after left) ≡ true

is_last_lem : (plain over : ℕ) (ps : List Piece) → is_last (entries_of plain over ps) ≡ false
unfolding entries_of
is_last_lem plain over [] = refl
is_last_lem plain over (p ∷ ps) = refl

reach_on : {to : Stand} {n size limit place left : ℕ} {es : List Entry} {rest : List Token} {c : Cursor} (k : Kind) (warned : Bool) (count : ℕ) → Kept size limit (is_last es) c k warned count →
    Reaches size limit es (suc place) (advance c k warned count) left to n rest → Reaches size limit (entry (flag_of k warned) count ∷ es) place c left to n rest
reach_on {size} {limit} {place} {es} {c} k warned count h r =
    record { end = r.end; scans = scan_on size limit es place c k warned count h ∙ r.scans; goes = r.goes; opens = r.opens; warns = r.warns }

pub scan_pieces : {to : Stand} {n : ℕ} (size limit : ℕ) (ps : List Piece) (plain left over place : ℕ) (c : Cursor) (rest : List Token) →
    b4_kept c.warned (b4_after plain) ≡ true → left ≡ plain - suc (length ps) → c.reached + length (user_data ps) ≤ limit → over ≡ size - (c.reached + length (user_data ps)) →
    Open size c.stand c.sum c.reached → Walk size to n c.stand c.sum c.reached (map piece ps ++ (group_end ∷ rest)) → Reaches size limit (entries_of plain over ps) place c left to n rest
unfolding scan entries_of user_data
scan_pieces size limit [] plain left over place c rest w z l o open' (leap h g) =
    reach_on Skip (b4_after plain) over (skip_kept_lem size limit c (b4_after plain) over w h (omega arith) (omega (arith, o)))
    (record { end = advance c Skip (b4_after plain) over; scans = refl; goes = g; opens = (take_end size open' h).opens; warns = warns_on plain left z })
scan_pieces size limit (p ∷ ps) plain left over place c rest w z l o open' (step f g) =
    let u : length (data_of p ++ user_data ps) ≡ length (data_of p) + length (user_data ps) = length-append (data_of p) (user_data ps) in
    let v : reached_after (kind_of p) c.reached (count_of p) ≡ c.reached + length (data_of p) = data_after p c.reached in
    let kept : Kept size limit false c (kind_of p) (b4_after plain) (count_of p) = piece_kept size limit c (b4_after plain) p w f (omega arith) in
    reach_on (kind_of p) (b4_after plain) (count_of p) (rw (is_last_lem (plain_left plain) over ps) kept)
    (scan_pieces size limit ps (plain_left plain) left over (suc place) (advance c (kind_of p) (b4_after plain) (count_of p)) rest (still plain) (z ∙ sym (plain_past plain (suc (length ps)))) (omega arith) (omega arith) (take_piece size open' p f).opens g)
