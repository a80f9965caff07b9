-- The open group's buffer: data, gap, table, the last 32 bytes; what laying data and entries does to it, and what it is when
-- it is shut.
-- Assumes nothing.
use Prim.Native.Nat.{ℕ, zero, suc, ◌+◌, ◌*◌, ◌-◌, ◌≤◌, ◌<◌}
use native.Mathlib.Omega.{arith}
use native.Mathlib.Numerals.{add-one}
use mathlib.Core.List.{List, [], ◌∷◌, ◌++◌, append_assoc, append-nil}
use mathlib.Core.Bool.{Bool, true, false, false≢true}
use mathlib.Core.Path.{◌≡◌, refl, sym, ap, ◌∙◌}
use lib.ListN.{length, length-append, take, drop, take-append-drop, length-take, length-drop, replicate, length-replicate}
use lib.Seq.{take-append_seam, drop-append_seam, drop-append-add, length-take-le, take_at}
use Rattle.group.specs.declared.Kind.TheVariants.{Skip}
use Rattle.group.specs.declared.Entry.{Entry}
use Rattle.group.specs.Sizes.{information_length, entry_offset}
use Rattle.numbers.specs.Store.{put}
use Rattle.group.specs.Flags.{flag_of}
use Rattle.group.specs.Entries.{entry, entry_bytes, table_bytes}
use Rattle.numbers.proofs.Stores.{put_split}
use Rattle.group.proofs.EntryLaws.{length_entry, length_table}
use Rattle.laying.specs.Bounds.{span}
use Rattle.layout.specs.Items.{Piece}
use Rattle.layout.specs.Layout.{kind_of, count_of, data_of, user_data, entries_of, b4_after, plain_left, Pictures}
use Rattle.layout.specs.Writing.{with_information, image_of}

-- Lists.

put_over : (pre mid post bs : List ℕ) (at : ℕ) → at ≡ length pre → length mid ≡ length bs → put (pre ++ (mid ++ post)) at bs ≡ pre ++ (bs ++ post)
put_over pre mid post bs at e f =
    let h : at + length bs ≤ length (pre ++ (mid ++ post)) = simp length-append (omega arith) in
    rw (put_split (pre ++ (mid ++ post)) at bs h, e, take-append_seam, drop-append-add, ← f, drop-append_seam, append_assoc)

pub length_snoc : {A : Type 0} (l : List A) (a : A) → length (l ++ (a ∷ [])) ≡ suc (length l)
length_snoc l a = length-append l (a ∷ []) ∙ omega arith

-- The shape of a buffer: data d, a gap, a table t, the last 32 bytes.

pub record Shape (size : ℕ) (d t g : List ℕ) : Type 0 where
  pub gap : List ℕ
  pub information : List ℕ
  pub thirty_two : length information ≡ information_length
  pub adds : size ≡ length d + (length gap + (length t + information_length))
  pub stands : g ≡ d ++ (gap ++ (t ++ information))

pub shape_length : {size : ℕ} {d t g : List ℕ} → Shape size d t g → length g ≡ size
shape_length s = ap length s.stands ∙ simp length-append (omega arith)

pub shape_fresh : {size : ℕ} {g : List ℕ} → information_length ≤ size → length g ≡ size → Shape size [] [] g
shape_fresh {size} {g} h e = record {
  gap = take (size - information_length) g;
  information = drop (size - information_length) g;
  thirty_two = length-drop (size - information_length) g ∙ omega arith;
  adds = simp length-take (omega arith);
  stands = sym (take-append-drop (size - information_length) g);
}

pub shape_data : {size : ℕ} {d t g : List ℕ} (bs : List ℕ) (at : ℕ) → Shape size d t g → at ≡ length d → length d + length bs + length t + information_length ≤ size →
    Shape size (d ++ bs) t (put g at bs)
shape_data {size} {d} {t} {g} bs at s e h =
    let n : ℕ = length bs in
    let rest : List ℕ = t ++ s.information in
    let same : g ≡ d ++ (take n s.gap ++ (drop n s.gap ++ rest)) = s.stands ∙ rw (← append_assoc (take n s.gap) (drop n s.gap) rest, take-append-drop n s.gap) in
    let a = s.adds in
    record {
      gap = drop n s.gap;
      information = s.information;
      thirty_two = s.thirty_two;
      adds = simp (length-append, length-drop) (omega arith);
      stands = rw same (put_over d (take n s.gap) (drop n s.gap ++ rest) bs at e (length-take-le n s.gap (omega arith)) ∙ sym (append_assoc d bs (drop n s.gap ++ rest)));
    }

pub shape_entry : {size : ℕ} {d t g : List ℕ} (x : List ℕ) (at : ℕ) → Shape size d t g → at + length x + length t + information_length ≡ size → length d ≤ at → Shape size d (x ++ t) (put g at x)
shape_entry {size} {d} {t} {g} x at s e h =
    let m : ℕ = at - length d in
    let rest : List ℕ = t ++ s.information in
    let same : g ≡ d ++ take m s.gap ++ (drop m s.gap ++ rest) =
    s.stands ∙ rw (append_assoc d (take m s.gap) (drop m s.gap ++ rest), ← append_assoc (take m s.gap) (drop m s.gap) rest, take-append-drop m s.gap) in
    let a = s.adds in
    let l : length (take m s.gap) ≡ m = length-take-le m s.gap (omega arith) in
    record {
      gap = take m s.gap;
      information = s.information;
      thirty_two = s.thirty_two;
      adds = simp length-append (omega arith);
      stands = rw same (put_over (d ++ take m s.gap) (drop m s.gap) rest x at (simp length-append (omega arith)) (length-drop m s.gap ∙ omega arith)
          ∙ rw (append_assoc d (take m s.gap) (x ++ rest), append_assoc x t s.information));
    }

pub shape_zeros : {size : ℕ} {d t g : List ℕ} (at n : ℕ) → Shape size d t g → at ≡ length d → length d + n + length t + information_length ≡ size → Shape size d t (put g at (replicate n 0))
shape_zeros {size} {d} {t} {g} at n s e h =
    let a = s.adds in
    record {
      gap = replicate n 0;
      information = s.information;
      thirty_two = s.thirty_two;
      adds = rw length-replicate (omega arith);
      stands = rw s.stands (put_over d s.gap (t ++ s.information) (replicate n 0) at e (rw length-replicate (omega arith)));
    }

-- The same with other last 32 bytes.
pub shape_filled : {size : ℕ} {d t g : List ℕ} (s : Shape size d t g) (information : List ℕ) → take (size - information_length) g ++ information ≡ d ++ (s.gap ++ (t ++ information))
shape_filled {size} {d} {t} {g} s information =
    let a = s.adds in
    let same : g ≡ d ++ (s.gap ++ t) ++ s.information = s.stands ∙ rw (append_assoc d (s.gap ++ t) s.information, append_assoc s.gap t s.information) in
    let front : take (size - information_length) g ≡ d ++ (s.gap ++ t) = rw same (take_at (d ++ (s.gap ++ t)) s.information (size - information_length) (simp length-append (omega arith))) in
    rw (front, append_assoc d (s.gap ++ t) information, append_assoc s.gap t information)

pub filled_length : {size : ℕ} {d t g : List ℕ} (s : Shape size d t g) (information : List ℕ) → length information ≡ information_length → length (take (size - information_length) g ++ information) ≡ size
filled_length s information h = ap length (shape_filled s information) ∙ simp length-append (omega (arith, s.adds))

-- Entries.

-- The entries of pieces without a skip; b4 is clear in the first `plain` of them.
unfoldable pub heads : ℕ → List Piece → List Entry
heads plain [] = []
heads plain (p ∷ ps) = entry (flag_of (kind_of p) (b4_after plain)) (count_of p) ∷ heads (plain_left plain) ps

length_heads : (plain : ℕ) (ps : List Piece) → length (heads plain ps) ≡ length ps
unfolding heads
length_heads plain [] = refl
length_heads plain (p ∷ ps) = ap suc (length_heads (plain_left plain) ps)

heads_clear : (ps : List Piece) (p : Piece) → heads (suc (length ps)) (ps ++ (p ∷ [])) ≡ heads (length ps) ps ++ (entry (flag_of (kind_of p) false) (count_of p) ∷ [])
unfolding heads b4_after plain_left
heads_clear [] p = refl
heads_clear (q ∷ ps) p = ap {B = List Entry} (λ r. entry (flag_of (kind_of q) false) (count_of q) ∷ r) (heads_clear ps p)

heads_set : (plain : ℕ) (ps : List Piece) (p : Piece) → plain ≤ length ps → heads plain (ps ++ (p ∷ [])) ≡ heads plain ps ++ (entry (flag_of (kind_of p) true) (count_of p) ∷ [])
unfolding heads b4_after plain_left
heads_set zero [] p h = refl
heads_set zero (q ∷ ps) p h = ap {B = List Entry} (λ r. entry (flag_of (kind_of q) true) (count_of q) ∷ r) (heads_set zero ps p (omega arith))
heads_set (suc n) [] p h = absurd (omega arith)
heads_set (suc n) (q ∷ ps) p h = ap {B = List Entry} (λ r. entry (flag_of (kind_of q) false) (count_of q) ∷ r) (heads_set n ps p (omega arith))

entries_clear : (plain over : ℕ) (ps : List Piece) → length ps < plain → entries_of plain over ps ≡ heads (length ps) ps ++ (entry (flag_of Skip false) over ∷ [])
unfolding heads entries_of b4_after plain_left
entries_clear zero over ps h = absurd (omega arith)
entries_clear (suc n) over [] h = refl
entries_clear (suc n) over (q ∷ ps) h = ap {B = List Entry} (λ r. entry (flag_of (kind_of q) false) (count_of q) ∷ r) (entries_clear n over ps (omega arith))

entries_set : (plain over : ℕ) (ps : List Piece) → plain ≤ length ps → entries_of plain over ps ≡ heads plain ps ++ (entry (flag_of Skip true) over ∷ [])
unfolding heads entries_of b4_after plain_left
entries_set zero over [] h = refl
entries_set zero over (q ∷ ps) h = ap {B = List Entry} (λ r. entry (flag_of (kind_of q) true) (count_of q) ∷ r) (entries_set zero over ps (omega arith))
entries_set (suc n) over [] h = absurd (omega arith)
entries_set (suc n) over (q ∷ ps) h = ap {B = List Entry} (λ r. entry (flag_of (kind_of q) false) (count_of q) ∷ r) (entries_set n over ps (omega arith))

table_snoc : (es : List Entry) (e : Entry) → table_bytes (es ++ (e ∷ [])) ≡ entry_bytes e ++ table_bytes es
unfolding table_bytes
table_snoc [] e = rw append-nil
table_snoc (x ∷ es) e = rw (table_snoc es e, append_assoc)

data_snoc : (ps : List Piece) (p : Piece) → user_data (ps ++ (p ∷ [])) ≡ user_data ps ++ data_of p
unfolding user_data
data_snoc [] p = rw append-nil
data_snoc (q ∷ ps) p = rw (data_snoc ps p, append_assoc)

-- How the b4 setting and the count of plain entries go together, at n entries: clear, all are plain so far; set, no more will be.
pub data Flagged : Bool → ℕ → ℕ → Type 0 where
  clear : {n : ℕ} → Flagged false n n
  set : {plain n : ℕ} → plain ≤ n → Flagged true plain n

-- One entry more.
record OneMore (b : Bool) (plain n : ℕ) (ps : List Piece) (p : Piece) : Type 0 where
  more : ℕ
  flagged : Flagged b more (n + 1)
  stays : b ≡ true → more ≡ plain
  grows : heads more (ps ++ (p ∷ [])) ≡ heads plain ps ++ (entry (flag_of (kind_of p) b) (count_of p) ∷ [])

one_more : {b : Bool} {plain n : ℕ} (ps : List Piece) (p : Piece) → n ≡ length ps → Flagged b plain n → OneMore b plain n ps p
one_more {n} ps p e clear = record { more = n + 1; flagged = clear; stays = λ x. absurd (false≢true x); grows = rw (add-one, e) (heads_clear ps p) }
one_more {plain} {n} ps p e (set h) = record { more = plain; flagged = set {plain = plain} {n = n + 1} (omega arith); stays = λ x. refl; grows = heads_set plain ps p (omega arith) }

-- In how many entries b4 is clear, with the skip after n entries and with what follows: clear, in more than n; set, in no more.
pub data Through (n : ℕ) : Bool → ℕ → ℕ → Type 0 where
  all_clear : {plain past : ℕ} → n < past → Through n false plain past
  no_more : {plain : ℕ} → Through n true plain plain

with_skip : {b : Bool} {plain n past : ℕ} (over : ℕ) (ps : List Piece) → n ≡ length ps → Flagged b plain n → Through n b plain past
    → entries_of past over ps ≡ heads plain ps ++ (entry (flag_of Skip b) over ∷ [])
with_skip {past} over ps e clear (all_clear h) = rw e (entries_clear past over ps (omega arith))
with_skip {plain} over ps e (set h) no_more = entries_set plain over ps (omega arith)

-- The open group holds these pieces; `before` is b4 as the group began.
pub record Buffered (size filled entries : ℕ) (before warned : Bool) (g : List ℕ) (ps : List Piece) : Type 0 where
  pub plain : ℕ
  pub flagged : Flagged warned plain entries
  pub carried : before ≡ true → (warned ≡ true) × (plain ≡ 0)
  pub counted : entries ≡ length ps
  pub reached : filled ≡ length (user_data ps)
  pub shape : Shape size (user_data ps) (table_bytes (heads plain ps)) g

none_flagged : (b : Bool) → Flagged b 0 0
none_flagged false = clear
none_flagged true = set {plain = 0} {n = 0} (omega arith)

pub buffered_fresh : {size : ℕ} {g : List ℕ} (b : Bool) → information_length ≤ size → length g ≡ size → Buffered size 0 0 b b g []
unfolding user_data table_bytes heads
buffered_fresh b h e = record { plain = 0; flagged = none_flagged b; carried = λ x. (x, refl); counted = refl; reached = refl; shape = shape_fresh h e }

-- .. and the same buffer with other last 32 bytes.
pub buffered_changed : {size filled entries : ℕ} {before warned : Bool} {g : List ℕ} {ps : List Piece} (information : List ℕ) → length information ≡ information_length →
    Buffered size filled entries before warned g ps → Buffered size filled entries before warned (with_information g information) ps
buffered_changed {g = g} information i b =
    let s = b.shape in
    record {
      plain = b.plain;
      flagged = b.flagged;
      carried = b.carried;
      counted = b.counted;
      reached = b.reached;
      shape =
          record {
            gap = s.gap;
            information = information;
            thirty_two = i;
            adds = s.adds;
            stands = ap (λ (n : ℕ). take (n - information_length) g ++ information) (shape_length s) ∙ shape_filled s information;
          };
    }

length_heads_table : (plain : ℕ) (ps : List Piece) → length (table_bytes (heads plain ps)) ≡ 4 * length ps
length_heads_table plain ps = length_table (heads plain ps) ∙ ap (λ (n : ℕ). 4 * n) (length_heads plain ps)

-- A buffer of this shape pictures pieces whose table it holds.
pictured : {size : ℕ} {t g : List ℕ} {ps : List Piece} (plain number n : ℕ) (information : List ℕ) → Shape size (user_data ps) t g →
    table_bytes (entries_of plain (size - length (user_data ps)) ps) ≡ t → length information ≡ information_length → n ≡ suc (length ps) →
    Pictures size plain ps (image_of number n g information)
unfolding image_of
pictured plain number n information s e l c =
    record {
      gap = s.gap;
      information = information;
      thirty_two = l;
      counted = c;
      filled = rw (shape_length s) (filled_length s information l);
      stands = rw (e, shape_length s) (shape_filled s information);
    }

module _ {size filled entries : ℕ} {before warned : Bool} {g : List ℕ} {ps : List Piece} where
  entered : (p : Piece) (h : List ℕ) → (s : Buffered size filled entries before warned g ps) → Shape size (user_data ps ++ data_of p) (table_bytes (heads s.plain ps)) h →
      span (filled + length (data_of p)) (entries + 1) ≤ size →
      Buffered size (filled + length (data_of p)) (entries + 1) before warned (put h (entry_offset size (entries + 1)) (entry_bytes (entry (flag_of (kind_of p) warned) (count_of p)))) (ps ++ (p ∷ []))
  entered p h s f room =
      let r = one_more ps p s.counted s.flagged in
      let e : Entry = entry (flag_of (kind_of p) warned) (count_of p) in
      let at : ℕ = entry_offset size (entries + 1) in
      let t : table_bytes (heads r.more (ps ++ (p ∷ []))) ≡ entry_bytes e ++ table_bytes (heads s.plain ps) = rw r.grows (table_snoc (heads s.plain ps) e) in
      let four = length_entry e in
      let many = length_heads_table s.plain ps in
      let c = s.counted in
      let d = s.reached in
      let u : length (user_data ps ++ data_of p) ≡ length (user_data ps) + length (data_of p) = length-append (user_data ps) (data_of p) in
      record {
        plain = r.more;
        flagged = r.flagged;
        carried = λ x. let (w, none) = s.carried x in (w, r.stays w ∙ none);
        counted = rw length_snoc (omega arith);
        reached = rw (data_snoc ps p) (omega arith);
        shape = rw (t, data_snoc ps p) (shape_entry (entry_bytes e) at f (omega arith) (omega arith));
      }

  -- An entry that carries no data.
  pub buffered_entry : (p : Piece) → data_of p ≡ [] → span filled (entries + 1) ≤ size → Buffered size filled entries before warned g ps →
      Buffered size filled (entries + 1) before warned (put g (entry_offset size (entries + 1)) (entry_bytes (entry (flag_of (kind_of p) warned) (count_of p)))) (ps ++ (p ∷ []))
  buffered_entry p e room s =
      let none : filled + length (data_of p) ≡ filled = rw e (omega arith) in
      let f : Shape size (user_data ps ++ data_of p) (table_bytes (heads s.plain ps)) g = rw (e, append-nil) s.shape in
      rw none at (entered p g s f (omega arith))

  -- Data and its entry.
  pub buffered_part : (p : Piece) → span (filled + length (data_of p)) (entries + 1) ≤ size → Buffered size filled entries before warned g ps →
      Buffered size (filled + length (data_of p)) (entries + 1) before warned
      (put (put g filled (data_of p)) (entry_offset size (entries + 1)) (entry_bytes (entry (flag_of (kind_of p) warned) (count_of p)))) (ps ++ (p ∷ []))
  buffered_part p room s =
      let many = length_heads_table s.plain ps in
      let c = s.counted in
      let d = s.reached in
      entered p (put g filled (data_of p)) s (shape_data (data_of p) filled s.shape d (omega arith)) room

  -- Shut: the skip, zeros in the gap, and any last 32 bytes.
  pub buffered_shut : (number : ℕ) (information : List ℕ) → length information ≡ information_length → span filled (entries + 1) ≤ size → (s : Buffered size filled entries before warned g ps) →
      {past : ℕ} → Through entries warned s.plain past → Pictures size past ps
      (image_of number (entries + 1)
      (put (put g (entry_offset size (entries + 1)) (entry_bytes (entry (flag_of Skip warned) (size - filled)))) filled (replicate (entry_offset size (entries + 1) - filled) 0))
      information)
  buffered_shut number information l room s {past} t' =
      let over : ℕ = size - filled in
      let r = with_skip over ps s.counted s.flagged t' in
      let e : Entry = entry (flag_of Skip warned) over in
      let four = length_entry e in
      let many = length_heads_table s.plain ps in
      let c = s.counted in
      let d = s.reached in
      let t : table_bytes (entries_of past (size - length (user_data ps)) ps) ≡ entry_bytes e ++ table_bytes (heads s.plain ps) =
      rw (← d, r) (table_snoc (heads s.plain ps) e) in
      let one : Shape size (user_data ps) (entry_bytes e ++ table_bytes (heads s.plain ps)) (put g (entry_offset size (entries + 1)) (entry_bytes e)) =
      shape_entry (entry_bytes e) (entry_offset size (entries + 1)) s.shape (omega arith) (omega arith) in
      let m : length (entry_bytes e ++ table_bytes (heads s.plain ps)) ≡ 4 + 4 * length ps = length-append (entry_bytes e) (table_bytes (heads s.plain ps)) ∙ omega arith in
      pictured past number (entries + 1) information (shape_zeros filled (entry_offset size (entries + 1) - filled) one d (omega arith)) t l (omega arith)
