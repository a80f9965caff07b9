-- The entries read from a group that pictures pieces are the entries of those pieces, and the group's rows give the pieces back.
-- Assumes nothing.
use Prim.Native.Nat.{ℕ, zero, suc, ◌+◌, ◌*◌, ◌-◌, ◌≤◌}
use native.Mathlib.Omega.{arith}
use mathlib.Core.List.{List, [], ◌∷◌, ◌++◌, append_assoc}
use mathlib.Core.Path.{◌≡◌, ◌∙◌, refl, sym, ap}
use lib.ListN.{length, length-append, take, drop}
use lib.Seq.{drop-append_seam, take-append_seam}
use Rattle.group.specs.declared.Entry.{Entry}
use Rattle.group.specs.declared.Kind.TheVariants.{Skip}
use Rattle.group.specs.Sizes.{information_length, longest_record}
use Rattle.group.specs.Flags.{kind_number}
use Rattle.group.specs.Entries.{entries_below, table_bytes}
use Rattle.group.proofs.FlagLaws.{meaning_of_flag}
use Rattle.group.proofs.EntryLaws.{Small, length_table, entries_of_table}
use Rattle.entry.specs.Rules.{reached_after}
use Rattle.rows.specs.Rows.{rows_from}
use Rattle.layout.specs.Items.{Piece, Each}
use Rattle.layout.specs.Items.Each.{each_none, each_more}
use Rattle.layout.specs.Items.Piece.{a_total, a_separator, a_middle, a_start, a_last, an_entire}
use Rattle.layout.specs.Layout.{Image, Pictures, kind_of, count_of, data_of, user_data, b4_after, plain_left, entries_of}
use Rattle.layout.specs.Reading.{piece_of, pieces_from}

-- A piece whose count three bytes hold.
abbrev pub SmallPiece : Piece → Type 0
SmallPiece p = count_of p ≤ longest_record

-- In how many entries b4 is still clear, further on.
pub plain_past : (plain n : ℕ) → plain_left plain - n ≡ plain - suc n
unfolding plain_left
plain_past zero n = omega arith
plain_past (suc plain) n = omega arith

pub length_entries : (plain over : ℕ) (ps : List Piece) → length (entries_of plain over ps) ≡ suc (length ps)
unfolding entries_of
length_entries plain over [] = refl
length_entries plain over (p ∷ ps) = ap suc (length_entries (plain_left plain) over ps)

small_pieces : {ps : List Piece} (plain over : ℕ) → over ≤ longest_record → Each SmallPiece ps → Small (entries_of plain over ps)
unfolding entries_of
small_pieces plain over h each_none = (omega arith, tt)
small_pieces plain over h (each_more a r) = (omega arith, small_pieces (plain_left plain) over h r)

-- How a group's bytes add up.
pub adds_up : {size plain : ℕ} {ps : List Piece} {g : Image} (f : Pictures size plain ps g) → size ≡ length (user_data ps) + (length f.gap + (4 * suc (length ps) + 32))
adds_up {size} {plain} {ps} {g} f =
    let es : List Entry = entries_of plain (size - length (user_data ps)) ps in
    let all = simp length-append at (ap length f.stands) in
    omega (arith, all, length_table es, length_entries plain (size - length (user_data ps)) ps, f.thirty_two, f.filled)

-- What is read from the table of a group is its pieces' entries.
pub entries_back : {size plain : ℕ} {ps : List Piece} {g : Image} → Pictures size plain ps g → size ≤ longest_record → Each SmallPiece ps →
    entries_below g.bytes (size - information_length) g.entries ≡ entries_of plain (size - length (user_data ps)) ps
entries_back {size} {plain} {ps} {g} f h s =
    let over : ℕ = size - length (user_data ps) in
    let es : List Entry = entries_of plain over ps in
    let n : length es ≡ suc (length ps) = length_entries plain over ps in
    let t : size - 32 ≡ length (user_data ps ++ f.gap) + 4 * length es = simp length-append (omega (arith, adds_up f)) in
    rw (f.counted, ← n, f.stands, ← append_assoc (user_data ps) f.gap (table_bytes es ++ f.information))
    (entries_of_table (user_data ps ++ f.gap) es f.information (size - 32) (small_pieces plain over (omega arith) s) t)

-- A row's numbers and the bytes give its piece.
piece_back : (d : List ℕ) (p : Piece) (rest : List ℕ) → piece_of (kind_number (kind_of p)) (count_of p) (take (count_of p) (drop (length d) (d ++ (data_of p ++ rest)))) ≡ p ∷ []
unfolding piece_of kind_of count_of data_of
piece_back d (a_total n) rest = refl
piece_back d (a_separator v) rest = refl
piece_back d (a_middle bs) rest = simp (drop-append_seam, take-append_seam)
piece_back d (a_start bs) rest = simp (drop-append_seam, take-append_seam)
piece_back d (a_last bs) rest = simp (drop-append_seam, take-append_seam)
piece_back d (an_entire bs) rest = simp (drop-append_seam, take-append_seam)

-- The data reached after a piece.
pub data_after : (p : Piece) (reached : ℕ) → reached_after (kind_of p) reached (count_of p) ≡ reached + length (data_of p)
unfolding kind_of count_of data_of
data_after (a_total n) reached = omega arith
data_after (a_separator v) reached = omega arith
data_after (a_middle bs) reached = refl
data_after (a_start bs) reached = refl
data_after (a_last bs) reached = refl
data_after (an_entire bs) reached = refl

rows_back : (d : List ℕ) (ps : List Piece) (rest : List ℕ) (plain over reached : ℕ) → reached ≡ length d →
    pieces_from (d ++ (user_data ps ++ rest)) (rows_from reached (entries_of plain over ps)) ≡ ps
unfolding pieces_from rows_from entries_of user_data piece_of
rows_back d [] rest plain over reached e = rw (meaning_of_flag Skip (b4_after plain))
rows_back d (p ∷ ps) rest plain over reached e =
    let t : reached_after (kind_of p) reached (count_of p) ≡ length (d ++ data_of p) = simp length-append (omega (arith, data_after p reached)) in
    let later = rows_back (d ++ data_of p) ps rest (plain_left plain) over (reached_after (kind_of p) reached (count_of p)) t in
    let one : piece_of (kind_number (kind_of p)) (count_of p) (take (count_of p) (drop reached (d ++ (data_of p ++ (user_data ps ++ rest))))) ≡ p ∷ [] = rw e (piece_back d p (user_data ps ++ rest)) in
    let same : d ++ (user_data (p ∷ ps) ++ rest) ≡ (d ++ data_of p) ++ (user_data ps ++ rest) =
    ap (λ (l : List ℕ). d ++ l) (append_assoc (data_of p) (user_data ps) rest) ∙ sym (append_assoc d (data_of p) (user_data ps ++ rest)) in
    rw (meaning_of_flag (kind_of p) (b4_after plain), append_assoc (data_of p) (user_data ps) rest, one)
    (ap (λ (l : List Piece). p ∷ l)
    (ap (λ (bytes : List ℕ). pieces_from bytes (rows_from (reached_after (kind_of p) reached (count_of p)) (entries_of (plain_left plain) over ps))) same ∙ later))

-- The rows of a group that pictures pieces give the pieces back.
pub pieces_back : {size plain : ℕ} {ps : List Piece} {g : Image} → Pictures size plain ps g → size ≤ longest_record → Each SmallPiece ps →
    pieces_from g.bytes (rows_from 0 (entries_below g.bytes (size - information_length) g.entries)) ≡ ps
pieces_back {size} {plain} {ps} {g} f h s =
    let over : ℕ = size - length (user_data ps) in
    rw (entries_back f h s, f.stands) (rows_back [] ps (f.gap ++ (table_bytes (entries_of plain over ps) ++ f.information)) plain over 0 refl)
