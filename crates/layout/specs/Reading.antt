-- The reading that a run's rows and bytes give: its pieces, the items that they finish, the bytes so far of the record that
-- they leave open, and whether it is inside or its total owed.
-- Assumes nothing.
use Rattle.std.specs.Prelude.{ℕ, ◌*◌, List, [], ◌∷◌, ◌++◌, cond, take, drop, eqb}
use Rattle.numbers.specs.Numbers.{Bytes}
use Rattle.group.specs.declared.Phase.{Phase}
use Rattle.group.specs.declared.Phase.TheVariants.{Free, Inside, Owed}
use Rattle.layout.specs.Items.{Item, Piece}
use Rattle.layout.specs.Items.Item.{record_item, separator_item}
use Rattle.layout.specs.Items.Piece.{a_total, a_separator, a_middle, a_start, a_last, an_entire}
use Rattle.layout.specs.Layout.{Image}

-- The piece of a row, by document 01's kind numbers; a skip, and a number that is no kind's, are no piece.
unfoldable pub piece_of : ℕ → ℕ → List ℕ → List Piece
piece_of kind count bs =
    cond (eqb kind 1) (a_total count ∷ [])
    (cond (eqb kind 2) (a_separator count ∷ [])
    (cond (eqb kind 3) (a_middle bs ∷ [])
    (cond (eqb kind 4) (a_start bs ∷ [])
    (cond (eqb kind 5) (a_last bs ∷ [])
    (cond (eqb kind 6) (an_entire bs ∷ []) [])))))

-- The pieces of a group from its bytes and its rows: kind, data offset, count.
unfoldable pub pieces_from : List ℕ → List ℕ → List Piece
pieces_from g [] = []
pieces_from g (kind ∷ []) = []
pieces_from g (kind ∷ offset ∷ []) = []
pieces_from g (kind ∷ offset ∷ count ∷ rows) = piece_of kind count (take count (drop offset g)) ++ pieces_from g rows

-- The pieces of a run, from the first 3n numbers of each group's rows.
unfoldable pub pieces_of : List Image → List (List ℕ) → List Piece
pieces_of [] rows = []
pieces_of (g ∷ gs) [] = []
pieces_of (g ∷ gs) (r ∷ rows) = pieces_from g.bytes (take (3 * g.entries) r) ++ pieces_of gs rows

-- The items that pieces finish, after the bytes so far of an open record.
unfoldable pub items_after : List ℕ → List Piece → List Item
items_after begun [] = []
items_after begun (a_total n ∷ ps) = record_item begun ∷ items_after [] ps
items_after begun (a_separator v ∷ ps) = separator_item v ∷ items_after [] ps
items_after begun (a_middle bs ∷ ps) = items_after (begun ++ bs) ps
items_after begun (a_start bs ∷ ps) = items_after bs ps
items_after begun (a_last bs ∷ ps) = items_after (begun ++ bs) ps
items_after begun (an_entire bs ∷ ps) = record_item bs ∷ items_after [] ps

-- The bytes so far of the record that is open after them.
unfoldable pub begun_after : List ℕ → List Piece → List ℕ
begun_after begun [] = begun
begun_after begun (a_total n ∷ ps) = begun_after [] ps
begun_after begun (a_separator v ∷ ps) = begun_after [] ps
begun_after begun (a_middle bs ∷ ps) = begun_after (begun ++ bs) ps
begun_after begun (a_start bs ∷ ps) = begun_after bs ps
begun_after begun (a_last bs ∷ ps) = begun_after (begun ++ bs) ps
begun_after begun (an_entire bs ∷ ps) = begun_after [] ps

-- Where pieces leave a record. "After start or middle: skip only. The next group begins inside the record." "After last: total,
-- or skip. With skip the total is owed."
unfoldable pub phase_after : Phase → List Piece → Phase
phase_after at [] = at
phase_after at (a_total n ∷ ps) = phase_after Free ps
phase_after at (a_separator v ∷ ps) = phase_after Free ps
phase_after at (a_middle bs ∷ ps) = phase_after Inside ps
phase_after at (a_start bs ∷ ps) = phase_after Inside ps
phase_after at (a_last bs ∷ ps) = phase_after Owed ps
phase_after at (an_entire bs ∷ ps) = phase_after Free ps

-- What the rows and the bytes of a run give.
abbrev pub items_read : List Image → List (List ℕ) → List Item
items_read run rows = items_after [] (pieces_of run rows)

abbrev pub begun_read : List Image → List (List ℕ) → List ℕ
begun_read run rows = begun_after [] (pieces_of run rows)

abbrev pub phase_read : List Image → List (List ℕ) → Phase
phase_read run rows = phase_after Free (pieces_of run rows)

-- Each image is made of bytes, as what lies in a byte slice is.
abbrev pub OfBytes : Image → Type 0
OfBytes g = Bytes g.bytes
