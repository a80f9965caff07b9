-- Change request 2026-09: where a block begins in a run, by the pieces and the records of its layout. Nothing here speaks of a
-- search's steps.
-- Assumes nothing.
use Rattle.std.specs.Prelude.{ℕ, suc, ◌+◌, ◌≤◌, List, [], ◌∷◌, ◌++◌, Bool, true, false, cond, ◌≡◌, length, take, drop}
use Rattle.seek.specs.Find.{begins}
use Rattle.layout.specs.Items.{Item, Piece}
use Rattle.layout.specs.Items.Item.{record_item, separator_item}
use Rattle.layout.specs.Items.Piece.{a_total, a_separator, a_middle, a_start, a_last, an_entire}
use Rattle.layout.specs.Layout.{Image, user_data}

-- "counting whole start and entire rows alone": a block begins with its first part, or is entire.
abbrev pub begins_block : Piece → Bool
begins_block (a_total n) = false
begins_block (a_separator v) = false
begins_block (a_middle bytes) = false
begins_block (a_start bytes) = true
begins_block (a_last bytes) = false
begins_block (an_entire bytes) = true

-- "Blocks are numbered from 0 as they begin": how many begin in pieces.
unfoldable pub begun : List Piece → ℕ
begun [] = 0
begun (p ∷ ps) = cond (begins_block p) (suc (begun ps)) (begun ps)

-- "the number of blocks begun before it": how many begin in groups of pieces.
unfoldable pub begun_in : List (List Piece) → ℕ
begun_in [] = 0
begun_in (ps ∷ gs) = begun ps + begun_in gs

-- "the offset in the row of block b": block b, counted from 0 over the run, begins in the group of these pieces, before which so
-- many blocks were begun, and with so many bytes of the group's user data before it.
pub record BeginsAt (ps : List Piece) (before b offset : ℕ) : Type 0 where
  pub left : List Piece
  pub first : Piece
  pub right : List Piece
  pub stands : ps ≡ left ++ (first ∷ right)
  pub begins : begins_block first ≡ true
  pub counted : b ≡ before + begun left
  pub reached : offset ≡ length (user_data left)

-- "Blocks are numbered from 0 as they begin": the records that a run finishes, in order.
unfoldable pub records_of : List Item → List (List ℕ)
records_of [] = []
records_of (record_item bytes ∷ is) = bytes ∷ records_of is
records_of (separator_item v ∷ is) = records_of is

-- .. and, behind them, the one that it breaks off, if it does: that one has begun too.
unfoldable pub opened : List ℕ → List (List ℕ)
opened [] = []
opened (x ∷ xs) = (x ∷ xs) ∷ []

-- "the offset in the row of block b": the k-th of these records, counted from 0, begins in this group at this offset. Some first
-- bytes of it, all of them or a first part, stand there.
pub record BlockAt (g : Image) (records : List (List ℕ)) (k offset : ℕ) : Type 0 where
  pub earlier : List (List ℕ)
  pub part : List ℕ
  pub more : List ℕ
  pub later : List (List ℕ)
  pub is : records ≡ earlier ++ ((part ++ more) ∷ later)
  pub counted : length earlier ≡ k
  pub some : 1 ≤ length part
  pub stands : take (length part) (drop offset g.bytes) ≡ part

-- "the number of blocks begun before it": what the caller counts in a group's rows, each three numbers, whole rows alone.
unfoldable pub begun_rows : List ℕ → ℕ
begun_rows [] = 0
begun_rows (kind ∷ []) = 0
begun_rows (kind ∷ offset ∷ []) = 0
begun_rows (kind ∷ offset ∷ count ∷ rows) = cond (begins kind) (suc (begun_rows rows)) (begun_rows rows)

-- "Blocks are numbered from 0 as they begin": block k begins in a group of the run; what stands around it, and the offset.
pub record Somewhere (run : List Image) (groups : List (List Piece)) (k : ℕ) : Type 0 where
  pub beginning : List Image
  pub group : Image
  pub rest : List Image
  pub before : List (List Piece)
  pub pieces : List Piece
  pub behind : List (List Piece)
  pub offset : ℕ
  pub parts : run ≡ beginning ++ (group ∷ rest)
  pub piled : groups ≡ before ++ (pieces ∷ behind)
  pub place : length before ≡ length beginning
  pub there : BeginsAt pieces (begun_in before) k offset
