-- Change request 2026-09: a run that the profile accepts to its end, records of one length, and what the profile does with a
-- run that the plain reader accepts.
-- Assumes nothing.
use Rattle.std.specs.Prelude.{ℕ, ◌≤◌, List, [], ◌∷◌, ◌++◌, ◌≡◌, length}
use Rattle.reader.specs.declared.Reader.{Reader}
use Rattle.reader.specs.ReadAnswer as answer
use Rattle.reader.specs.Answer.{group_rows, rows_left}
use Rattle.layout.specs.Items.{Item}
use Rattle.layout.specs.Items.Item.{record_item, separator_item}
use Rattle.layout.specs.Layout.{Image}
use Rattle.blocks.specs.Answer.{blocks_read_call}

-- A run that is accepted to its end, as the plain reader's: each read accepts its group, or answers that it is a repeat. Each
-- read is lent rows of any length. Listed are the rows lent, and those left of the groups that were accepted.
pub data ToEndBlocks (block : ℕ) : Reader → List Image → List (List ℕ) → List (List ℕ) → Reader → Type 0 where
  end_none : {s : Reader} → ToEndBlocks block s [] [] [] s
  end_more : {s t u : Reader} {g : Image} {gs : List Image} {lent rows : List (List ℕ)} (old : List ℕ) →
      blocks_read_call block s g.bytes g.number g.entries (length old) ≡ answer.Accepted t → ToEndBlocks block t gs lent rows u →
      ToEndBlocks block s (g ∷ gs) (old ∷ lent)
      (rows_left (blocks_read_call block s g.bytes g.number g.entries (length old)) (group_rows s g.bytes g.entries) old ∷ rows) u
  end_repeat : {s u : Reader} {g : Image} {gs : List Image} {lent rows : List (List ℕ)} (old : List ℕ) →
      blocks_read_call block s g.bytes g.number g.entries (length old) ≡ answer.Repeated s → ToEndBlocks block s gs lent rows u →
      ToEndBlocks block s (g ∷ gs) (old ∷ lent) rows u

-- "blocks of one size"; "separators are allowed".
abbrev pub OfLength : (block : ℕ) → Item → Type 0
OfLength block (record_item bytes) = length bytes ≡ block
OfLength block (separator_item v) = Unit {0}

-- The profile over a run that the plain reader accepts to its end: it accepts the run too, with the same rows and the same
-- state; or it accepts a beginning, and refuses the next group with 51 at one of its entries.
pub data ByProfile (block : ℕ) (s : Reader) (run : List Image) (lent rows : List (List ℕ)) (final : Reader) : Type 0 where
  of_one_length : ToEndBlocks block s run lent rows final → ByProfile block s run lent rows final
  another_length : (beginning : List Image) (g : Image) (rest : List Image) → run ≡ beginning ++ (g ∷ rest) → (lent_before before : List (List ℕ)) (state : Reader) →
      ToEndBlocks block s beginning lent_before before state → (old : List ℕ) (place : ℕ) → 1 ≤ place → place ≤ g.entries →
      blocks_read_call block state g.bytes g.number g.entries (length old) ≡ answer.Refused state 51 place → ByProfile block s run lent rows final
