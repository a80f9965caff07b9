-- A block of each row of Table 3, as one theorem over one list, by computation.
-- Assumes nothing.
use mathlib.Core.Path.{◌≡◌, refl}
use mathlib.Core.List.{map}
use Rattle.items.specs.Items.{contents, row_of, item_number}
use Rattle.items.specs.Worked.{numbers_of_row, contents_of_row, table_three}

pub worked_items : map numbers_of_row table_three ≡ map contents_of_row table_three
unfolding contents row_of item_number
worked_items = refl
