-- The Area IDs, the Pack IDs and the headers that are worked out, by computation.
-- Assumes nothing.
use mathlib.Core.Path.{◌≡◌, refl}
use mathlib.Core.List.{map}
use Rattle.header.specs.Header.{area_kept, header_of}
use Rattle.header.specs.Worked.{areas, areas_allowed, packs, packs_allowed, made, bytes_of_row, headers}

pub worked_areas : areas ≡ areas_allowed
unfolding area_kept
worked_areas = refl

pub worked_packs : packs ≡ packs_allowed
worked_packs = refl

pub worked_headers : map made headers ≡ map bytes_of_row headers
unfolding header_of
worked_headers = refl
