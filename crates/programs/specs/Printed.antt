-- Document 01, "Bench program": what a program prints of a whole input, step after step.
-- Assumes nothing.
use Rattle.std.specs.Prelude.{ℕ, zero, suc, ◌+◌, ◌*◌, List, [], ◌++◌, leb, length, take, drop, Option, Some, None}
use Rattle.reader.specs.declared.Reader.{Reader}
use Rattle.sections.specs.declared.Sections.{Sections}
use Rattle.sections.specs.declared.Sections.TheVariants.{Next, Bad, Whole}
use Rattle.sections.specs.Sections.{sections_of, pair_at}
use Rattle.telling.specs.Telling.{Step, bad_step, end_step}
use Rattle.programs.specs.Steps.{Program, start_of, group_of}

-- What is printed after a step: nothing where it stopped the run.
abbrev pub onward : Option Reader → (Reader → List ℕ) → List ℕ
onward (Some s) rest = rest s
onward None rest = []

abbrev pub and_then : Step → (Reader → List ℕ) → List ℕ
and_then step rest = step.text ++ onward step.then rest

-- "images are read one group at a time, and extra bytes are looked for after the last group's lines and before `end`": `left`
-- groups of `size` bytes are left of these images, from pair i on.
unfoldable pub groups_printed : Program → (left i size : ℕ) (input images : List ℕ) → Reader → List ℕ
groups_printed program zero i size input images s = (end_step s (leb 1 (length images))).text
groups_printed program (suc left) i size input images s =
    and_then (group_of program i s (leb size (length images)) (take size images) (pair_at input i))
    (λ t. groups_printed program left (i + 1) size input (drop size images) t)

-- "A section out of range, short input .. print `bad run file`"; the run starts "after the third count".
abbrev pub sections_printed : Program → List ℕ → Sections → List ℕ
sections_printed program input (Next to) = bad_step.text
sections_printed program input Bad = bad_step.text
sections_printed program input (Whole size groups) =
    and_then (start_of program size (pair_at input 0)) (λ s. groups_printed program groups 0 size input (drop (16 + 4 * groups) input) s)

-- All that is printed of an input.
unfoldable pub printed : Program → List ℕ → List ℕ
printed program input = sections_printed program input (sections_of input)
