-- The worked refusals, by computation.
-- Assumes nothing.
use mathlib.Core.Path.{◌≡◌, refl}
use Rattle.words.specs.Words.{decimal_in, decimal, field, labelled, kind_name}
use Rattle.lines.specs.Text.{refusal_line}
use Rattle.reason_lines.specs.Lines.{wrong, byte_of, where_line, limits, permitted_names, found_words, found_line, refused_lines}
use Rattle.reason_lines.specs.Worked.{lines_shown, lines_expected}

pub worked : lines_shown ≡ lines_expected
unfolding decimal_in decimal field labelled kind_name refusal_line wrong byte_of where_line limits permitted_names found_words found_line refused_lines
worked = refl
