-- Case A of document 01, by computation.
-- Assumes nothing.
use mathlib.Core.Path.{◌≡◌, refl}
use Rattle.numbers.specs.Numbers.{number_at}
use Rattle.group.specs.Entries.{entry_at, entries_below}
use Rattle.group.specs.Flags.{meaning_of}
use Rattle.group.specs.State.{run_sound, start_refusal}
use Rattle.entry.specs.Rules.{may_follow, entry_fault}
use Rattle.entry.specs.Scan.{scan}
use Rattle.rows.specs.Rows.{rows_from}
use Rattle.reader.specs.Answer.{reader_start_call, is_repeat, read_refusal, group_scan, read_call, group_rows}
use Rattle.sections.specs.Sections.{section, images_section, groups_section, size_section, sections_of, pair_at}
use Rattle.words.specs.Words.{decimal_in, decimal, field, labelled, kind_name}
use Rattle.lines.specs.Text.{group_line, row_line, row_lines, group_lines, refusal_line, ending, end_line, bad_line}
use Rattle.telling.specs.Telling.{bad_step, start_step, read_step, group_step, end_step}
use Rattle.programs.specs.Steps.{Lister}
use Rattle.programs.specs.Printed.{groups_printed, printed}
use Rattle.programs.specs.CaseA.{input, output}

-- "Output, whole" of case A.
pub case_a_lem : printed Lister input ≡ output
unfolding number_at entry_at entries_below meaning_of run_sound start_refusal may_follow entry_fault scan rows_from reader_start_call is_repeat read_refusal group_scan read_call group_rows section images_section groups_section size_section sections_of pair_at decimal_in decimal field labelled kind_name group_line row_line row_lines group_lines refusal_line ending end_line bad_line bad_step start_step read_step group_step end_step groups_printed printed
case_a_lem = refl
