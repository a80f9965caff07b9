-- Explanations from C, by computation.
-- Assumes nothing.
use mathlib.Core.Path.{◌≡◌, refl}
use Rattle.numbers.specs.Numbers.{number_at, bytes_of, in_eights}
use Rattle.group.specs.Entries.{entry_at, entries_below}
use Rattle.group.specs.Flags.{meaning_of}
use Rattle.group.specs.State.{run_sound}
use Rattle.entry.specs.Rules.{may_follow, entry_fault}
use Rattle.entry.specs.Scan.{scan}
use Rattle.reader.specs.Answer.{is_repeat, read_refusal, group_scan}
use Rattle.reasons.specs.Reasons.{permitted, entry_reason, call_reason}
use Rattle.explain.specs.Explanation.{explained}
use Rattle.states.specs.States.{reader_of, reader_meant}
use Rattle.c_explain.specs.Calls.{state_explained, dds_explain}
use Rattle.c_explain.specs.Worked.{explanations_shown, explanations_expected}

pub worked : explanations_shown ≡ explanations_expected
unfolding number_at bytes_of in_eights entry_at entries_below meaning_of run_sound may_follow entry_fault scan is_repeat read_refusal group_scan permitted entry_reason call_reason explained reader_of reader_meant state_explained dds_explain
worked = refl
