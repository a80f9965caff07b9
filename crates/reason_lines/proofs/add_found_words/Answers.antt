-- `add_found_words` meets its contract where a kind was found: its name, then the permitted ones. Assumes nothing.
use Rattle.words.proofs.AddedLaws.{added_then}
use Rattle.reason_lines.specs.Lines.{found_words}
use Rattle.reason_lines.proofs.add_found_words.Goals as goal

pub returns-in-10 : goal.returns-in-10
unfolding found_words
returns-in-10 c = rw c.in-10.is (added_then _ _ _ _ _ _ _ c.add_kind.ensures (added_then _ _ _ _ _ _ _ c.add.ensures c.add_kinds.ensures))
