-- The lines of the list, one in front of the other.
use Rattle.mover.proofs.Lines.{all_lines}
use Rattle.mover.proofs.unplaced.unplaced_line.Goals as goal

pub returns : goal.returns
returns c = all_lines c.numbers_line-numbers.ensures c.is_foreign-foreign.ensures c.line_if.ensures c.earlier-security.ensures c.is_word-wired.ensures c.line_if-2.ensures c.earlier.ensures
