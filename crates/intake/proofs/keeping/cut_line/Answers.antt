-- A part of the input is in the line, or ends it: `cuts_line`, `cuts_end`.
use Rattle.intake.proofs.Parts.{cuts_line, cuts_end}
use Rattle.intake.proofs.keeping.cut_line.Goals as goal

pub returns-then-end-s : goal.returns-then-end-s
returns-then-end-s c = rw c.if-ended.false (cuts_line c.line_end-end.ensures c.if-end-s.true)

pub returns : goal.returns
returns c = rw c.if-ended.false (cuts_end c.line_end-end.ensures c.if-end-s.false)
