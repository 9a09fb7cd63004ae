use mathlib.Core.Path.{sym}
use Rattle.text.proofs.Loops.{trim_turn, trim_stop}
use borrow.Author.Rules.{rules}
use Rattle.text.proofs.scan.trim_end.Goals as goal

pub returns-then-not-is_blank : goal.returns-then-not-is_blank
returns-then-not-is_blank c = trim_stop c.loop-i.invariant (search rules) (sym c.if-not-is_blank.ensures)

pub loop-i-preserved : goal.loop-i-preserved
loop-i-preserved c = trim_turn c.loop-i.invariant (search rules) (sym c.if-not-is_blank.ensures)
