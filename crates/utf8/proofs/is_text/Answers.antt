-- The loop judges the rest as the whole, from the printable front on.
use mathlib.Core.Path.{sym}
use Rattle.utf8.proofs.Turns.{turn_first, turn_out, turn_end}
use Rattle.utf8.proofs.is_text.Goals as goal

pub loop-b-init : goal.loop-b-init
loop-b-init c = turn_first _ c.printable_end.ensures

pub returns-in_default : goal.returns-in_default
returns-in_default c = turn_out c.loop-b.invariant c.loop-b-test.true (sym c.if-not-is_text_byte.ensures) c.in_default.ensures

pub returns : goal.returns
returns c = turn_end c.loop-b.invariant c.loop-b-test.false
