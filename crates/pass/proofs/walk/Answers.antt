-- One line at each turn.
use native.Mathlib.Omega.{arith}
use Rattle.text.proofs.ScanLaws.{stop_low}
use Rattle.pass.proofs.Walking.{running_first, running_stop, running_turn, running_comment, running_end}
use Rattle.pass.proofs.walk.Goals as goal

pub loop-at-init : goal.loop-at-init
loop-at-init c = running_first c.args.d c.args.file.now c.requires.small c.requires.empty

pub bounds-file-at : goal.bounds-file-at
bounds-file-at c = c.loop-at-test.true

pub overflow_add-line : goal.overflow_add-line
overflow_add-line c = let h = c.loop-at.invariant in omega (arith, h.high, h.within, h.small)

pub loop-at-smaller-then-file-at-eq35 : goal.loop-at-smaller-then-file-at-eq35
loop-at-smaller-then-file-at-eq35 c = omega (arith, stop_low c.line_end-end.ensures, c.loop-at-test.true)

pub loop-at-preserved-then-file-at-eq35 : goal.loop-at-preserved-then-file-at-eq35
loop-at-preserved-then-file-at-eq35 c = running_comment c.loop-at.invariant c.loop-at-test.true c.line_end-end.ensures c.if-file-at-eq35.true

pub step-requires : goal.step-requires
step-requires c = let h = c.loop-at.invariant in record { known = h.known; low = stop_low c.line_end-end.ensures; within = c.line_end-end.ensures.within; counted = h.low; small = (h.small, omega (arith, h.high, h.small, c.loop-at-test.true)) }

pub returns-in-Err : goal.returns-in-Err
returns-in-Err c = running_stop c.loop-at.invariant c.loop-at-test.true c.line_end-end.ensures c.step.ensures c.in-Err.is

pub overflow_add-line-in-loop-at : goal.overflow_add-line-in-loop-at
overflow_add-line-in-loop-at c = let h = c.loop-at.invariant in omega (arith, h.high, h.within, h.small)

pub loop-at-smaller : goal.loop-at-smaller
loop-at-smaller c = omega (arith, stop_low c.line_end-end.ensures)

pub loop-at-preserved : goal.loop-at-preserved
loop-at-preserved c = running_turn c.loop-at.invariant c.loop-at-test.true c.line_end-end.ensures c.step.ensures c.in-Ok.is

pub returns : goal.returns
returns c = running_end c.loop-at.invariant c.loop-at-test.false
