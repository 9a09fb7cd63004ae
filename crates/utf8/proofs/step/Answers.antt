-- A step over one byte, by the laws of the steps.
use mathlib.Core.Path.{sym}
use Rattle.utf8.proofs.Turns.{step_first, step_out, step_next}
use Rattle.utf8.proofs.step.Goals as goal

pub returns-then-d-eq0 : goal.returns-then-d-eq0
returns-then-d-eq0 c = step_first c.if-d-eq0.true c.follows.ensures

pub returns-then-not-within : goal.returns-then-not-within
returns-then-not-within c = step_out c.if-d-eq0.false (sym c.if-not-within.ensures)

pub returns : goal.returns
returns c = step_next c.if-d-eq0.false (sym c.if-not-within.ensures)
