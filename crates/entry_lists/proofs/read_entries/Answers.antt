-- The loop keeps the entries read and their places (`Entering`).
use mathlib.Core.Path.{ap}
use Rattle.std.proofs.Common.{not}
use Rattle.entry_lists.proofs.Entering.{entering_first, entering_full, entering_broken, entering_end, entering_turn}
use Rattle.entry_lists.proofs.read_entries.Goals as goal

pub loop-n-init : goal.loop-n-init
loop-n-init c = entering_first _ _

pub returns-then-not-is_entry : goal.returns-then-not-is_entry
returns-then-not-is_entry c = entering_broken c.loop-n.invariant c.find-end.ensures c.is_entry.ensures (ap not c.if-not-is_entry.true)

pub returns-then-end-s : goal.returns-then-end-s
returns-then-end-s c = entering_end c.loop-n.invariant c.find-end.ensures c.is_entry.ensures (ap not c.if-not-is_entry.false) c.loop-n-test.true c.if-end-s.true

pub loop-n-preserved : goal.loop-n-preserved
loop-n-preserved c = entering_turn c.loop-n.invariant c.find-end.ensures c.is_entry.ensures (ap not c.if-not-is_entry.false) c.loop-n-test.true c.if-end-s.false

pub returns : goal.returns
returns c = entering_full c.loop-n.invariant c.loop-n-test.false
