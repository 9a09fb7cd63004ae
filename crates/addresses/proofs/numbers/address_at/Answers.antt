-- The address that starts at a place: the loop gathers three of its numbers (`Octets`), and the last ends it.
use Rattle.addresses.proofs.Finding.{octets_broken, octets_short, octets_before, octets_apart, octets_turn, octets_found}
use Rattle.addresses.proofs.numbers.address_at.Goals as goal

pub returns-in_err-end : goal.returns-in_err-end
returns-in_err-end c = rw c.from_residual.ensures (octets_broken c.loop-n.invariant c.in_err-end.ensures)

pub returns-then-end-s : goal.returns-then-end-s
returns-then-end-s c = octets_short c.loop-n.invariant c.in_ok-end.ensures c.if-end-s.true c.loop-n-test.true

pub bounds-s-end : goal.bounds-s-end
bounds-s-end c = octets_before c.loop-n.invariant c.in_ok-end.ensures c.if-end-s.false

pub returns-then-s-end-ne46 : goal.returns-then-s-end-ne46
returns-then-s-end-ne46 c = octets_apart c.loop-n.invariant c.in_ok-end.ensures c.if-end-s.false c.if-s-end-ne46.true c.loop-n-test.true

pub loop-n-preserved : goal.loop-n-preserved
loop-n-preserved c = octets_turn c.loop-n.invariant c.in_ok-end.ensures c.if-end-s.false c.if-s-end-ne46.false c.loop-n-test.true

pub returns-in_err-end-2 : goal.returns-in_err-end-2
returns-in_err-end-2 c = rw c.from_residual-in_err-end-2.ensures (octets_broken c.loop-n.invariant c.in_err-end-2.ensures)

pub returns : goal.returns
returns c = octets_found c.loop-n.invariant c.in_ok-end-2.ensures c.loop-n-test.false
