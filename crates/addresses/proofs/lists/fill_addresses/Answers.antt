-- The addresses of a list: the loop gathers them field by field (`Addressing`).
use Rattle.addresses.proofs.Listing.{addressing_first, addressing_broken, addressing_last, addressing_before, addressing_apart, addressing_turn, addressing_end, addressing_full}
use Rattle.addresses.proofs.lists.fill_addresses.Goals as goal

pub loop-n-init : goal.loop-n-init
loop-n-init c = search addressing_first

pub returns-in_err-end : goal.returns-in_err-end
returns-in_err-end c = rw c.from_residual.ensures (addressing_broken c.loop-n.invariant c.in_err-end.ensures)

pub returns-then-end-s : goal.returns-then-end-s
returns-then-end-s c = addressing_last c.loop-n.invariant c.in_ok-end.ensures c.loop-n-test.true c.if-end-s.true

pub bounds-s-end : goal.bounds-s-end
bounds-s-end c = addressing_before c.loop-n.invariant c.in_ok-end.ensures c.if-end-s.false

pub returns-then-s-end : goal.returns-then-s-end
returns-then-s-end c = addressing_apart c.loop-n.invariant c.in_ok-end.ensures c.if-end-s.false c.separator_byte.ensures c.if-s-end.true

pub returns-in_default : goal.returns-in_default
returns-in_default c = addressing_end c.loop-n.invariant c.in_ok-end.ensures c.if-end-s.false c.separator_byte.ensures c.if-s-end.false c.loop-n-test.true c.in_default.ensures

pub loop-n-preserved : goal.loop-n-preserved
loop-n-preserved c = addressing_turn c.loop-n.invariant c.in_ok-end.ensures c.if-end-s.false c.separator_byte.ensures c.if-s-end.false c.loop-n-test.true c.in-Some.ensures

pub returns : goal.returns
returns c = search addressing_full
