-- An address: eight groups where there is no "::", and the two sides spread where there is.
use Rattle.std.proofs.Common.{◌∙◌}
use Rattle.ipv6.proofs.Spreading.{whole_broken, whole_eight, whole_other, front_broken, back_broken, sides_spread}
use Rattle.ipv6.proofs.reading.read_address.Goals as goal

pub returns-in_err-whole : goal.returns-in_err-whole
returns-in_err-whole c = rw c.from_residual.ensures (whole_broken _ c.in_default.ensures c.in_err-whole.ensures)

pub returns-then-whole-eq16 : goal.returns-then-whole-eq16
returns-then-whole-eq16 c = whole_eight _ c.in_default.ensures c.in_ok-whole.ensures c.if-whole-eq16.true

pub returns-else-whole-eq16 : goal.returns-else-whole-eq16
returns-else-whole-eq16 c = whole_other _ c.in_default.ensures c.in_ok-whole.ensures c.if-whole-eq16.false

pub returns-in_err-front : goal.returns-in_err-front
returns-in_err-front c = rw c.from_residual-in_err-front.ensures (front_broken c.in-Some.ensures c.in_err-front.ensures)

pub returns-in_err-back : goal.returns-in_err-back
returns-in_err-back c = rw c.from_residual-in_err-back.ensures (back_broken c.in-Some.ensures c.in_ok-front.ensures c.in_err-back.ensures)

pub returns : goal.returns
returns c = c.spread.ensures ∙ sides_spread c.in-Some.ensures c.in_ok-front.ensures c.in_ok-back.ensures
