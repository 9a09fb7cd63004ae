-- One, two or three digits, which are a number if nothing else stands before the next dot: a law for each return.
use Rattle.addresses.proofs.Octets.{octet_none, octet_one, octet_led, octet_two, octet_big, octet_three}
use Rattle.addresses.proofs.numbers.read_octet.Goals as goal

pub returns-in_err-a : goal.returns-in_err-a
returns-in_err-a c = rw c.from_residual.ensures (octet_none c.in_err-a.ensures)

pub returns-in_default : goal.returns-in_default
returns-in_default c = octet_one c.in_ok-a.ensures c.in_default.ensures

pub returns-then-a-eq0 : goal.returns-then-a-eq0
returns-then-a-eq0 c = octet_led c.in_ok-a.ensures c.in-Some.ensures c.if-a-eq0.true

pub returns-in_default-digit_at : goal.returns-in_default-digit_at
returns-in_default-digit_at c = octet_two c.in_ok-a.ensures c.in-Some.ensures c.if-a-eq0.false c.in_default-digit_at.ensures

pub returns-then-v-gt255 : goal.returns-then-v-gt255
returns-then-v-gt255 c = octet_big c.in_ok-a.ensures c.in-Some.ensures c.if-a-eq0.false c.in-Some-digit_at.ensures c.if-v-gt255.true

pub returns : goal.returns
returns c = octet_three c.in_ok-a.ensures c.in-Some.ensures c.if-a-eq0.false c.in-Some-digit_at.ensures c.if-v-gt255.false
