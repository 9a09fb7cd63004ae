-- The address that starts the text, if it ends it: a law for each return.
use Rattle.addresses.proofs.Finding.{address_none, address_followed, address_whole}
use Rattle.addresses.proofs.numbers.read_address.Goals as goal

pub returns-in_err-a : goal.returns-in_err-a
returns-in_err-a c = rw c.from_residual.ensures (address_none _ c.in_err-a.ensures)

pub returns-then-a-s : goal.returns-then-a-s
returns-then-a-s c = address_whole _ c.in_ok-a.ensures c.if-a-s.true

pub returns-else-a-s : goal.returns-else-a-s
returns-else-a-s c = address_followed _ c.in_ok-a.ensures c.if-a-s.false
