-- One piece or two between slashes.
use Rattle.std.proofs.Common.{sym}
use Rattle.ipv6_values.proofs.Lengths.{single_none, single_some, with_two, with_more}
use Rattle.ipv6_values.proofs.read_with_length.Goals as goal

pub returns-in_err-address : goal.returns-in_err-address
returns-in_err-address c = rw (c.from_residual.ensures, single_none c.find_near-a.ensures c.if-a-s.true (sym c.in_err-address.ensures))

pub returns-then-a-s : goal.returns-then-a-s
returns-then-a-s c = rw (single_some c.find_near-a.ensures c.if-a-s.true (sym c.in_ok-address.ensures))

pub returns-then-b-s : goal.returns-then-b-s
returns-then-b-s c = rw (with_more c.find_near-a.ensures c.if-a-s.false c.find_near-b.ensures c.if-b-s.true)

pub returns : goal.returns
returns c = rw (with_two c.find_near-a.ensures c.if-a-s.false c.find_near-b.ensures c.if-b-s.false) c.read_sized.ensures
