-- Two or three pieces between slashes.
use Rattle.std.proofs.Common.{sym}
use Rattle.addresses.specs.Addresses.{prefix_length_of}
use Rattle.addressing.proofs.Fixing.{one_piece, more_pieces}
use Rattle.ipv6.specs.Ipv6.{ipv6}
use Rattle.ipv6_values.proofs.Lengths.{parts_unsized, parts_static, parts_unrouted, parts_routed}
use Rattle.ipv6_values.proofs.read_parts.Goals as goal

pub returns-then-a-s : goal.returns-then-a-s
returns-then-a-s c = rw (one_piece ipv6 (prefix_length_of 128) c.find_near-a.ensures c.if-a-s.true)

pub returns-in_err-address : goal.returns-in_err-address
returns-in_err-address c = rw (c.from_residual.ensures, parts_unsized c.find_near-a.ensures c.if-a-s.false c.find_near-b.ensures c.in_err-address.ensures)

pub returns-then-b-s : goal.returns-then-b-s
returns-then-b-s c = rw (c.numbered.ensures, parts_static c.find_near-a.ensures c.if-a-s.false c.find_near-b.ensures c.in_ok-address.ensures c.if-b-s.true)

pub returns-then-e-s : goal.returns-then-e-s
returns-then-e-s c = rw (more_pieces ipv6 (prefix_length_of 128) c.find_near-a.ensures c.if-a-s.false c.find_near-b.ensures c.if-b-s.false c.find-e.ensures c.if-e-s.true)

pub returns-in_err-address-2 : goal.returns-in_err-address-2
returns-in_err-address-2 c = rw (c.from_residual-in_err-address-2.ensures, parts_unsized c.find_near-a.ensures c.if-a-s.false c.find_near-b.ensures c.in_err-address-2.ensures)

pub returns-in_err-gateway : goal.returns-in_err-gateway
returns-in_err-gateway c = rw (c.from_residual-in_err-gateway.ensures, parts_unrouted c.find_near-a.ensures c.if-a-s.false c.find_near-b.ensures c.in_ok-address-2.ensures c.if-b-s.false c.find-e.ensures c.if-e-s.false (sym c.in_err-gateway.ensures))

pub returns : goal.returns
returns c = rw (c.numbered-2.ensures, parts_routed c.find_near-a.ensures c.if-a-s.false c.find_near-b.ensures c.in_ok-address-2.ensures c.if-b-s.false c.find-e.ensures c.if-e-s.false (sym c.in_ok-gateway.ensures))
