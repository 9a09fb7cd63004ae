-- IPv6 in front of what is given, and IPv4 in front of both.
use Rattle.mover.proofs.Lines.{number_lines_lem}
use Rattle.mover.proofs.unplaced.numbers_line.Goals as goal

pub returns : goal.returns
returns c = number_lines_lem c.given_line-given.ensures c.service_ipv6-ipv6.ensures c.ipv6_placed-ipv6_placed.ensures c.line_if.ensures c.earlier-behind.ensures c.service_ipv4-ipv4.ensures c.ipv4_placed-ipv4_placed.ensures c.line_if-2.ensures c.earlier.ensures
