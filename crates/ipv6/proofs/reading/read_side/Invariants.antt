use Rattle.std.proofs.Common.{◌*◌}
use Rattle.ipv6.proofs.Siding.{Siding}
use Rattle.ipv6.proofs.reading.read_side.Given as goal

abbrev pub invariant-loop-i : goal.invariant-loop-i
invariant-loop-i l = Siding l.dotted l.s l.bytes l.at (2 * l.i)
