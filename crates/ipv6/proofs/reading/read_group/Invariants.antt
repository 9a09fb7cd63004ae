use Rattle.ipv6.proofs.Parsing.{Digits}
use Rattle.ipv6.proofs.reading.read_group.Given as goal

abbrev pub invariant-loop-i : goal.invariant-loop-i
invariant-loop-i l = Digits l.s l.at l.i l.v
