use Rattle.ipv6.proofs.Putting.{Laying}
use Rattle.ipv6.proofs.writing.put_rest.Given as goal

abbrev pub invariant-loop-g : goal.invariant-loop-g
invariant-loop-g l = Laying l.gs l.at l.initial.out l.out l.g-index l.end
