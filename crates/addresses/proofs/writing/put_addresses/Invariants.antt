use Rattle.addresses.proofs.Putting.{Laying}
use Rattle.addresses.proofs.writing.put_addresses.Given as goal

abbrev pub invariant-loop-a : goal.invariant-loop-a
invariant-loop-a l = Laying l.sep l.a-items l.initial.end l.initial.out l.out l.a-index l.end
