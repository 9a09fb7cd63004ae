use Rattle.addresses.proofs.Putting.{Measuring}
use Rattle.addresses.proofs.writing.addresses_len.Given as goal

abbrev pub invariant-loop-a : goal.invariant-loop-a
invariant-loop-a l = Measuring l.a-items l.initial.n l.a-index l.n
