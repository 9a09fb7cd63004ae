use Rattle.addresses.proofs.Finding.{Octets}
use Rattle.addresses.proofs.numbers.address_at.Given as goal

abbrev pub invariant-loop-n : goal.invariant-loop-n
invariant-loop-n l = Octets l.s l.bytes l.from l.at l.n
