use Rattle.addresses.proofs.Listing.{Addressing}
use Rattle.addresses.proofs.lists.fill_addresses.Given as goal

abbrev pub invariant-loop-n : goal.invariant-loop-n
invariant-loop-n l = Addressing l.sep l.s l.list l.at l.n
