use Rattle.addresses.proofs.Reading.{Valuing}
use Rattle.addresses.proofs.numbers.read_number.Given as goal

abbrev pub invariant-loop-c : goal.invariant-loop-c
invariant-loop-c l = Valuing l.most l.s l.c-index l.v
