-- What is left of the digits goes behind the number so far.
use Rattle.intake.proofs.NumberSoFar.{NumberSoFar}
use Rattle.intake.proofs.numbers.service_number.Given as goal

abbrev pub invariant-loop-c : goal.invariant-loop-c
invariant-loop-c l = NumberSoFar l.line l.c-index l.v
