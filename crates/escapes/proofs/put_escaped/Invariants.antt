use Rattle.escapes.proofs.Loops.{Putting}
use Rattle.escapes.proofs.put_escaped.Given as goal

abbrev pub invariant-loop-i : goal.invariant-loop-i
invariant-loop-i l = Putting l.s l.i l.at l.initial.out l.out l.p
