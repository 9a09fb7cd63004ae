use Rattle.escapes.proofs.Loops.{Unescaping}
use Rattle.escapes.proofs.put_string.Given as goal

abbrev pub invariant-loop-b : goal.invariant-loop-b
invariant-loop-b l = Unescaping l.s l.b-index l.after l.n l.initial.out l.out
