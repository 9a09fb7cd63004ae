use Rattle.text.proofs.Alike.{SameSoFar}
use Rattle.text.proofs.words.equal.Given as goal

abbrev pub invariant-loop-i : goal.invariant-loop-i
invariant-loop-i l = SameSoFar l.a l.b l.i
