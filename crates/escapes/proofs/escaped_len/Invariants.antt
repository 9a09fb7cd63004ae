use Rattle.escapes.proofs.Loops.{EscapedSoFar}
use Rattle.escapes.proofs.escaped_len.Given as goal

abbrev pub invariant-loop-i : goal.invariant-loop-i
invariant-loop-i l = EscapedSoFar l.s l.i l.n
