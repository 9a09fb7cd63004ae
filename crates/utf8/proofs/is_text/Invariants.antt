use Rattle.utf8.proofs.Turns.{Turn}
use Rattle.utf8.proofs.is_text.Given as goal

abbrev pub invariant-loop-b : goal.invariant-loop-b
invariant-loop-b l = Turn l.line l.s l.b-items l.b-index l.d
