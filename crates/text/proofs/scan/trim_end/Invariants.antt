use Rattle.text.proofs.Loops.{Trimming}
use Rattle.text.proofs.scan.trim_end.Given as goal

abbrev pub invariant-loop-i : goal.invariant-loop-i
invariant-loop-i l = Trimming l.s l.from l.i
