use Rattle.ipv6.proofs.Putting.{Grouping}
use Rattle.ipv6.proofs.writing.groups_of.Given as goal

abbrev pub invariant-loop-i : goal.invariant-loop-i
invariant-loop-i l = Grouping l.a l.gs l.i
