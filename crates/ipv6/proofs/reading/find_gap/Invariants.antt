use Rattle.std.proofs.Common.{◌-◌, length}
use Rattle.ipv6.proofs.Seeking.{Seeking}
use Rattle.ipv6.proofs.reading.find_gap.Given as goal

abbrev pub invariant-loop-i : goal.invariant-loop-i
invariant-loop-i l = Seeking l.s l.i

abbrev pub decreases-loop-i : goal.decreases-loop-i
decreases-loop-i l = length l.s - l.i
