use Rattle.std.proofs.Common.{◌-◌}
use Rattle.ipv6.proofs.Putting.{Running}
use Rattle.ipv6.proofs.writing.longest_run.Given as goal

abbrev pub invariant-loop-k : goal.invariant-loop-k
invariant-loop-k l = Running l.gs (8 - l.k) l.n l.best
