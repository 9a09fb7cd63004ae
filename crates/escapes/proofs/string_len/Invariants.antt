use lib.ListN.{length}
use Prim.Native.Nat.{◌-◌}
use Rattle.escapes.proofs.Loops.{Sizing}
use Rattle.escapes.proofs.string_len.Given as goal

abbrev pub invariant-loop-i : goal.invariant-loop-i
invariant-loop-i l = Sizing l.s l.i l.less

abbrev pub decreases-loop-i : goal.decreases-loop-i
decreases-loop-i l = length l.s - l.i
