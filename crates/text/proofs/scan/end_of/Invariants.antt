use Rattle.std.proofs.Common.{ℕ, Bool, ◌-◌, length}
use Rattle.text.specs.Scans.{Computes, Scan}
use Rattle.text.proofs.scan.end_of.Given as goal

abbrev pub invariant-loop-i : goal.invariant-loop-i
invariant-loop-i g l = (p : ℕ → Bool) → Computes (goal.F-post g l.is) p → Scan p l.s l.from l.i

abbrev pub decreases-loop-i : goal.decreases-loop-i
decreases-loop-i g l = length l.s - l.i
