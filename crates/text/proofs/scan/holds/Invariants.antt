use Rattle.std.proofs.Common.{◌≡◌, ℕ, Bool, true, ◌+◌}
use Rattle.text.specs.Scans.{Computes, Scan}
use Rattle.text.proofs.scan.holds.Given as goal

abbrev pub invariant-loop-j : goal.invariant-loop-j
invariant-loop-j g l = (p : ℕ → Bool) → Computes (goal.F-post g l.is) p → l.all ≡ true → Scan p l.s l.i (l.i + l.j)
