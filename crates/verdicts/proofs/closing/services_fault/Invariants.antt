-- No service that was asked has a fault.
use mathlib.Core.Path.{◌≡◌}
use Rattle.std.specs.Prelude.{None}
use Rattle.verdicts.specs.Closing.{slots_fault}
use Rattle.verdicts.proofs.closing.services_fault.Given as goal

abbrev pub invariant-loop-i : goal.invariant-loop-i
invariant-loop-i l = slots_fault l.x l.i ≡ None
