-- What is kept is kept of some input.
use Rattle.intake.specs.Input.{SomeInput}
use Rattle.intake.proofs.streams.read_input.Given as goal

abbrev pub invariant-loop : goal.invariant-loop
invariant-loop g l = SomeInput l.number l.name l.file l.kept
