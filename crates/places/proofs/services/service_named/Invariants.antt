-- None of the names that were looked at is the name.
use Rattle.places.proofs.Seeking.{SeekingName}
use Rattle.places.proofs.services.service_named.Given as goal

abbrev pub invariant-loop-i : goal.invariant-loop-i
invariant-loop-i l = SeekingName l.file l.x l.n l.i l.name
