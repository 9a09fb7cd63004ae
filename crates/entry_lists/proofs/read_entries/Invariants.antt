use Rattle.entry_lists.proofs.Entering.{Entering}
use Rattle.entry_lists.proofs.read_entries.Given as goal

abbrev pub invariant-loop-n : goal.invariant-loop-n
invariant-loop-n l = Entering l.base l.s l.at l.n l.places
