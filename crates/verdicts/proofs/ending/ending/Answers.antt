-- No fault of the groups, or the first.
use Rattle.verdicts.proofs.WholeFile.{ends}
use Rattle.verdicts.proofs.ending.ending.Goals as goal

pub returns-in-None : goal.returns-in-None
returns-in-None c = ends c.args.kind c.groups_fault.ensures (rw c.in-None.is)

pub returns-in-Some : goal.returns-in-Some
returns-in-Some c = ends c.args.kind c.groups_fault.ensures (rw c.in-Some.is)
