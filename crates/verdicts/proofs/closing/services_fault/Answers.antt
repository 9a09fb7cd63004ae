-- The fault of a service is the first, where those before it have none.
use Rattle.verdicts.proofs.ServicesFault.{fault_broken}
use Rattle.verdicts.proofs.closing.services_fault.Goals as goal

pub returns-in-Some : goal.returns-in-Some
returns-in-Some c = fault_broken c.args.x.now c.loop-i.i c.loop-i.invariant c.service_rule.ensures c.in-Some.is c.args.n c.loop-i-test.true c.wide-line.ensures
