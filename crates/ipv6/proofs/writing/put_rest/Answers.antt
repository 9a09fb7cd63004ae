-- The groups one after another (`Laying`).
use Rattle.ipv6.proofs.Putting.{laying_turn}
use Rattle.ipv6.proofs.writing.put_rest.Goals as goal

pub loop-g-preserved : goal.loop-g-preserved
loop-g-preserved c = laying_turn c.loop-g.invariant c.loop-g-test.true c.put_with_colon-end.ensures
