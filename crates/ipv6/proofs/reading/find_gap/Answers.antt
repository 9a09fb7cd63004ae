-- The place of the first "::": the loop passes over what is none (`Seeking`).
use Rattle.std.proofs.Common.{arith}
use Rattle.ipv6.proofs.Seeking.{seeking_other, seeking_both, seeking_found, seeking_end}
use Rattle.ipv6.proofs.reading.find_gap.Goals as goal

pub loop-i-preserved-then-s-i-ne58 : goal.loop-i-preserved-then-s-i-ne58
loop-i-preserved-then-s-i-ne58 c = seeking_both c.loop-i.invariant c.loop-i-test.true c.if-s-i-ne58.true

pub returns-then-s-i-eq58 : goal.returns-then-s-i-eq58
returns-then-s-i-eq58 c = seeking_found c.loop-i.invariant (omega arith) c.loop-i-test.true c.if-s-i-eq58.true c.if-s-i-ne58.false

pub loop-i-preserved : goal.loop-i-preserved
loop-i-preserved c = seeking_other c.loop-i.invariant (omega arith) c.if-s-i-eq58.false

pub returns : goal.returns
returns c = seeking_end c.loop-i.invariant c.loop-i-test.false
