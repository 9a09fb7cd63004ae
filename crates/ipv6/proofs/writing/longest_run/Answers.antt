-- The longest run, from the last group to the first (`Running`).
use Rattle.std.proofs.Common.{◌≡◌, ◌+◌, ◌-◌, length, arith, rules}
use Rattle.ipv6.proofs.Putting.{running_first, running_turn, running_end}
use Rattle.ipv6.proofs.writing.longest_run.Goals as goal

pub loop-k-init : goal.loop-k-init
loop-k-init c = search running_first

pub loop-k-preserved : goal.loop-k-preserved
loop-k-preserved c = let long : length c.args.gs ≡ 8 = search rules in
    let j : 8 - (c.loop-k.k + 1) ≡ 7 - c.loop-k.k = omega arith in
    rw j (running_turn c.loop-k.invariant long (omega (arith, c.loop-k-test.true)) c.zeros_from-n.ensures c.longer_of-best.ensures)

pub returns : goal.returns
returns c = let long : length c.args.gs ≡ 8 = search rules in running_end c.loop-k.invariant long (omega (arith, c.loop-k-test.false))
