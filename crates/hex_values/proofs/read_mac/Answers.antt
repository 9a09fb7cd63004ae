-- Six pairs, one by one: the loop keeps the pairs read and the rest (`Paired`).
use mathlib.Core.Path.{◌∙◌}
use Rattle.hex_values.proofs.Pairs.{mac_other, mac_first, paired_first, paired_end, paired_colon, paired_broken, paired_turn}
use Rattle.hex_values.proofs.read_mac.Goals as goal

pub returns-then-s-ne17 : goal.returns-then-s-ne17
returns-then-s-ne17 c = mac_other _ c.if-s-ne17.true

pub returns-in_err-bytes : goal.returns-in_err-bytes
returns-in_err-bytes c = c.from_residual.ensures ∙ mac_first _ c.if-s-ne17.false c.in_err-bytes.ensures

pub loop-n-init : goal.loop-n-init
loop-n-init c = paired_first _ c.if-s-ne17.false c.in_ok-bytes.ensures

pub returns-then-s-n-ne58 : goal.returns-then-s-n-ne58
returns-then-s-n-ne58 c = paired_colon c.loop-n.invariant c.loop-n-test.true c.if-s-n-ne58.true

pub returns-in_err-bytes-2 : goal.returns-in_err-bytes-2
returns-in_err-bytes-2 c = c.from_residual-in_err-bytes-2.ensures ∙ paired_broken c.loop-n.invariant c.loop-n-test.true c.if-s-n-ne58.false c.in_err-bytes-2.ensures

pub loop-n-preserved : goal.loop-n-preserved
loop-n-preserved c = paired_turn c.loop-n.invariant c.loop-n-test.true c.if-s-n-ne58.false c.in_ok-bytes-2.ensures

pub returns : goal.returns
returns c = paired_end c.loop-n.invariant c.loop-n-test.false
