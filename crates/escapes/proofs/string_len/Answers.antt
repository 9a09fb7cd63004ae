-- The loop goes from backslash to backslash (`Sizing`).
use Rattle.escapes.proofs.Loops.{sizing_first, sizing_short, sizing_bad, sizing_turn, sizing_end}
use native.Mathlib.Omega.{arith}
use mathlib.Core.Path.{◌∙◌}
use Rattle.text.proofs.ScanLaws.{stop_low}
use Rattle.escapes.proofs.string_len.Goals as goal

pub loop-i-init : goal.loop-i-init
loop-i-init c = sizing_first _ c.find-i.ensures

pub returns-in_err-c : goal.returns-in_err-c
returns-in_err-c c = c.from_residual.ensures ∙ sizing_short c.loop-i.invariant c.loop-i-test.true c.in_err-c.ensures.lookup.0

pub returns-in_err-stands_for : goal.returns-in_err-stands_for
returns-in_err-stands_for c =
    let h = c.in_ok-c.ensures.lookup in
    c.from_residual-in_err-stands_for.ensures ∙ sizing_bad c.loop-i.invariant c.loop-i-test.true h.0 h.1 c.in_err-stands_for.ensures

pub loop-i-smaller : goal.loop-i-smaller
loop-i-smaller c = omega (arith, stop_low c.find_near-i.ensures, c.loop-i-test.true)

pub loop-i-preserved : goal.loop-i-preserved
loop-i-preserved c =
    let h = c.in_ok-c.ensures.lookup in
    sizing_turn c.loop-i.invariant c.loop-i-test.true h.0 h.1 c.in_ok-stands_for.ensures c.find_near-i.ensures

pub returns : goal.returns
returns c = sizing_end c.loop-i.invariant c.loop-i-test.false
