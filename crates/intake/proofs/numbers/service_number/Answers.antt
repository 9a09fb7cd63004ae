-- What is left of the digits goes behind the number so far (`NumberSoFar`).
use Rattle.intake.proofs.NumberSoFar.{so_far_first, so_far_other, so_far_turn, so_far_end}
use Rattle.intake.proofs.numbers.service_number.Goals as goal

pub loop-c-init : goal.loop-c-init
loop-c-init c = search so_far_first

pub returns-then-not-is_digit : goal.returns-then-not-is_digit
returns-then-not-is_digit c = search so_far_other

pub loop-c-preserved : goal.loop-c-preserved
loop-c-preserved c = search so_far_turn

pub returns : goal.returns
returns c = search so_far_end
