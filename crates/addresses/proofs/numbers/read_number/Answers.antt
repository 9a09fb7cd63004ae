-- The number that the digits write: the loop values what is left of them.
use Rattle.addresses.proofs.Reading.{number_empty, number_zero, number_led, valuing_first, valuing_low, valuing_high, valuing_big, valuing_turn, valuing_end}
use Rattle.addresses.proofs.numbers.read_number.Goals as goal

pub returns-then-s-eq0 : goal.returns-then-s-eq0
returns-then-s-eq0 c = search number_empty

pub returns-then-s-eq1 : goal.returns-then-s-eq1
returns-then-s-eq1 c = search number_zero

pub returns-else-s-eq1 : goal.returns-else-s-eq1
returns-else-s-eq1 c = search number_led

pub loop-c-init : goal.loop-c-init
loop-c-init c = search valuing_first

pub returns-then-c-lt48 : goal.returns-then-c-lt48
returns-then-c-lt48 c = search valuing_low

pub returns-then-c-gt57 : goal.returns-then-c-gt57
returns-then-c-gt57 c = search valuing_high

pub returns-then-most-v : goal.returns-then-most-v
returns-then-most-v c = search valuing_big

pub loop-c-preserved : goal.loop-c-preserved
loop-c-preserved c = search valuing_turn

pub returns : goal.returns
returns c = search valuing_end
