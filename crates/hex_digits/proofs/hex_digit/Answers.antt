-- A digit below 10 and one from 10 on, by `digit_low` and `digit_high`.
use Rattle.hex_digits.proofs.Loops.{digit_low, digit_high}
use Rattle.hex_digits.proofs.hex_digit.Goals as goal

pub returns-then-n-lt10 : goal.returns-then-n-lt10
returns-then-n-lt10 c = search digit_low

pub returns : goal.returns
returns c = search digit_high
