-- How many digits a number has (`decimal_length_one`, `decimal_length_two`, `decimal_length_three`).
use Rattle.std.proofs.Common.{sym}
use Rattle.addresses.specs.Sizes.{decimal_length_one, decimal_length_two, decimal_length_three}
use Rattle.addresses.proofs.writing.decimal_len.Goals as goal

pub returns-then-n-lt10 : goal.returns-then-n-lt10
returns-then-n-lt10 c = sym (decimal_length_one _ c.if-n-lt10.true)

pub returns-then-n-lt100 : goal.returns-then-n-lt100
returns-then-n-lt100 c = sym (decimal_length_two _ c.if-n-lt10.false c.if-n-lt100.true)

pub returns-else-n-lt100 : goal.returns-else-n-lt100
returns-else-n-lt100 c = sym (decimal_length_three _ c.if-n-lt100.false)
