-- A number in decimal, by how many digits it has (`put_one`, `put_two`, `put_three`).
use Rattle.std.proofs.Common.{arith, length-set}
use Rattle.addresses.specs.Sizes.{decimal_length_one, decimal_length_two, decimal_length_three}
use Rattle.addresses.proofs.Putting.{put_one, put_two, put_three}
use Rattle.addresses.proofs.writing.put_decimal.Goals as goal

pub bounds-out-at : goal.bounds-out-at
bounds-out-at c = omega (arith, decimal_length_one c.args.n c.if-n-lt10.true)

pub returns-then-n-lt10 : goal.returns-then-n-lt10
returns-then-n-lt10 c = put_one _ _ _ c.requires c.if-n-lt10.true

pub bounds-out-at-then-n-lt100 : goal.bounds-out-at-then-n-lt100
bounds-out-at-then-n-lt100 c = omega (arith, decimal_length_two c.args.n c.if-n-lt10.false c.if-n-lt100.true)

pub bounds-out-at-then-n-lt100-2 : goal.bounds-out-at-then-n-lt100-2
bounds-out-at-then-n-lt100-2 c = simp length-set (omega (arith, decimal_length_two c.args.n c.if-n-lt10.false c.if-n-lt100.true))

pub returns-then-n-lt100 : goal.returns-then-n-lt100
returns-then-n-lt100 c = put_two _ _ _ c.requires c.if-n-lt10.false c.if-n-lt100.true

pub bounds-out-at-2 : goal.bounds-out-at-2
bounds-out-at-2 c = omega (arith, decimal_length_three c.args.n c.if-n-lt100.false)

pub bounds-out-at-3 : goal.bounds-out-at-3
bounds-out-at-3 c = simp length-set (omega (arith, decimal_length_three c.args.n c.if-n-lt100.false))

pub bounds-out-at-4 : goal.bounds-out-at-4
bounds-out-at-4 c = simp length-set (omega (arith, decimal_length_three c.args.n c.if-n-lt100.false))

pub returns : goal.returns
returns c = put_three _ _ _ c.requires c.if-n-lt100.false
