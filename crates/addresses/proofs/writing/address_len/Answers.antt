-- How long an address is: its numbers and three dots (`dotted_length`), which is at most 15 (`dotted_short`).
use Rattle.std.proofs.Common.{arith}
use Rattle.addresses.specs.Sizes.{dotted_length, dotted_short}
use Rattle.addresses.proofs.writing.address_len.Goals as goal

pub overflow_add-result : goal.overflow_add-result
overflow_add-result c = let a = c.args.a in omega (arith, dotted_length a, dotted_short a)

pub overflow_add-result-2 : goal.overflow_add-result-2
overflow_add-result-2 c = let a = c.args.a in omega (arith, dotted_length a, dotted_short a)

pub overflow_add-result-3 : goal.overflow_add-result-3
overflow_add-result-3 c = let a = c.args.a in omega (arith, dotted_length a, dotted_short a)

pub overflow_add-result-4 : goal.overflow_add-result-4
overflow_add-result-4 c = let a = c.args.a in omega (arith, dotted_length a, dotted_short a)

pub returns : goal.returns
returns c = omega (arith, dotted_length c.args.a)
