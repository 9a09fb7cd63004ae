-- How long a list is: the first address, and the others in a loop, each with a separator (`Measuring`).
use Rattle.addresses.proofs.Putting.{rest, rest_length, measuring_first, measuring_turn, measuring_end}
use Rattle.addresses.specs.Sizes.{dotted_short}
use Rattle.std.proofs.Common.{◌≡◌, [], length, get_or, arith, rules}
use Rattle.addresses.proofs.writing.addresses_len.Goals as goal

pub loop-a-init : goal.loop-a-init
loop-a-init c = measuring_first _ (omega (arith, c.address_len-n.ensures, dotted_short (get_or c.args.list 0 [])))

pub overflow_add-n : goal.overflow_add-n
overflow_add-n c = omega (arith, c.address_len.ensures, dotted_short (get_or (rest c.args.count c.args.list) c.loop-a.a-index []))

pub overflow_add-n-in-loop-a : goal.overflow_add-n-in-loop-a
overflow_add-n-in-loop-a c = let h : length c.args.list ≡ 4 = search rules in
    omega (arith, c.address_len.ensures, c.loop-a.invariant.small, rest_length c.args.count c.args.list (omega arith), dotted_short (get_or (rest c.args.count c.args.list) c.loop-a.a-index []))

pub loop-a-preserved : goal.loop-a-preserved
loop-a-preserved c = measuring_turn c.loop-a.invariant c.loop-a-test.true c.address_len.ensures

pub returns : goal.returns
returns c = let h : length c.args.list ≡ 4 = search rules in measuring_end c.args.sep c.args.list c.args.count c.requires.0 (omega arith) c.address_len-n.ensures c.loop-a.invariant c.loop-a-test.false
