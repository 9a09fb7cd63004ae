-- An address: four writers, one behind another (`then`); the room is that of its parts (`dotted_length`).
use Rattle.std.proofs.Common.{arith}
use Rattle.put.specs.Laws.{then}
use Rattle.addresses.specs.Addresses.{dotted}
use Rattle.addresses.specs.Sizes.{dotted_length}
use Rattle.addresses.proofs.writing.put_address.Goals as goal

pub put_decimal-p-requires : goal.put_decimal-p-requires
unfolding dotted
put_decimal-p-requires c = omega (arith, dotted_length c.args.a)

pub put_dot_then-q-requires : goal.put_dot_then-q-requires
unfolding dotted
put_dot_then-q-requires c = omega (arith, dotted_length c.args.a)

pub put_dot_then-r-requires : goal.put_dot_then-r-requires
unfolding dotted
put_dot_then-r-requires c = omega (arith, dotted_length c.args.a)

pub put_dot_then-requires : goal.put_dot_then-requires
unfolding dotted
put_dot_then-requires c = omega (arith, dotted_length c.args.a)

pub returns : goal.returns
unfolding dotted
returns c = then
    (then
    (then c.put_decimal-p.ensures c.put_dot_then-q.ensures)
    c.put_dot_then-r.ensures)
    c.put_dot_then.ensures
