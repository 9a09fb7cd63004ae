-- By whether a gateway is given.
use native.Mathlib.Omega.{arith}
use Rattle.addresses.specs.Sizes.{dotted_short}
use Rattle.rendering.proofs.sizes.gateway_len.Goals as goal

pub overflow_add-result : goal.overflow_add-result
overflow_add-result c = omega (arith, dotted_short c.args.i.gateway, c.address_len.ensures)
