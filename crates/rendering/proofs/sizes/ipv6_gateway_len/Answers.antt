-- By whether a gateway is given.
use native.Mathlib.Omega.{arith}
use Rattle.ipv6.specs.Written.{canonical_short}
use borrow.Author.Rules.{rules}
use Rattle.rendering.proofs.sizes.ipv6_gateway_len.Goals as goal

pub overflow_add-result : goal.overflow_add-result
overflow_add-result c = omega (arith, canonical_short c.args.i.gateway (search rules), c.address_len.ensures)
