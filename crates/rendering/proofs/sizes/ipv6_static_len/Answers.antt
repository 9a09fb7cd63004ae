-- The address with its length, and the gateway (`ipv6_size`).
use native.Mathlib.Omega.{arith}
use Rattle.addresses.specs.Sizes.{decimal_short}
use Rattle.ipv6.specs.Written.{canonical_short}
use Rattle.rendering.proofs.Bounds.{ipv6_gateway_short}
use borrow.Author.Rules.{rules}
use Rattle.rendering.proofs.sizes.ipv6_static_len.Goals as goal

pub overflow_add-result : goal.overflow_add-result
overflow_add-result c = omega (arith, canonical_short c.args.i.address (search rules), decimal_short c.args.i.length, c.address_len-own.ensures)

pub overflow_add-result-2 : goal.overflow_add-result-2
overflow_add-result-2 c = omega (arith, canonical_short c.args.i.address (search rules), decimal_short c.args.i.length, c.address_len-own.ensures, c.decimal_len-digits.ensures)

pub overflow_add-result-3 : goal.overflow_add-result-3
overflow_add-result-3 c = omega (arith, canonical_short c.args.i.address (search rules), decimal_short c.args.i.length, ipv6_gateway_short c.args.i.has_gateway c.args.i.gateway (search rules), c.address_len-own.ensures, c.decimal_len-digits.ensures, c.ipv6_gateway_len.ensures)
