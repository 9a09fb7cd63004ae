-- The address, the mask and the gateway, each on its line (`static_size`).
use native.Mathlib.Omega.{arith}
use Rattle.addresses.specs.Sizes.{dotted_short}
use Rattle.addressing.specs.Addressing.{gateway_if}
use Rattle.rendering.proofs.Bounds.{gateway_short}
use Rattle.rendering.proofs.sizes.static_len.Goals as goal

pub overflow_add-result : goal.overflow_add-result
overflow_add-result c = omega (arith, dotted_short c.args.i.address, c.address_len-own.ensures)

pub overflow_add-result-2 : goal.overflow_add-result-2
overflow_add-result-2 c = omega (arith, dotted_short c.args.i.address, dotted_short c.mask_bytes.result, c.address_len-own.ensures, c.address_len-mask.ensures)

pub overflow_add-result-3 : goal.overflow_add-result-3
overflow_add-result-3 c = omega (arith, dotted_short c.args.i.address, dotted_short c.mask_bytes.result, c.address_len-own.ensures, c.address_len-mask.ensures, gateway_short (gateway_if c.args.i.has_gateway c.args.i.gateway), c.gateway_len.ensures)
