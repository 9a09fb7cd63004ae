-- The bytes of a mask: the shift is the power of two that the mask leaves off (`shift_is`).
use Rattle.std.proofs.Common.{◌∙◌, arith}
use Rattle.addresses.proofs.Masking.{shift_some, shift_most, mask_written}
use Rattle.addresses.proofs.masks.mask_bytes.Goals as goal

pub overflow_sub-m : goal.overflow_sub-m
overflow_sub-m c = shift_most _ c.requires

pub overflow_cast-m-2 : goal.overflow_cast-m-2
overflow_cast-m-2 c = omega (arith, shift_some c.args.k c.requires)

pub returns : goal.returns
returns c = c.to_be_bytes.ensures ∙ mask_written _ c.requires
