-- The length of a mask: its leading ones, where they are all the ones it has (`mask_is`, `mask_apart`, `mask_no_ones`).
use Rattle.std.proofs.Common.{arith}
use Rattle.addresses.proofs.Masking.{mask_no_ones, mask_small, mask_is, mask_apart}
use Rattle.addresses.proofs.masks.mask_length.Goals as goal

pub returns-then-n-eq0 : goal.returns-then-n-eq0
returns-then-n-eq0 c = mask_no_ones _ c.if-n-eq0.true

pub overflow_cast-result : goal.overflow_cast-result
overflow_cast-result c = omega (arith, mask_small c.args.m c.ranges.m.fits c.if-n-m.true)

pub returns-then-n-m : goal.returns-then-n-m
returns-then-n-m c = mask_is _ c.ranges.m.fits c.if-n-m.true c.if-n-eq0.false

pub returns-else-n-m : goal.returns-else-n-m
returns-else-n-m c = mask_apart _ c.if-n-m.false
