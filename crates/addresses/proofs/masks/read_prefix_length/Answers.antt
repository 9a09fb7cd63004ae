-- The length in digits: a number of at most most that is not 0 (`prefix_zero`, `prefix_some`).
use Rattle.addresses.proofs.Masking.{prefix_broken, prefix_zero, prefix_some}
use Rattle.std.proofs.Common.{sym}
use Rattle.addresses.proofs.masks.read_prefix_length.Goals as goal

pub returns-in_err-k : goal.returns-in_err-k
returns-in_err-k c = rw c.from_residual.ensures (prefix_broken _ _ (sym c.in_err-k.ensures))

pub returns-then-k-eq0 : goal.returns-then-k-eq0
returns-then-k-eq0 c = prefix_zero _ _ (sym c.in_ok-k.ensures) c.if-k-eq0.true

pub returns-else-k-eq0 : goal.returns-else-k-eq0
returns-else-k-eq0 c = prefix_some _ _ (sym c.in_ok-k.ensures) c.if-k-eq0.false
