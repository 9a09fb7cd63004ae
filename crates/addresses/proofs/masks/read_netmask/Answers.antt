-- The length of a mask in text: the address that is read, and its number's mask length (`netmask_some`).
use Rattle.addresses.proofs.Masking.{netmask_broken, netmask_some}
use Rattle.std.proofs.Common.{sym, ◌∙◌}
use Rattle.addresses.proofs.masks.read_netmask.Goals as goal

pub returns-in_err-bytes : goal.returns-in_err-bytes
returns-in_err-bytes c = rw c.from_residual.ensures (netmask_broken _ (sym c.in_err-bytes.ensures))

pub returns : goal.returns
returns c = c.mask_length.ensures ∙ netmask_some _ (sym c.in_ok-bytes.ensures) c.from_be_bytes.ensures
