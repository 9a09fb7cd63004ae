-- The address, the mask's length and the gateway of the row.
use Rattle.places.specs.declared.KeyName.TheVariants as N
use Rattle.values.proofs.KeptValues.{key_in, mask_in}
use borrow.Author.Rules.{rules}
use Rattle.joins.proofs.parts.iwd_numbers.Goals as goal

pub address_at-requires : goal.address_at-requires
address_at-requires c = key_in N.Address c.requires

pub netmask_at-requires : goal.netmask_at-requires
netmask_at-requires c = mask_in c.requires

pub address_at-requires-2 : goal.address_at-requires-2
address_at-requires-2 c = key_in N.Gateway c.requires

pub returns : goal.returns
returns c = rw (c.numbers_of.ensures, c.address_at.ensures, c.netmask_at.ensures, c.address_at-2.ensures)
