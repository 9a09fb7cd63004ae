-- The group IPv4, slot by slot.
use Rattle.places.specs.declared.KeyName.TheVariants as N
use Rattle.settings.proofs.Rowwise.{ipv4_typed}
use Rattle.values.proofs.KeptValues.{key_in, mask_in}
use Rattle.settings.proofs.rows.ipv4_settings.Goals as goal

pub address_at-requires : goal.address_at-requires
address_at-requires c = key_in N.Address c.requires

pub address_at-requires-2 : goal.address_at-requires-2
address_at-requires-2 c = key_in N.Gateway c.requires

pub address_at-requires-3 : goal.address_at-requires-3
address_at-requires-3 c = key_in N.Broadcast c.requires

pub netmask_at-requires : goal.netmask_at-requires
netmask_at-requires c = mask_in c.requires

pub count_at-requires : goal.count_at-requires
count_at-requires c = key_in N.Dns c.requires

pub returns : goal.returns
returns c = ipv4_typed c.address_at.ensures c.address_at-2.ensures c.address_at-3.ensures c.netmask_at.ensures c.count_at.ensures c.line_of.ensures c.choice_at.ensures
