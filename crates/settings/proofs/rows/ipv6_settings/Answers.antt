-- The group IPv6, slot by slot.
use Rattle.places.specs.declared.KeyName.TheVariants as N
use Rattle.settings.proofs.Rowwise.{ipv6_typed}
use Rattle.values.proofs.KeptValues.{key_in}
use Rattle.settings.proofs.rows.ipv6_settings.Goals as goal

pub with_length_at-requires : goal.with_length_at-requires
with_length_at-requires c = key_in N.Ipv6Address c.requires

pub ipv6_address_at-requires : goal.ipv6_address_at-requires
ipv6_address_at-requires c = key_in N.Ipv6Gateway c.requires

pub returns : goal.returns
returns c = ipv6_typed c.choice_at.ensures c.with_length_at.ensures c.ipv6_address_at.ensures
