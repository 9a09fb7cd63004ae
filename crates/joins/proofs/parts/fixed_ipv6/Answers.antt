-- The address with its length, and the gateway, of the row.
use Rattle.places.specs.declared.KeyName.TheVariants as N
use Rattle.values.proofs.KeptValues.{key_in}
use Rattle.joins.proofs.Choosing.{ipv6_given}
use borrow.Author.Rules.{rules}
use Rattle.joins.proofs.parts.fixed_ipv6.Goals as goal

pub with_length_at-requires : goal.with_length_at-requires
with_length_at-requires c = key_in N.Ipv6Address c.requires

pub ipv6_address_at-requires : goal.ipv6_address_at-requires
ipv6_address_at-requires c = key_in N.Ipv6Gateway c.requires

pub returns : goal.returns
returns c = ipv6_given _ _ c.with_length_at.ensures c.ipv6_address_at.ensures c.ipv6_of.ensures
