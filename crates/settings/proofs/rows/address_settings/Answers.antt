-- The addresses of a service, slot by slot.
use Rattle.places.specs.declared.KeyName.TheVariants as N
use Rattle.settings.proofs.Rowwise.{address_typed}
use Rattle.values.proofs.KeptValues.{key_in}
use Rattle.settings.proofs.rows.address_settings.Goals as goal

pub ipv4_at-requires : goal.ipv4_at-requires
ipv4_at-requires c = key_in N.Ipv4 c.requires

pub ipv6_at-requires : goal.ipv6_at-requires
ipv6_at-requires c = key_in N.Ipv6 c.requires

pub mac_at-requires : goal.mac_at-requires
mac_at-requires c = key_in N.Mac c.requires

pub count_at-requires : goal.count_at-requires
count_at-requires c = key_in N.Nameservers c.requires

pub entries_at-requires : goal.entries_at-requires
entries_at-requires c = key_in N.SearchDomains c.requires

pub entries_at-requires-2 : goal.entries_at-requires-2
entries_at-requires-2 c = key_in N.Timeservers c.requires

pub returns : goal.returns
returns c = address_typed c.ipv4_at.ensures c.ipv6_at.ensures c.chosen_at.ensures c.mac_at.ensures c.count_at.ensures c.entries_at.ensures c.entries_at-2.ensures c.line_of.ensures
