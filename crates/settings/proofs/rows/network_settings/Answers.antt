-- The network of a service, slot by slot.
use Rattle.places.specs.declared.KeyName.TheVariants as N
use Rattle.settings.proofs.Rowwise.{network_typed}
use Rattle.values.proofs.KeptValues.{key_in}
use Rattle.settings.proofs.rows.network_settings.Goals as goal

pub ssid_at-requires : goal.ssid_at-requires
ssid_at-requires c = key_in N.Ssid c.requires

pub returns : goal.returns
returns c = network_typed c.chosen_at.ensures c.line_of.ensures c.ssid_at.ensures c.line_of-2.ensures c.chosen_at-2.ensures c.choice_at.ensures
