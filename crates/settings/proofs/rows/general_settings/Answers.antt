-- The group Settings, slot by slot.
use Rattle.places.specs.declared.KeyName.TheVariants as N
use Rattle.settings.proofs.Rowwise.{general_typed}
use Rattle.values.proofs.KeptValues.{key_in}
use Rattle.settings.proofs.rows.general_settings.Goals as goal

pub mac_at-requires : goal.mac_at-requires
mac_at-requires c = key_in N.AddressOverride c.requires

pub returns : goal.returns
returns c = general_typed c.choice_at.ensures c.choice_at-2.ensures c.choice_at-3.ensures c.mac_at.ensures
