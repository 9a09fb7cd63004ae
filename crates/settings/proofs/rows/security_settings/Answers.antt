-- The group Security, slot by slot.
use Rattle.places.specs.declared.KeyName.TheVariants as N
use Rattle.settings.proofs.Rowwise.{security_typed}
use Rattle.values.proofs.KeptValues.{key_in}
use Rattle.settings.proofs.rows.security_settings.Goals as goal

pub key_at-requires : goal.key_at-requires
key_at-requires c = key_in N.PreSharedKey c.requires

pub returns : goal.returns
returns c = security_typed c.line_of.ensures c.key_at.ensures
