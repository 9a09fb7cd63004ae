-- The SSID, else the Name, else no bytes.
use Rattle.std.proofs.Common.{◌∙◌}
use Rattle.kinds.specs.Kinds.{string}
use Rattle.places.specs.declared.KeyName.TheVariants as N
use Rattle.values.proofs.KeptValues.{key_in}
use Rattle.joins.proofs.Choosing.{name_or_none}
use borrow.Author.Rules.{rules}
use Rattle.joins.proofs.parts.service_name.Goals as goal

pub ssid_at-ssid-requires : goal.ssid_at-ssid-requires
ssid_at-ssid-requires c = key_in N.Ssid c.requires

pub value_of-requires : goal.value_of-requires
value_of-requires c = key_in N.Name c.requires

pub returns : goal.returns
unfolding string
returns c =
    c.unwrap_or.ensures
    ∙ rw (c.or.ensures, c.ssid_at-ssid.ensures, c.read_string-name.ensures, c.value_of.ensures, c.none.ensures) (name_or_none 32 _ _)
