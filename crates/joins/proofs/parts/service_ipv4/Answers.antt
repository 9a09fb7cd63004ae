-- The IPv4 of the row, or dhcp.
use Rattle.std.proofs.Common.{◌∙◌}
use Rattle.places.specs.declared.KeyName.TheVariants as N
use Rattle.values.proofs.KeptValues.{key_in}
use Rattle.joins.proofs.Choosing.{numbers_or_auto}
use borrow.Author.Rules.{rules}
use Rattle.joins.proofs.parts.service_ipv4.Goals as goal

pub ipv4_at-requires : goal.ipv4_at-requires
ipv4_at-requires c = key_in N.Ipv4 c.requires

pub returns : goal.returns
returns c = c.unwrap_or.ensures ∙ rw (c.ipv4_at.ensures, c.unnumbered.ensures) (numbers_or_auto 4 _)
