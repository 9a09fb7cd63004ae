-- The IPv6 of the row, or auto.
use Rattle.std.proofs.Common.{◌∙◌}
use Rattle.places.specs.declared.KeyName.TheVariants as N
use Rattle.values.proofs.KeptValues.{key_in}
use Rattle.joins.proofs.Choosing.{numbers_or_auto}
use borrow.Author.Rules.{rules}
use Rattle.joins.proofs.parts.service_ipv6.Goals as goal

pub ipv6_at-requires : goal.ipv6_at-requires
ipv6_at-requires c = key_in N.Ipv6 c.requires

pub returns : goal.returns
returns c = c.unwrap_or.ensures ∙ rw (c.ipv6_at.ensures, c.unnumbered.ensures) (numbers_or_auto 16 _)
