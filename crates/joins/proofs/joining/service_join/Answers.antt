-- Each part by the row of the service, and the parts together.
use Rattle.places.specs.declared.KeyName.TheVariants as N
use Rattle.values.proofs.KeptValues.{key_in}
use Rattle.joins.proofs.Assembling.{service_joined_lem}
use borrow.Author.Rules.{rules}
use Rattle.joins.proofs.joining.service_join.Goals as goal

pub service_name-requires : goal.service_name-requires
service_name-requires c = c.requires.kept

pub service_login-requires : goal.service_login-requires
service_login-requires c = c.requires.kept

pub hidden_at-requires : goal.hidden_at-requires
hidden_at-requires c = c.requires.kept.table

pub service_ipv4-requires : goal.service_ipv4-requires
service_ipv4-requires c = c.requires.kept

pub domain_at-requires : goal.domain_at-requires
domain_at-requires c = key_in N.Domain c.requires.kept

pub service_ipv6-requires : goal.service_ipv6-requires
service_ipv6-requires c = c.requires.kept

pub returns : goal.returns
returns c = service_joined_lem c.service_name.ensures c.service_login.ensures c.hidden_at.ensures c.service_ipv4.ensures c.requires.counted c.domain_at.ensures c.service_ipv6.ensures c.assemble.ensures
