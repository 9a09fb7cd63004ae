-- Each part by the row of its group, and the parts together.
use Rattle.places.specs.declared.KeyName.TheVariants as N
use Rattle.values.proofs.KeptValues.{key_in}
use Rattle.joins.proofs.Assembling.{general_row, security_row, ipv4_row, ipv6_row, iwd_joined_lem}
use borrow.Author.Rules.{rules}
use Rattle.joins.proofs.joining.iwd_join.Goals as goal

pub iwd_login-requires : goal.iwd_login-requires
iwd_login-requires c = rw c.base_of.ensures (security_row c.requires.rows)

pub hidden_at-requires : goal.hidden_at-requires
hidden_at-requires c = rw c.base_of-2.ensures (general_row c.requires.rows).table

pub iwd_numbers-requires : goal.iwd_numbers-requires
iwd_numbers-requires c = rw c.base_of-row.ensures (ipv4_row c.requires.rows)

pub domain_at-requires : goal.domain_at-requires
domain_at-requires c = rw c.base_of-row.ensures (key_in N.DomainName (ipv4_row c.requires.rows))

pub iwd_ipv6-requires : goal.iwd_ipv6-requires
iwd_ipv6-requires c = rw c.base_of-3.ensures (ipv6_row c.requires.rows)

pub returns : goal.returns
returns c = iwd_joined_lem c.args.name.now c.requires.rows c.network_name.ensures (rw c.base_of.ensures at c.iwd_login.ensures) (rw c.base_of-2.ensures at c.hidden_at.ensures) (rw c.base_of-row.ensures at c.iwd_numbers.ensures) c.requires.counted (rw c.base_of-row.ensures at c.domain_at.ensures) (rw c.base_of-3.ensures at c.iwd_ipv6.ensures) c.assemble.ensures
