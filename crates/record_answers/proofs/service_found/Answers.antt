-- The service has a record, or it has none.
use Rattle.std.proofs.Common.{sym, ◌∙◌}
use Rattle.places.specs.declared.KeyName.TheVariants as N
use Rattle.values.proofs.KeptValues.{key_in}
use Rattle.record_answers.proofs.Asked.{found_hindered, found_joined}
use borrow.Author.Rules.{rules}
use Rattle.record_answers.proofs.service_found.Goals as goal

pub hindrance_at-requires : goal.hindrance_at-requires
hindrance_at-requires c = c.requires.table

pub list_at-count-requires : goal.list_at-count-requires
list_at-count-requires c = key_in N.Nameservers c.requires

pub service_join-requires : goal.service_join-requires
service_join-requires c = record { kept = c.requires; counted = c.list_at-count.ensures.0 }

pub returns-in-Some : goal.returns-in-Some
returns-in-Some c = found_hindered c.hindrance_at.ensures c.args.servers.now c.in-Some.is c.refused.ensures

pub returns : goal.returns
returns c = found_joined c.hindrance_at.ensures c.args.servers.now c.in_default.is c.service_join.ensures c.list_at-count.ensures.1 c.answered.ensures
