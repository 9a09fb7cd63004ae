-- The record, and the servers of the row.
use Rattle.places.specs.declared.KeyName.TheVariants as N
use Rattle.values.proofs.KeptValues.{key_in}
use Rattle.joins.proofs.Assembling.{ipv4_row}
use Rattle.record_answers.proofs.Asked.{iwd_servers_lem}
use borrow.Author.Rules.{rules}
use Rattle.record_answers.proofs.iwd_found.Goals as goal

pub list_at-count-requires : goal.list_at-count-requires
list_at-count-requires c = rw c.base_of.ensures (key_in N.Dns (ipv4_row c.requires))

pub iwd_join-record-requires : goal.iwd_join-record-requires
iwd_join-record-requires c = record { rows = c.requires; counted = rw c.base_of.ensures at c.list_at-count.ensures.0 }

pub returns : goal.returns
returns c = (rw (← c.iwd_join-record.ensures) c.answered.ensures, iwd_servers_lem c.args.name.now c.requires (rw c.base_of.ensures at c.list_at-count.ensures.1))
