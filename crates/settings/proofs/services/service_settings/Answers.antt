-- There is such a service and its settings are given, or it is refused.
use Rattle.settings.proofs.ServiceFile.{row_few, refused_is, servers_kept, found_kept, nameservers_in, service_good, servers_good}
use mathlib.Core.Path.{◌≡◌}
use borrow.Author.Rules.{rules}
use Rattle.settings.specs.Absent.{zero_service_settings}
use Rattle.settings.proofs.services.service_settings.Goals as goal

pub base_of-row-requires : goal.base_of-row-requires
base_of-row-requires c = row_few c.args.service c.read-reading.ensures c.asked_of-answer.ensures c.in-Ok.is

pub servers_at-requires : goal.servers_at-requires
servers_at-requires c = nameservers_in c.args.service c.read-reading.ensures c.asked_of-answer.ensures c.in-Ok.is c.base_of-row.ensures

pub service_row-requires : goal.service_row-requires
service_row-requires c = found_kept c.args.service c.read-reading.ensures c.asked_of-answer.ensures c.in-Ok.is c.base_of-row.ensures

pub returns-in-Ok : goal.returns-in-Ok
returns-in-Ok c = record { value = service_good c.args.service c.read-reading.ensures c.asked_of-answer.ensures c.in-Ok.is c.base_of-row.ensures c.service_row.ensures; servers_after = servers_good c.args.service c.read-reading.ensures c.asked_of-answer.ensures c.in-Ok.is c.base_of-row.ensures c.args.servers.now c.servers_at.ensures }

pub returns-in-Err : goal.returns-in-Err
returns-in-Err c = record { value = refused_is c.args.service c.read-reading.ensures c.asked_of-answer.ensures c.in-Err.is (let z : c.default.result ≡ zero_service_settings = search rules in z); servers_after = servers_kept c.args.service c.read-reading.ensures c.asked_of-answer.ensures c.in-Err.is c.args.servers.now }
