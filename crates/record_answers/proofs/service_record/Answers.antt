-- There is such a service, or it is refused.
use native.Mathlib.Omega.{arith}
use Rattle.settings.proofs.ServiceFile.{row_few, found_kept}
use Rattle.record_answers.proofs.Asked.{service_good, service_refused}
use borrow.Author.Rules.{rules}
use Rattle.record_answers.proofs.service_record.Goals as goal

pub base_of-row-requires : goal.base_of-row-requires
base_of-row-requires c = omega (arith, row_few c.args.service c.read-reading.ensures c.asked_of-answer.ensures c.in-Ok.is)

pub service_found-requires : goal.service_found-requires
service_found-requires c = found_kept c.args.service c.read-reading.ensures c.asked_of-answer.ensures c.in-Ok.is c.base_of-row.ensures

pub returns-in-Ok : goal.returns-in-Ok
returns-in-Ok c = service_good c.args.service c.read-reading.ensures c.asked_of-answer.ensures c.args.servers.now c.in-Ok.is c.base_of-row.ensures c.service_found.ensures

pub returns-in-Err : goal.returns-in-Err
returns-in-Err c = service_refused c.args.service c.read-reading.ensures c.asked_of-answer.ensures c.args.servers.now c.in-Err.is c.refused.ensures
