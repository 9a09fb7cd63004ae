-- There is such a service, or it is refused; demand 3 is the definition's.
use native.Mathlib.Omega.{arith}
use Rattle.settings.proofs.ServiceFile.{row_few, found_kept}
use Rattle.mover.proofs.Moving.{move_good, move_refused}
use Rattle.mover.proofs.move_service.Goals as goal

pub base_of-row-requires : goal.base_of-row-requires
base_of-row-requires c = omega (arith, row_few c.args.service c.read-reading.ensures c.asked_of-answer.ensures c.in-Ok.is)

pub move_found-requires : goal.move_found-requires
move_found-requires c = found_kept c.args.service c.read-reading.ensures c.asked_of-answer.ensures c.in-Ok.is c.base_of-row.ensures

pub returns-in-Ok : goal.returns-in-Ok
returns-in-Ok c = move_good c.args.service c.read-reading.ensures c.asked_of-answer.ensures c.args.name_out.now c.args.file_out.now c.in-Ok.is c.base_of-row.ensures c.move_found.ensures

pub returns-in-Err : goal.returns-in-Err
returns-in-Err c = move_refused c.args.service c.read-reading.ensures c.asked_of-answer.ensures c.args.name_out.now c.args.file_out.now c.in-Err.is c.refused.ensures
