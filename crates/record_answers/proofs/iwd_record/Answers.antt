-- The file is accepted, or it is refused.
use Rattle.record_answers.proofs.Asked.{iwd_rows, iwd_accepted, iwd_refused}
use borrow.Author.Rules.{rules}
use Rattle.record_answers.proofs.iwd_record.Goals as goal

pub iwd_found-requires : goal.iwd_found-requires
iwd_found-requires c = iwd_rows (c.read-reading.ensures.found c.in-Ok.is)

pub returns-in-Ok : goal.returns-in-Ok
returns-in-Ok c = iwd_accepted c.read-reading.ensures c.args.servers.now c.in-Ok.is c.iwd_found.ensures

pub returns-in-Err : goal.returns-in-Err
returns-in-Err c = iwd_refused c.read-reading.ensures c.args.servers.now c.in-Err.is c.refused.ensures
