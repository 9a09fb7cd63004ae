-- The reading is refused, or its record is compared, and then its servers.
use Rattle.reading_back.proofs.ReadBack.{answer_refused, record_differs, record_agrees}
use borrow.Author.Rules.{rules}
use Rattle.reading_back.proofs.is_record.Goals as goal

pub returns-then-same_record : goal.returns-then-same_record
returns-then-same_record c = record_agrees c.iwd_record-answered.ensures c.args.r c.args.servers c.in-Ok.is c.same_record.ensures c.if-same_record.true c.same_servers.ensures

pub returns-else-same_record : goal.returns-else-same_record
returns-else-same_record c = record_differs c.iwd_record-answered.ensures c.args.r c.args.servers c.in-Ok.is c.same_record.ensures c.if-same_record.false

pub returns-in-Err : goal.returns-in-Err
returns-in-Err c = answer_refused c.iwd_record-answered.ensures c.args.r c.args.servers c.in-Err.is
