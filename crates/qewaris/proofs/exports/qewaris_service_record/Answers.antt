-- The record and the name servers, laid out; its lengths fit a byte.
use Rattle.boundary.specs.Laws.{service_short}
use borrow.Author.Rules.{rules}
use Rattle.qewaris.proofs.exports.qewaris_service_record.Goals as goal

pub record_answer_at-requires : goal.record_answer_at-requires
record_answer_at-requires c = rw c.service_record-answer.ensures.value (service_short c.args.name.now c.args.file.now c.args.service)

pub returns : goal.returns
returns c = rw (c.record_answer_at.ensures, c.service_record-answer.ensures.value, c.service_record-answer.ensures.servers_after)
