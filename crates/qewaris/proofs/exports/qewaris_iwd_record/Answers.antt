-- The record and the name servers, laid out; its lengths fit a byte.
use Rattle.boundary.specs.Laws.{iwd_short}
use borrow.Author.Rules.{rules}
use Rattle.qewaris.proofs.exports.qewaris_iwd_record.Goals as goal

pub record_answer_at-requires : goal.record_answer_at-requires
record_answer_at-requires c = rw c.iwd_record-answer.ensures.value (iwd_short c.args.name.now c.args.file.now)

pub returns : goal.returns
returns c = rw (c.record_answer_at.ensures, c.iwd_record-answer.ensures.value, c.iwd_record-answer.ensures.servers_after)
