-- The zero record.
use borrow.Author.Rules.{rules}
use Rattle.record_answers.proofs.refused.Goals as goal

pub returns : goal.returns
returns c = rw c.zero_record-record.ensures
