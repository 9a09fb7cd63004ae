-- The reading, laid out.
use borrow.Author.Rules.{rules}
use Rattle.qewaris.proofs.exports.qewaris_check_connman.Goals as goal

pub returns : goal.returns
returns c = rw (c.reading_at.ensures, c.check.ensures.is)
