-- The place, laid out.
use borrow.Author.Rules.{rules}
use Rattle.qewaris.proofs.exports.qewaris_service_name.Goals as goal

pub returns : goal.returns
returns c = rw (c.text_at.ensures, c.service_name.ensures.is)
