-- The place, laid out.
use borrow.Author.Rules.{rules}
use Rattle.qewaris.proofs.exports.qewaris_global_name.Goals as goal

pub returns : goal.returns
returns c = rw (c.text_at.ensures, c.global_name.ensures.is)
