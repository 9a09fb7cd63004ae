-- The place, laid out.
use borrow.Author.Rules.{rules}
use Rattle.qewaris.proofs.exports.qewaris_iwd_domain_name.Goals as goal

pub returns : goal.returns
returns c = rw (c.text_at.ensures, c.iwd_domain_name.ensures.is)
