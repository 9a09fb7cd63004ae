-- The settings and the name servers, laid out.
use borrow.Author.Rules.{rules}
use Rattle.qewaris.proofs.exports.qewaris_iwd_settings_of.Goals as goal

pub returns : goal.returns
returns c = rw (c.iwd_settings_at.ensures, c.iwd_settings-answer.ensures.value, c.iwd_settings-answer.ensures.servers_after)
