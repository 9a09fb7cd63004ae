-- The settings and the name servers, laid out.
use borrow.Author.Rules.{rules}
use Rattle.qewaris.proofs.exports.qewaris_service_settings_of.Goals as goal

pub returns : goal.returns
returns c = rw (c.service_settings_at.ensures, c.service_settings-answer.ensures.value, c.service_settings-answer.ensures.servers_after)
