-- The settings, and their number and line.
use mathlib.Core.Path.{ap}
use Rattle.qewaris.proofs.Seeing.{tells_answer}
use Rattle.settings.specs.declared.ServiceAnswer.{ServiceAnswer}
use borrow.Author.Rules.{rules}
use Rattle.qewaris.proofs.typed.service_settings.Goals as goal

pub returns : goal.returns
returns c = record { value = c.service_settings.ensures.value; servers_after = c.service_settings.ensures.servers_after; tells_answer = tells_answer _ (ap (λ (a : ServiceAnswer). a.answer) c.service_settings.ensures.value) }
