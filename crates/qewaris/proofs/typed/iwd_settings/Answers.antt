-- The settings, and their number and line.
use mathlib.Core.Path.{ap}
use Rattle.qewaris.proofs.Seeing.{tells_answer}
use Rattle.settings.specs.declared.IwdAnswer.{IwdAnswer}
use borrow.Author.Rules.{rules}
use Rattle.qewaris.proofs.typed.iwd_settings.Goals as goal

pub returns : goal.returns
returns c = record { value = c.iwd_settings.ensures.value; servers_after = c.iwd_settings.ensures.servers_after; tells_answer = tells_answer _ (ap (λ (a : IwdAnswer). a.answer) c.iwd_settings.ensures.value) }
