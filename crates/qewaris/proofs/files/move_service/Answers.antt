-- What is moved, and its number and line.
use mathlib.Core.Path.{ap}
use Rattle.qewaris.proofs.Seeing.{tells_answer}
use Rattle.writer.specs.declared.Written.{Written}
use borrow.Author.Rules.{rules}
use Rattle.qewaris.proofs.files.move_service.Goals as goal

pub returns : goal.returns
returns c = record { moves = c.move_service.ensures; tells_answer = tells_answer _ (ap (λ (a : Written). a.answer) c.move_service.ensures.is.answer) }
