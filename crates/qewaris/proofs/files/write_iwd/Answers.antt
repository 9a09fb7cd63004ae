-- What is written, and its number and line.
use mathlib.Core.Path.{ap}
use Rattle.qewaris.proofs.Seeing.{tells_answer}
use Rattle.writer.specs.declared.Written.{Written}
use borrow.Author.Rules.{rules}
use Rattle.qewaris.proofs.files.write_iwd.Goals as goal

pub returns : goal.returns
returns c = record { writes = c.write_iwd.ensures; tells_answer = tells_answer _ (ap (λ (a : Written). a.answer) c.write_iwd.ensures.answer) }
