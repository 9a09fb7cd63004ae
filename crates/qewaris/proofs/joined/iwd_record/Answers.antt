-- The record, and its number and line.
use mathlib.Core.Path.{ap}
use Rattle.qewaris.proofs.Seeing.{tells_answer}
use Rattle.joins.specs.declared.RecordAnswer.{RecordAnswer}
use borrow.Author.Rules.{rules}
use Rattle.qewaris.proofs.joined.iwd_record.Goals as goal

pub returns : goal.returns
returns c = record { value = c.iwd_record.ensures.0; servers_after = c.iwd_record.ensures.1; tells_answer = tells_answer _ (ap (λ (a : RecordAnswer). a.answer) c.iwd_record.ensures.0) }
