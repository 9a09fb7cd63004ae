-- What is kept answers for the whole input (`kept_moved`).
use Rattle.qewaris_move.proofs.Answering.{kept_moved}
use borrow.Author.Rules.{rules}
use Rattle.qewaris_move.proofs.move_kept.Goals as goal

pub returns : goal.returns
returns c = λ i name h. kept_moved i h (search rules) (search rules) c.service_number-service.ensures c.move_named.ensures
