-- What the move answers, laid out.
use Rattle.qewaris.proofs.Exporting.{writes_at}
use borrow.Author.Rules.{rules}
use Rattle.qewaris.proofs.exports.qewaris_move_service.Goals as goal

pub returns : goal.returns
returns c = writes_at c.move_service.ensures.moves.is c.written_at.ensures
