-- By the form: one name where it is complete, no name where it is not.
use Rattle.qewaris_move.proofs.Answering.{complete_moved, incomplete_moved}
use borrow.Author.Rules.{rules}
use Rattle.qewaris_move.proofs.move_named.Goals as goal

pub returns-then-is_connman : goal.returns-then-is_connman
returns-then-is_connman c = complete_moved c.args.service c.args.file.now c.is_connman.ensures c.if-is_connman.true c.move_service.ensures.is

pub returns : goal.returns
returns c = incomplete_moved c.args.service c.args.file.now c.is_connman.ensures c.if-is_connman.false c.move_service-2.ensures.is
