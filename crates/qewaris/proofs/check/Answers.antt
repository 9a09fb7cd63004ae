-- The reading of the pass, and what is seen of it.
use Rattle.qewaris.proofs.Seeing.{checks}
use borrow.Author.Rules.{rules}
use Rattle.qewaris.proofs.check.Goals as goal

pub returns : goal.returns
returns c = checks _ _ _ c.read.ensures.is
