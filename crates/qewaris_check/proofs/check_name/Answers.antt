-- The name and the dialect that it asks for.
use mathlib.Core.Path.{sym}
use borrow.Author.Rules.{rules}
use Rattle.qewaris_check.proofs.check_name.Goals as goal

pub returns : goal.returns
returns c = rw (sym c.dialect_of.ensures) c.check.ensures.is
