-- By the form: one name where it is complete, no name where it is not.
use mathlib.Core.Path.{sym, ◌∙◌}
use borrow.Author.Rules.{rules}
use Rattle.qewaris_check.proofs.check_long.Goals as goal

pub returns-then-is_connman : goal.returns-then-is_connman
returns-then-is_connman c = rw (sym c.is_connman.ensures ∙ c.if-is_connman.true) c.check.ensures.is

pub returns : goal.returns
returns c = rw (sym c.is_connman.ensures ∙ c.if-is_connman.false) c.check-2.ensures.is
