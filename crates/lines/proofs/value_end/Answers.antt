-- The end of a value, by the dialect.
use Rattle.lines.proofs.FormSteps.{ends_iwd, ends_connman}
use borrow.Author.Rules.{rules}
use Rattle.lines.proofs.value_end.Goals as goal

pub returns-in-Iwd : goal.returns-in-Iwd
returns-in-Iwd c = ends_iwd _ _ _ (search rules) c.in-Iwd.is

pub returns-in-ConnMan : goal.returns-in-ConnMan
returns-in-ConnMan c = ends_connman _ c.trim_end.ensures c.in-ConnMan.is
