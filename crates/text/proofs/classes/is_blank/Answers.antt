use borrow.Author.Tests.{eq-eqb, ne_eqb}
use Rattle.text.proofs.classes.is_blank.Goals as goal

pub returns-then-x-eq32 : goal.returns-then-x-eq32
returns-then-x-eq32 c = rw (eq-eqb _ _ c.if-x-eq32.true)

pub returns-else-x-eq32 : goal.returns-else-x-eq32
returns-else-x-eq32 c = rw (ne_eqb _ _ c.if-x-eq32.false)
