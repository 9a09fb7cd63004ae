-- A zero more, or none.
use native.Mathlib.Numerals.{add-one}
use borrow.Author.Tests.{eq-eqb, ne_eqb}
use Rattle.ipv6.proofs.writing.zeros_from.Goals as goal

pub returns-then-g-eq0 : goal.returns-then-g-eq0
returns-then-g-eq0 c = rw (eq-eqb c.args.g 0 c.if-g-eq0.true) (add-one c.args.n)

pub returns-else-g-eq0 : goal.returns-else-g-eq0
returns-else-g-eq0 c = rw (ne_eqb c.args.g 0 c.if-g-eq0.false)
