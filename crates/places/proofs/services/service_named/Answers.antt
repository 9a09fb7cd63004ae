-- The loop looks at one name after the other, the last first.
use mathlib.Core.Path.{ap, ◌∙◌}
use Rattle.text.specs.Words.{same}
use Rattle.places.proofs.Seeking.{seeking_end, seeking_found, seeking_turn}
use borrow.Author.Rules.{rules}
use Rattle.places.proofs.services.service_named.Goals as goal

pub returns-then-equal : goal.returns-then-equal
returns-then-equal c = seeking_found c.loop-i.invariant c.loop-i-test.true (c.equal.ensures ∙ ap (same c.args.name.now) c.value_at.ensures) c.if-equal.true

pub loop-i-preserved : goal.loop-i-preserved
loop-i-preserved c = seeking_turn c.loop-i.invariant c.loop-i-test.true (c.equal.ensures ∙ ap (same c.args.name.now) c.value_at.ensures) c.if-equal.false

pub returns : goal.returns
returns c = seeking_end c.loop-i.invariant c.loop-i-test.false
