-- The lengths first, and then byte by byte.
use mathlib.Core.Path.{refl, sym}
use Rattle.text.specs.Laws.{same_differ}
use Rattle.text.proofs.Alike.{alike_turn, alike_stop, alike_end}
use borrow.Author.Rules.{rules}
use Rattle.text.proofs.words.equal.Goals as goal

pub returns-then-a-b : goal.returns-then-a-b
returns-then-a-b c = sym (same_differ c.args.a.now c.args.b.now c.if-a-b.true)

pub loop-i-init : goal.loop-i-init
loop-i-init c = record { within = search rules; lengths = search rules; rest = refl }

pub returns-then-a-i : goal.returns-then-a-i
returns-then-a-i c = alike_stop c.loop-i.invariant (search rules) c.if-a-i.true

pub loop-i-preserved : goal.loop-i-preserved
loop-i-preserved c = alike_turn c.loop-i.invariant (search rules) c.if-a-i.false

pub returns : goal.returns
returns c = alike_end c.loop-i.invariant (search rules)
