-- Whether the key is the word, by cases.
use mathlib.Core.Path.{sym, ◌∙◌}
use Rattle.tables.proofs.keys.place_or.Goals as goal

pub returns-then-equal : goal.returns-then-equal
returns-then-equal c = rw (sym c.equal.ensures ∙ c.if-equal.true)

pub returns : goal.returns
returns c = rw (sym c.equal.ensures ∙ c.if-equal.false)
