-- A digit or a letter from a to f, one comparison after the other.
use mathlib.Core.Path.{sym, ◌∙◌}
use Rattle.text.proofs.classes.is_lower_hex.Goals as goal

pub returns-then-within : goal.returns-then-within
returns-then-within c = rw (sym c.within.ensures ∙ c.if-within.true) c.if-within.true

pub returns-else-within : goal.returns-else-within
returns-else-within c = rw (sym c.within.ensures ∙ c.if-within.false) c.within-else-within.ensures
