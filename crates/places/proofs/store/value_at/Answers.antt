-- The part from the start to the end that the slot keeps.
use mathlib.Core.Path.{refl}
use borrow.Author.Rules.{rules}
use Rattle.places.proofs.store.value_at.Goals as goal

pub returns : goal.returns
returns c = rw (c.wide-end.ensures, c.wide-start.ensures) refl
