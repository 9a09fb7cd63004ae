-- Four stores.
use mathlib.Core.Path.{refl}
use Rattle.places.specs.Store.{stored}
use borrow.Author.Rules.{rules}
use Rattle.places.proofs.store.put_slot.Goals as goal

pub returns : goal.returns
unfolding stored
returns c = refl
