-- The passphrase of the row, and no key.
use Rattle.std.proofs.Common.{refl}
use Rattle.kinds.specs.Kinds.{string}
use Rattle.places.specs.declared.KeyName.TheVariants as N
use Rattle.values.proofs.KeptValues.{key_in}
use Rattle.joins.proofs.Choosing.{login_is}
use borrow.Author.Rules.{rules}
use Rattle.joins.proofs.parts.service_login.Goals as goal

pub value_of-requires : goal.value_of-requires
value_of-requires c = key_in N.Passphrase c.requires

pub returns : goal.returns
unfolding string
returns c = login_is _ _ (rw c.value_of.ensures at c.read_string-phrase.ensures) refl c.login_of.ensures
